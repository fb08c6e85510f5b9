-- Prefixes of logs, and what they put.
use Rattle.std.proofs.Common.{◌≡◌, ◌⊎◌, inl, inr, ◌+◌, Bool, true, [], ◌∷◌, ◌++◌, length, take, refl, sym, ◌∙◌, ap, subst, arith, append_assoc}
use Rattle.std.specs.List.{list_all}
use Rattle.std.proofs.lemmas.List.{take_at, append_cancel_left}
use Rattle.std.proofs.lemmas.List.Folds.{list_all-append}
use Rattle.std.proofs.Math.Seq.{take-append-add}
use Rattle.std.proofs.lemmas.Bool.{and_parts}
use Rattle.quilt_world.specs.Added.{Only, is_of_text}
use Rattle.quilt_world.specs.Disk.{Pages, Log, CanLeave}
use Rattle.quilt_world.specs.Stops.{Since, Leaves}
use Rattle.quilt_world.specs.Tale.{Tale, Begins, put_bytes}
use Rattle.quilt_world.specs.declared.event.Event.{Event}
use Rattle.quilt_world.specs.declared.event.Event.TheVariants.{Took, Put, Wrote, Tore, Synced}
use Rattle.quilt_world.proofs.AddedLaws.{only_wider}
use Rattle.quilt_top.specs.Saying.{is_took}

-- ---- a prefix of two logs

pub tails : (e f : Event) (a b : Log) → e ∷ a ≡ f ∷ b → a ≡ b
tails e f a b is = cc

pub heads : (e f : Event) (a b : Log) → e ∷ a ≡ f ∷ b → e ≡ f
heads e f a b is = cc

join : (x e : Event) (a b so : Log) → x ≡ e → Begins a so ⊎ ((more : Log) × (so ≡ a ++ more) × Begins b more)
    → Begins (x ∷ a) (e ∷ so) ⊎ ((more : Log) × (e ∷ so ≡ (x ∷ a) ++ more) × Begins b more)
join x e a b so same (inl within) = inl (within.0, ap (λ (l : Log). x ∷ l) within.1 ∙ ap (λ (y : Event). y ∷ (so ++ within.0)) same)
join x e a b so same (inr past) = inr (past.0, ap (λ (l : Log). e ∷ l) past.1 ∙ ap (λ (y : Event). y ∷ (a ++ past.0)) (sym same), past.2)

pub front_split : (a b so : Log) → Begins (a ++ b) so → Begins a so ⊎ ((more : Log) × (so ≡ a ++ more) × Begins b more)
front_split a b [] front = inl (a, refl)
front_split [] b (e ∷ so) front = inr (e ∷ so, refl, front)
front_split (x ∷ a) b (e ∷ so) front =
    join x e a b so (heads x e (a ++ b) (so ++ front.0) front.1) (front_split a b so (front.0, tails x e (a ++ b) (so ++ front.0) front.1))

-- ---- events of one sort

pub only_front : (sort : Event → Bool) (log so : Log) → Begins log so → Only sort log → Only sort so
only_front sort log so front only =
    (and_parts (list_all sort so) (list_all sort front.0) (sym (list_all-append sort so front.0) ∙ ap (list_all sort) (sym front.1) ∙ only)).0

took_is_text : (e : Event) → is_took e ≡ true → is_of_text e ≡ true
took_is_text (Took bytes) is = refl
took_is_text (Put bytes) is = absurd (cc)
took_is_text (Wrote page bytes) is = absurd (cc)
took_is_text (Tore page) is = absurd (cc)
took_is_text Synced is = absurd (cc)

pub took_text_only : (log : Log) → Only is_took log → Only is_of_text log
took_text_only log only = only_wider is_took is_of_text log took_is_text only

pub took_unput : (log : Log) → Only is_took log → put_bytes log ≡ []
took_unput [] only = refl
took_unput (Took bytes ∷ log) only = took_unput log only
took_unput (Put bytes ∷ log) only = absurd (cc)
took_unput (Wrote page bytes ∷ log) only = absurd (cc)
took_unput (Tore page ∷ log) only = absurd (cc)
took_unput (Synced ∷ log) only = absurd (cc)

-- ---- tales

-- the events that were added are these
pub same_events : (t u : Tale) (a b : Log) → u.log ≡ t.log ++ a → u.log ≡ t.log ++ b → a ≡ b
same_events t u a b p q = append_cancel_left t.log a b (sym p ∙ q)

pub events_then : (t u v : Tale) (a b c : Log) → u.log ≡ t.log ++ a → v.log ≡ u.log ++ b → v.log ≡ t.log ++ c → c ≡ a ++ b
events_then t u v a b c p q r = same_events t v c (a ++ b) r (q ∙ ap (λ (l : Log). l ++ b) p ∙ append_assoc t.log a b)

-- what a stop leaves behind a prefix of the events since
pub stops_at : (P : Pages → Type 0) (t u : Tale) (so rest : Log) → Since t u P → u.log ≡ t.log ++ (so ++ rest) → Leaves t.start (t.log ++ so) P
stops_at P t u so rest since is = λ image left.
    let n = length t.log + length so in
    let front : take n u.log ≡ t.log ++ so =
    ap (take n) is ∙ take-append-add t.log (so ++ rest) (length so) ∙ ap (λ (l : Log). t.log ++ l) (take_at so rest (length so) refl) in
    since.each n (omega arith) image (subst (λ (l : Log). CanLeave t.start l image) (sym front) left)
