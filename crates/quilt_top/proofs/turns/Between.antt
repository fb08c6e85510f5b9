-- Pages are written between replies alone: before each of them whole replies were put.
use Rattle.std.proofs.Common.{◌≡◌, ◌⊎◌, inl, inr, ℕ, Bool, true, List, [], ◌∷◌, ◌++◌, refl, sym, ◌∙◌, ap, subst, append_assoc, append-nil}
use Rattle.std.specs.List.{list_all}
use Rattle.std.proofs.lemmas.Bool.{and_parts}
use Rattle.quilt_world.specs.Added.{Only, is_of_pages, is_of_text}
use Rattle.quilt_world.specs.Disk.{Log}
use Rattle.quilt_world.specs.Tale.{Tale, put_bytes}
use Rattle.quilt_world.specs.declared.event.Event.{Event}
use Rattle.quilt_world.specs.declared.event.Event.TheVariants.{Took, Put, Wrote, Tore, Synced}
use Rattle.quilt_words.specs.Items.{Group}
use Rattle.quilt_replies.specs.Answers.{State}
use Rattle.quilt_replies.specs.Runs.{Run, text_of}
use Rattle.quilt_top.specs.Answering.{Answers, Steps, PartStep, changes_then, changes_all}
use Rattle.quilt_top.specs.Replies.{held_at, reply_to, state_then, state_after}
use Rattle.quilt_top.specs.Saying.{is_took}
use Rattle.quilt_top.specs.Stronger.{PutsWhole, touches_page}
use Rattle.quilt_top.specs.TextRun.{run_in, WritesBetween}
use Rattle.quilt_top.proofs.logs.Events.{put_bytes-append, pages_unput}
use Rattle.quilt_top.proofs.logs.Prefixes.{heads, tails, only_front, took_text_only, took_unput, same_events, events_then}
use Rattle.quilt_top.proofs.turns.Fine.{answer_grows, steps_grow, part_grows, grows_then, answer_puts}
use Rattle.quilt_top.proofs.turns.Places.{whole_behind}

-- ---- a place in two logs

placed : (x y : Event) (a b so rest : Log) (e : Event) → x ≡ y
    → ((r : Log) × (a ≡ so ++ e ∷ r)) ⊎ ((more : Log) × (so ≡ a ++ more) × (b ≡ more ++ e ∷ rest))
    → ((r : Log) × (x ∷ a ≡ y ∷ (so ++ e ∷ r))) ⊎ ((more : Log) × (y ∷ so ≡ x ∷ (a ++ more)) × (b ≡ more ++ e ∷ rest))
placed x y a b so rest e same (inl within) = inl (within.0, ap (λ (l : Log). x ∷ l) within.1 ∙ ap (λ (z : Event). z ∷ (so ++ e ∷ within.0)) same)
placed x y a b so rest e same (inr past) =
    inr (past.0, ap (λ (l : Log). y ∷ l) past.1 ∙ ap (λ (z : Event). z ∷ (a ++ past.0)) (sym same), past.2)

-- an event of two logs is in the first or in the second
pub event_split : (a b so rest : Log) (e : Event) → a ++ b ≡ so ++ e ∷ rest
    → ((r : Log) × (a ≡ so ++ e ∷ r)) ⊎ ((more : Log) × (so ≡ a ++ more) × (b ≡ more ++ e ∷ rest))
event_split [] b so rest e is = inr (so, refl, is)
event_split (x ∷ a) b [] rest e is = inl (a, ap (λ (z : Event). z ∷ a) (heads x e (a ++ b) rest is))
event_split (x ∷ a) b (y ∷ so) rest e is =
    placed x y a b so rest e (heads x y (a ++ b) (so ++ e ∷ rest) is) (event_split a b so rest e (tails x y (a ++ b) (so ++ e ∷ rest) is))

-- ---- events of one sort

only_at : (sort : Event → Bool) (so rest : Log) (e : Event) → Only sort (so ++ e ∷ rest) → sort e ≡ true
only_at sort [] rest e only = (and_parts (sort e) (list_all sort rest) only).0
only_at sort (x ∷ so) rest e only = only_at sort so rest e (and_parts (sort x) (list_all sort (so ++ e ∷ rest)) only).1

text_untouched : (e : Event) → is_of_text e ≡ true → touches_page e ≡ true → ⊥
text_untouched (Took bytes) is touches = cc
text_untouched (Put bytes) is touches = cc
text_untouched (Wrote page bytes) is touches = cc
text_untouched (Tore page) is touches = cc
text_untouched Synced is touches = cc

text_between : (r : Run) (log : Log) → Only is_of_text log → WritesBetween r log
text_between r log only = λ so rest e is touches.
    absurd (text_untouched e (only_at is_of_text so rest e (subst (λ (l : Log). Only is_of_text l) is only)) touches)

-- where nothing was put
pub none_whole : (r : Run) (log : Log) → put_bytes log ≡ [] → PutsWhole r log
none_whole r log none = (0, none)

-- where the same was put
pub as_whole : (r : Run) (log other : Log) → put_bytes other ≡ put_bytes log → PutsWhole r log → PutsWhole r other
as_whole r log other same whole = (whole.0, same ∙ whole.1)

pages_between : (r : Run) (log : Log) → Only is_of_pages log → WritesBetween r log
pages_between r log only = λ so rest e is touches. none_whole r so (pages_unput so (only_front is_of_pages log so (e ∷ rest, is) only))

-- ---- logs, one behind the other

both_between : (r : Run) (a b : Log) → WritesBetween r a
    → ((more rest : Log) (e : Event) → b ≡ more ++ e ∷ rest → touches_page e ≡ true → PutsWhole r (a ++ more)) → WritesBetween r (a ++ b)
both_between r a b first second = λ so rest e is touches. elim (event_split a b so rest e is) [
  | inl within ↦ first so within.0 e within.1 touches
  | inr past ↦ subst (λ (l : Log). PutsWhole r l) (sym past.1) (second past.0 rest e past.2 touches)
]

took_between : (r : Run) (a b : Log) → Only is_took a → WritesBetween r b → WritesBetween r (a ++ b)
took_between r a b only later = both_between r a b (text_between r a (took_text_only a only)) (λ more rest e is touches.
    as_whole r more (a ++ more) (put_bytes-append a more ∙ ap (λ (l : List ℕ). l ++ put_bytes more) (took_unput a only)) (later more rest e is touches))

-- ---- items

answer_between : (r : Run) (s : State) (g : Group) (c : ℕ) (said : List ℕ) (t v : Tale) → Answers s (held_at s g) c said t v → (E : Log) → v.log ≡ t.log ++ E
    → WritesBetween r E
answer_between r s g c said t v a E is =
    let pages = a.applies.pages.events in
    subst (λ (l : Log). WritesBetween r l) (sym (events_then t a.middle v pages a.text.events E a.applies.pages.log a.text.log is))
    (both_between r pages a.text.events (pages_between r pages a.applies.pages.only)
    (λ more rest e at touches. absurd (text_untouched e (only_at is_of_text more rest e (subst (λ (l : Log). Only is_of_text l) at a.text.only)) touches)))

part_between : (r : Run) (next : List Group) (s : State) (c : ℕ) (t v : Tale) → PartStep s c next t v → (E : Log) → v.log ≡ t.log ++ E → WritesBetween r E
part_between r [] s c t v part E is = subst (λ (l : Log). WritesBetween r l) (same_events t v [] E part.log is) (text_between r [] refl)
part_between r (g ∷ gs) s c t v part E is = answer_between r s g c part.said t v part.answers E is

pub steps_between : (gs next h : List Group) (s : State) (c : ℕ) (t u v : Tale) → Steps s c gs t u
    → PartStep (state_after s gs) (changes_all s c gs) next u v → (E : Log) → v.log ≡ t.log ++ E → WritesBetween (run_in s (gs ++ (next ++ h))) E
steps_between [] next h s c t u v steps part E is =
    let r = run_in s (next ++ h) in
    let grows = part_grows next s c u v part in
    subst (λ (l : Log). WritesBetween r l) (sym (events_then t u v steps.events grows.events E steps.log grows.log is))
    (took_between r steps.events grows.events steps.only (part_between r next s c u v part grows.events grows.log))
steps_between (g ∷ gs) next h s c t u v steps part E is =
    let item = held_at s g in
    let text = text_of (reply_to s item) in
    let all = gs ++ (next ++ h) in
    let r = run_in s (g ∷ all) in
    let step = steps.1 in
    let first = step.first in
    let mid = steps.0 in
    let one = answer_grows s item c text first mid step.answers in
    let rest = grows_then mid u v (steps_grow gs (state_then s item) (changes_then s item c) mid u steps.2)
    (part_grows next (state_after s (g ∷ gs)) (changes_all s c (g ∷ gs)) u v part) in
    let later : Log = one.events ++ rest.events in
    let later_log : v.log ≡ first.log ++ later = rest.log ∙ ap (λ (l : Log). l ++ rest.events) one.log ∙ append_assoc first.log one.events rest.events in
    let behind = steps_between gs next h (state_then s item) (changes_then s item c) mid u v steps.2 part rest.events rest.log in
    let puts : put_bytes one.events ≡ text = answer_puts s g all c text first mid step.answers ([], sym (append-nil text)) one.events one.log in
    let both : WritesBetween r later =
    both_between r one.events rest.events (answer_between r s g c text first mid step.answers one.events one.log) (λ more further e at touches.
    whole_behind s g all (one.events ++ more) more (put_bytes-append one.events more ∙ ap (λ (l : List ℕ). l ++ put_bytes more) puts)
    (behind more further e at touches)) in
    subst (λ (l : Log). WritesBetween r l) (sym (events_then t first v step.takes.events later E step.takes.log later_log is))
    (took_between r step.takes.events later step.takes.only both)
