-- What a desk keeps through each call.
use Rattle.std.specs.List.{list_all}
use Rattle.std.proofs.lemmas.List.Folds.{list_all-append}
use Rattle.quilt_desk.specs.Whole.{is_whole_page}
use Rattle.std.proofs.Common.{◌≡◌, ◌≢◌, true, ◌⊎◌, inl, inr, ℕ, ◌<◌, List, [], ◌∷◌, ◌++◌, length, refl, sym, ◌∙◌, ap, arith, append_assoc}
use Rattle.std.proofs.lemmas.List.{append-nil}
use Rattle.quilt_world.specs.Disk.{Log}
use Rattle.quilt_world.specs.Tale.{put_by, put_bytes}
use Rattle.quilt_world.specs.declared.event.Event.{Event}
use Rattle.quilt_world.specs.declared.disk.Door.{Door}
use Rattle.quilt_world.specs.declared.disk.Door.TheVariants.{Shut, Ready, Made}

pub put_bytes-push : (log : Log) (e : Event) → put_bytes (log ++ e ∷ []) ≡ put_bytes log ++ put_by e
put_bytes-push [] e = append-nil (put_by e)
put_bytes-push (x ∷ log) e = ap (λ (l : List ℕ). put_by x ++ l) (put_bytes-push log e) ∙ sym (append_assoc (put_by x) (put_bytes log) (put_by e))

-- a desk with a page is not shut
pub not_shut : (door : Door) (pages n : ℕ) → (door ≢ Ready → door ≢ Made → pages ≡ 0) → 0 < pages → door ≡ Shut → n ≡ 0
not_shut door pages n none some shut =
    absurd (let z : pages ≡ 0 = none (λ r. let e : Shut ≡ Ready = sym shut ∙ r in cc) (λ m. let e : Shut ≡ Made = sym shut ∙ m in cc) in omega arith)

pub no_events : (log : Log) → length log ≡ 0 → log ≡ []
no_events [] none = refl
no_events (e ∷ log) none = absurd (omega arith)

pub open_not_shut : (door : Door) (n : ℕ) → (door ≡ Ready) ⊎ (door ≡ Made) → door ≡ Shut → n ≡ 0
open_not_shut door n (inl ready) shut = let e : Ready ≡ Shut = sym ready ∙ shut in cc
open_not_shut door n (inr made) shut = let e : Made ≡ Shut = sym made ∙ shut in cc

pub whole-push : (log : Log) (e : Event) → list_all is_whole_page log ≡ true → is_whole_page e ≡ true → list_all is_whole_page (log ++ e ∷ []) ≡ true
whole-push log e all this = list_all-append is_whole_page log (e ∷ []) ∙ grind (arith, all, this)
