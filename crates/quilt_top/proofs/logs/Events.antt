-- The bytes that events take and put.
use Rattle.std.proofs.Common.{◌≡◌, ℕ, true, List, [], ◌∷◌, ◌++◌, refl, sym, ◌∙◌, ap, append_assoc}
use Rattle.quilt_world.specs.Disk.{Log}
use Rattle.quilt_world.specs.Tale.{put_bytes, put_by, taken_bytes, taken_by}
use Rattle.quilt_world.specs.Added.{Only, is_of_pages}
use Rattle.quilt_world.specs.declared.event.Event.{Event}
use Rattle.quilt_world.specs.declared.event.Event.TheVariants.{Took, Put, Wrote, Tore, Synced}
use Rattle.quilt_world.proofs.AddedLaws.{only_wider}
use Rattle.quilt_top.specs.Saying.{takes_none}

pub put_bytes-append : (a b : Log) → put_bytes (a ++ b) ≡ put_bytes a ++ put_bytes b
put_bytes-append [] b = refl
put_bytes-append (e ∷ a) b = ap (λ (l : List ℕ). put_by e ++ l) (put_bytes-append a b) ∙ sym (append_assoc (put_by e) (put_bytes a) (put_bytes b))

pub taken_bytes-append : (a b : Log) → taken_bytes (a ++ b) ≡ taken_bytes a ++ taken_bytes b
taken_bytes-append [] b = refl
taken_bytes-append (e ∷ a) b = ap (λ (l : List ℕ). taken_by e ++ l) (taken_bytes-append a b) ∙ sym (append_assoc (taken_by e) (taken_bytes a) (taken_bytes b))

pub nothing_taken : (log : Log) → Only takes_none log → taken_bytes log ≡ []
nothing_taken [] only = refl
nothing_taken (Took bytes ∷ log) only = absurd (cc)
nothing_taken (Put bytes ∷ log) only = nothing_taken log only
nothing_taken (Wrote page bytes ∷ log) only = nothing_taken log only
nothing_taken (Tore page ∷ log) only = nothing_taken log only
nothing_taken (Synced ∷ log) only = nothing_taken log only

-- ---- events of pages alone

page_takes_none : (e : Event) → is_of_pages e ≡ true → takes_none e ≡ true
page_takes_none (Took bytes) is = is
page_takes_none (Put bytes) is = refl
page_takes_none (Wrote page bytes) is = refl
page_takes_none (Tore page) is = refl
page_takes_none Synced is = refl

pub pages_untaken : (log : Log) → Only is_of_pages log → Only takes_none log
pages_untaken log only = only_wider is_of_pages takes_none log page_takes_none only

pub pages_unput : (log : Log) → Only is_of_pages log → put_bytes log ≡ []
pages_unput [] only = refl
pages_unput (Took bytes ∷ log) only = absurd (cc)
pages_unput (Put bytes ∷ log) only = absurd (cc)
pages_unput (Wrote page bytes ∷ log) only = pages_unput log only
pages_unput (Tore page ∷ log) only = pages_unput log only
pages_unput (Synced ∷ log) only = pages_unput log only
