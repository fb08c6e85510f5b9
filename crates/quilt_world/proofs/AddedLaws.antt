-- Events of one sort, one call after another.
use Rattle.std.specs.List.{list_all}
use Rattle.std.proofs.lemmas.List.Folds.{list_all-append}
use Rattle.std.proofs.lemmas.List.{append-nil}
use Rattle.std.proofs.Common.{◌≡◌, Bool, true, false, ◌&&◌, [], ◌∷◌, ◌++◌, refl, sym, ◌∙◌, ap, append_assoc}
use Rattle.std.proofs.lemmas.Bool.{and_from, and_parts}
use Rattle.quilt_world.specs.Added.{Only, AddsOnly}
use Rattle.quilt_world.specs.Disk.{Log}
use Rattle.quilt_world.specs.Tale.{Tale}
use Rattle.quilt_world.specs.declared.event.Event.{Event}
use Rattle.quilt_world.proofs.StopLaws.{same_file}

pub only-append : (sort : Event → Bool) (a b : Log) → Only sort a → Only sort b → Only sort (a ++ b)
only-append sort a b x y = list_all-append sort a b ∙ and_from _ _ x y

-- events of one sort are of a wider one
pub only_wider : (sort wider : Event → Bool) (log : Log) → ((e : Event) → sort e ≡ true → wider e ≡ true) → Only sort log → Only wider log
only_wider sort wider [] so only = refl
only_wider sort wider (e ∷ log) so only =
    let parts = and_parts (sort e) (list_all sort log) only in
    and_from (wider e) (list_all wider log) (so e parts.0) (only_wider sort wider log so parts.1)

pub adds_only_none : (sort : Event → Bool) (t : Tale) → AddsOnly sort t t
adds_only_none sort t = record { file = record { start = refl; path = refl; was_there = refl }; events = []; log = sym (append-nil t.log); only = refl }

pub adds_only_both : (sort : Event → Bool) (a b c : Tale) → AddsOnly sort a b → AddsOnly sort b c → AddsOnly sort a c
adds_only_both sort a b c ab bc = record {
  file = same_file a b c ab.file bc.file;
  events = ab.events ++ bc.events;
  log = bc.log ∙ ap (λ (l : Log). l ++ bc.events) ab.log ∙ append_assoc a.log ab.events bc.events;
  only = only-append sort ab.events bc.events ab.only bc.only;
}
