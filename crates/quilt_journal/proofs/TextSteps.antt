-- Bytes that are taken or put keep each state of the journal.
use Rattle.std.proofs.Common.{◌≡◌, ℕ, ◌+◌, Bool, true, false, cond, unwrap_or, List, [], Option, Some, length, sym, ◌∙◌, ap}
use Rattle.quilt_world.specs.Added.{is_of_text, AddsOnly}
use Rattle.quilt_world.specs.Stops.{latest}
use Rattle.quilt_world.specs.Tale.{Tale}
use Rattle.quilt_world.proofs.TextLaws.{last_text, fixed_text}
use Rattle.quilt_journal.specs.Changed.{is_changed}
use Rattle.quilt_journal.specs.Kept.{home_page, work_page, published, work, IsFile, GateIs, DirectoryIs, HomesAre, HasWork, HasSlots, IsKept}
use Rattle.quilt_journal.specs.declared.journal.State.{State}
use Rattle.quilt_journal.specs.declared.journal.State.TheVariants.{Idle, Sealed, Carried}
use Rattle.quilt_journal.proofs.Homes.{map_same}

module _ (pages : ℕ) (changed : List Bool) (o n : Tale) (adds : AddsOnly is_of_text o n) where
  home_same : (i : ℕ) → home_page n i ≡ home_page o i
  home_same i = ap (λ (x : Option (List ℕ)). unwrap_or x []) (fixed_text o n (3 + i) adds)

  page_same : (i : ℕ) → work_page n pages changed i ≡ work_page o pages changed i
  page_same i =
      ap (λ (x : Option (List ℕ)). cond (is_changed changed i) (unwrap_or x []) (home_page n i)) (last_text o n (3 + pages + i) adds)
      ∙ ap (λ h. cond (is_changed changed i) (unwrap_or (latest o (3 + pages + i)) []) h) (home_same i)

  file : IsFile pages o → IsFile pages n
  file is = record { size = ap length adds.file.start ∙ is.size; least = is.least; most = is.most; labelled = fixed_text o n 0 adds ∙ is.labelled }

  gate : (opened : Bool) → GateIs opened o → GateIs opened n
  gate opened is = record { bytes = is.bytes; there = fixed_text o n 1 adds ∙ is.there; opens = is.opens }

  directory : DirectoryIs pages changed o → DirectoryIs pages changed n
  directory is = record { bytes = is.bytes; there = fixed_text o n 2 adds ∙ is.there; lists = is.lists }

  homes : (f g : ℕ → List ℕ) → ((i : ℕ) → g i ≡ f i) → HomesAre pages f o → HomesAre pages g n
  homes f g same is = record { each = λ i lt. fixed_text o n (3 + i) adds ∙ is.each i lt ∙ ap Some (sym (same i)) }

  has_work : HasWork pages changed (work_page o pages changed) o → HasWork pages changed (work_page n pages changed) n
  has_work is = record {
    directory = directory is.directory;
    slots = λ i lt bit. fixed_text o n (3 + pages + i) adds ∙ is.slots i lt bit ∙ ap Some (sym (page_same i));
    others = λ i lt bit. fixed_text o n (3 + i) adds ∙ is.others i lt bit ∙ ap Some (sym (page_same i));
  }

  slots : HasSlots pages changed (work_page o pages changed) o → HasSlots pages changed (work_page n pages changed) n
  slots is = record { each = λ i lt bit. last_text o n (3 + pages + i) adds ∙ is.each i lt bit ∙ ap Some (sym (page_same i)) }

  kept : (state : State) → IsKept state pages changed o → IsKept state pages changed n
  kept Idle is = record { file = file is.file; gate = gate false is.gate; homes = homes (home_page o) (home_page n) home_same is.homes; slots = slots is.slots }
  kept Sealed is = record { file = file is.file; gate = gate true is.gate; work = has_work is.work }
  kept Carried is =
      record {
        file = file is.file;
        gate = gate true is.gate;
        work = has_work is.work;
        homes = homes (work_page o pages changed) (work_page n pages changed) page_same is.homes;
      }

  -- each state is kept, and the pages are as they were
  pub kept_text : (state : State) → IsKept state pages changed o → IsKept state pages changed n × (published n pages ≡ published o pages)
      × (work n pages changed ≡ work o pages changed)
  unfolding published work
  kept_text state is = (
    kept state is,
    map_same (home_page n) (home_page o) pages (λ i lt. home_same i),
    map_same (work_page n pages changed) (work_page o pages changed) pages (λ i lt. page_same i),
  )
