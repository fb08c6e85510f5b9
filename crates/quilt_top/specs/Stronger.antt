-- What a run of the program promises beyond the headline: which edition each moment and each end leaves, and where want of memory may come.
use Rattle.std.specs.Prelude.{◌≡◌, ℕ, ◌+◌, ◌≤◌, Bool, true, false, List, [], ◌∷◌, ◌++◌, length, take, drop, Option, Some, None, if◌then◌else◌, slice_get}
use Rattle.std.specs.List.{list_any}
use Rattle.quilt_types.specs.Facts.{quota}
use Rattle.quilt_types.specs.Layers.{Edition}
use Rattle.quilt_world.specs.Disk.{Pages, Log, CanLeave}
use Rattle.quilt_world.specs.Tale.{Tale, put_bytes, taken_bytes}
use Rattle.quilt_world.specs.declared.event.Event.{Event}
use Rattle.quilt_world.specs.declared.event.Event.TheVariants.{Wrote, Tore}
use Rattle.quilt_world.specs.declared.disk.Door.{Door}
use Rattle.quilt_world.specs.declared.disk.Door.TheVariants as doors
use Rattle.quilt_world.specs.Home.{IsMapFile}
use Rattle.quilt_edition.specs.Stands.{Stands}
use Rattle.quilt_replies.specs.Answers.{Reply}
use Rattle.quilt_replies.specs.Runs.{Run, run, replies_of, output, prefix_of, text_of}
use Rattle.quilt_top.specs.declared.run.End.{End}
use Rattle.quilt_top.specs.declared.run.End.TheVariants as ends
use Rattle.quilt_top.specs.Words.{Order, New, Run as RunText, Trial}
use Rattle.quilt_top.specs.Headline.{IsOneOf, IsStop, IsEdition, told_by_replies}
use Rattle.quilt_top.specs.Saying.{is_took}

-- how many of these replies stand whole in these bytes
abbrev pub answered_within : List (Reply × Bool) → List ℕ → ℕ → ℕ
answered_within [] put n = n
answered_within (r ∷ rs) put n =
    if prefix_of (text_of r.0) put then answered_within rs (drop (length (text_of r.0)) put) (n + 1) else n

abbrev pub gives : Option (Reply × Bool) → Bool
gives None = false
gives (Some step) = step.1

-- the reply that comes next, where these bytes were put, is that of a command which gives an edition
unfoldable pub gives_next : Run → List ℕ → Bool
gives_next r put = gives (slice_get r.steps (answered_within r.steps put 0))

-- whole replies and no more were put
abbrev pub PutsWhole : Run → Log → Type 0
PutsWhole r log = (m : ℕ) × (put_bytes log ≡ output (take m (replies_of r)))

abbrev pub touches_page : Event → Bool
touches_page (Wrote page bytes) = true
touches_page (Tore page) = true
touches_page e = false

-- What a run of an input promises more.
pub record RunsInTurn (r : Run) (end : End) (after : Tale) : Type 0 where
  -- A stop leaves the last edition that was answered, or the next one where the command that gives it has its turn.
  pub turn : (so_far : Log) (image : Pages) → IsStop after so_far image →
      (k : ℕ) × (told_by_replies r so_far ≤ k)
      × (k ≤ told_by_replies r so_far + (if gives_next r (put_bytes so_far) then 1 else 0)) × IsEdition r k image
  -- Once input was taken, a page is written only where whole replies were put.
  pub between : (so_far rest : Log) (e : Event) → after.log ≡ so_far ++ e ∷ rest → touches_page e ≡ true →
      list_any is_took so_far ≡ true → PutsWhole r so_far
  -- An end without a failing device leaves the last edition that was answered, and no reply in part.
  pub left : IsOneOf end (ends.Done ∷ ends.Refused ∷ ends.Memory ∷ ends.TooMuch ∷ []) →
      (image : Pages) → CanLeave after.start after.log image → IsEdition r (told_by_replies r after.log) image
  pub whole : IsOneOf end (ends.Memory ∷ ends.TooMuch ∷ []) → PutsWhole r after.log

-- A trial that wants memory has put nothing.
abbrev pub TrialsInTurn : End → Tale → Type 0
TrialsInTurn end after = end ≡ ends.Memory → put_bytes after.log ≡ []

-- What an order promises more, by the door; a shut and a failed one included.
abbrev pub KeepsMore : Option Order → Door → End → Tale → Tale → Type 0
KeepsMore None door end before after = Unit {0}
KeepsMore (Some (New file pages level)) door end before after =
    (end ≡ ends.Memory → door ≡ doors.Shut) × (after.input ≡ before.input) × (taken_bytes after.log ≡ [])
    × (door ≡ doors.Failed → put_bytes after.log ≡ [])
KeepsMore (Some (RunText file pool)) door end before after =
    door ≡ doors.Ready → (pages : ℕ) (first : Edition) → IsMapFile after.start pages → Stands after.start first →
    RunsInTurn (run (quota pages) first before.input) end after
KeepsMore (Some (Trial file seed count pool)) door end before after = door ≡ doors.Ready → TrialsInTurn end after
