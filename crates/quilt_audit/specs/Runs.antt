-- How far the records of one layer have come, by its kind.
use Rattle.std.specs.Prelude.{◌≡◌, ℕ, ◌^◌, List, Contains}
use Rattle.quilt_types.specs.declared.plane.Kind.{Kind}
use Rattle.quilt_types.specs.declared.plane.Kind.TheVariants as kinds
use Rattle.quilt_record.specs.declared.record.Record.{Record}
use Rattle.quilt_record.specs.Listing.{KindFits}
use Rattle.quilt_audit.specs.declared.run.Run.{Run}
use Rattle.quilt_audit.specs.declared.run.Run.TheVariants as runs
use Rattle.quilt_audit.specs.Regions.{IsGoing}
use Rattle.quilt_line_audit.specs.Runs.{IsLineRun, IsLined}
use Rattle.quilt_audit.specs.Points.{IsPointRun, IsFinished}

-- the records of the layer with this number and kind have come as far as the run says
abbrev pub IsRun : ℕ → ℕ → List Record → ℕ → Kind → Run → Type 0
IsRun form n rs layer kinds.Region (runs.Region run) = IsGoing form n rs layer run.end run.recent
IsRun form n rs layer (kinds.Points bucket) (runs.Points run) = IsPointRun form n rs layer bucket run
IsRun form n rs layer (kinds.Lines threshold) (runs.Lines run) = IsLineRun n rs layer threshold run
IsRun form n rs layer kind run = ⊥

-- the run says that no record of such a layer has come
abbrev pub Starts : Kind → Run → Type 0
Starts kind run =
    (form n : ℕ) (rs : List Record) (layer : ℕ) → KindFits form kind → ((r : Record) → Contains rs r → r.key.layer ≡ layer → ⊥)
    → IsRun form n rs layer kind run

-- they may be all records of the layer
abbrev pub IsRunFinished : ℕ → Run → Type 0
IsRunFinished n (runs.Region run) = run.end ≡ 4 ^ n
IsRunFinished n (runs.Points run) = IsFinished n run
IsRunFinished n (runs.Lines run) = IsLined n run
