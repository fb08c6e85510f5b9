use Rattle.std.proofs.Common.{ℕ, List, sym, subst}
use Rattle.quilt_types.specs.declared.plane.Kind.{Kind}
use Rattle.quilt_record.specs.Listing.{KindFits}
use Rattle.quilt_blocks.specs.declared.leaf.Leaf.{Leaf}
use Rattle.quilt_audit.specs.declared.run.Run.TheVariants as runs
use Rattle.quilt_audit.specs.Regions.{IsGoing}
use Rattle.quilt_audit.specs.Runs.{IsRun}
use Rattle.quilt_audit.proofs.runs.RegionRuns.{going_none}
use Rattle.quilt_audit.proofs.runs.Runs.{lines_none}
use Rattle.quilt_audit.proofs.run.Run.new.Goals as goal

pub returns-in-Region : goal.returns-in-Region
returns-in-Region c form n rs layer fits none =
    let run = c.new.result in
    subst (λ (z : Kind). IsRun form n rs layer z (runs.Region run)) (sym c.in-Region.is)
    (subst (λ (e : ℕ). IsGoing form n rs layer e run.recent) (sym c.new.ensures.end)
    (subst (λ (l : List Leaf). IsGoing form n rs layer 0 l) (sym c.new.ensures.recent) (going_none form n rs layer none)))

pub returns-in-Lines : goal.returns-in-Lines
returns-in-Lines c form n rs layer fits none =
    let run = c.new-in-Lines.result in
    let in_range = subst (KindFits form) c.in-Lines.is fits in
    subst (λ (z : Kind). IsRun form n rs layer z (runs.Lines run)) (sym c.in-Lines.is)
    (lines_none n rs layer c.in-Lines.threshold run in_range.0 in_range.1 c.new-in-Lines.ensures none)
