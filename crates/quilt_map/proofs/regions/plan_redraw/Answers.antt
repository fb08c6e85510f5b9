use Rattle.std.proofs.Common.{subst}
use Rattle.quilt_blocks.specs.Raster.{Raster}
use Rattle.quilt_region.specs.Plans.{ReplacesGrid}
use Rattle.quilt_map.proofs.regions.plan_redraw.Goals as goal

pub returns-clause-plan : goal.returns-clause-plan
returns-clause-plan g c = λ grid has.
    subst (λ (l : Raster). ReplacesGrid l.level c.args.number l.grid c.args.new.now.grid c.in-Ok.edits)
    (c.in_ok-old.ensures.list grid has) c.in-Ok.ensures.plan
