use Rattle.std.proofs.Common.{◌∙◌, ap}
use Rattle.quilt_types.specs.Plane.{whole}
use Rattle.quilt_near.proofs.QuarterBlocks.{first_pushed}
use Rattle.quilt_near.proofs.start.first_queue.Goals as goal

pub returns-clause-first : goal.returns-clause-first
returns-clause-first g c =
    let square = c.whole_square-whole.ensures ∙ ap whole c.level.ensures.value in
    first_pushed c.args.p _ _ _ _ _ c.block_distance.ensures square c.in_ok-queue.ensures c.in_ok-push.ensures
