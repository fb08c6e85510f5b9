use Rattle.std.proofs.Common.{◌∙◌, ◌/◌, ◌%◌, arith}
use Rattle.quilt_raster.proofs.Lanes.{eight_are}
use Rattle.quilt_raster.proofs.leaves.are_eight.Goals as goal

pub returns : goal.returns
returns c is k le lt =
    eight_are c.args.colours.now c.args.from (c.args.colour.0 / 256) (c.args.colour.0 % 256) (omega (arith, c.requires)) (rw c.eight_times.ensures at is) k le lt
    ∙ omega arith
