use Rattle.std.proofs.Common.{arith}
use Rattle.quilt_raster.proofs.Bytes.{get_or-colours_of_bytes}
use Rattle.quilt_raster.proofs.leaves.colour_in.Goals as goal

pub returns : goal.returns
returns c =
    let e = get_or-colours_of_bytes c.args.colours.now c.args.place c.requires in
    let high = c.from-high.ensures in
    let low = c.from-low.ensures in
    omega arith
