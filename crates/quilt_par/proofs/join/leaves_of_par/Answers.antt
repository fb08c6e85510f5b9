use Rattle.std.proofs.Common.{is_some, ap, arith}
use Rattle.quilt_tally.proofs.Few.{list_few}
use Rattle.quilt_raster.specs.Bytes.{cell_colours}
use Rattle.quilt_par.proofs.join.leaves_of_par.Goals as goal

pub unreachable-requires : goal.unreachable-requires
unreachable-requires g c =
    let over = c.in_ok-list.ensures.none.0 (ap is_some c.in-None.is) in
    let few = list_few c.args.level (cell_colours c.args.colours.now) c.requires.most in
    omega arith
