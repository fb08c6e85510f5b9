use Rattle.std.proofs.Common.{◌+◌, ◌*◌, ◌/◌}
use Rattle.quilt_loc.specs.Codes.{code_from}
use Rattle.quilt_blocks.specs.Adding.{AddsColours}
use Rattle.quilt_raster.specs.Bytes.{cell_colours, from_corner}
use Rattle.quilt_raster.proofs.leaves.+add_square.Given as goal

abbrev pub decreases-add_square : goal.decreases-add_square
decreases-add_square l = l.b.side

abbrev pub invariant-loop-q : goal.invariant-loop-q
invariant-loop-q l = AddsColours l.initial.maker.level (from_corner l.level (cell_colours l.colours) l.corner)
    (code_from l.fn.b + l.q-index * (l.fn.b.side / 2 * (l.fn.b.side / 2))) l.initial.maker l.maker
