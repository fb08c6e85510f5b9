use Rattle.std.proofs.Common.{◌+◌, ◌*◌, ◌/◌}
use Rattle.quilt_loc.specs.Codes.{code_from}
use Rattle.quilt_blocks.specs.Adding.{AddsColours}
use Rattle.quilt_raster.specs.Painting.{in_cells}
use Rattle.quilt_raster.proofs.grid.+add_cells.Given as goal

abbrev pub decreases-add_cells : goal.decreases-add_cells
decreases-add_cells l = l.b.side

abbrev pub invariant-loop-q : goal.invariant-loop-q
invariant-loop-q l =
    AddsColours l.initial.maker.level (in_cells l.cells l.tile) (code_from l.fn.b + l.q-index * (l.fn.b.side / 2 * (l.fn.b.side / 2))) l.initial.maker l.maker
