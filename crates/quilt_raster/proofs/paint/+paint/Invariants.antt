use Rattle.std.proofs.Common.{◌≡◌, ◌+◌, ◌*◌, ◌/◌, length}
use Rattle.quilt_loc.specs.Codes.{code_from}
use Rattle.quilt_raster.specs.Painting.{ArePainted}
use Rattle.quilt_raster.proofs.paint.+paint.Given as goal

abbrev pub decreases-paint : goal.decreases-paint
decreases-paint l = l.b.side

abbrev pub invariant-loop-q : goal.invariant-loop-q
invariant-loop-q l = record {
  long : length l.cells ≡ length l.initial.cells;
  painted : ArePainted l.list.level l.list.grid l.w (code_from l.fn.b + l.q-index * (l.fn.b.side / 2 * (l.fn.b.side / 2))) l.cells;
}
