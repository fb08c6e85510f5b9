use Rattle.std.proofs.Common.{◌≡◌, length}
use Rattle.quilt_raster.proofs.Cells.{IsFilled}
use Rattle.quilt_raster.proofs.paint.fill.Given as goal

abbrev pub invariant-loop-dy : goal.invariant-loop-dy
invariant-loop-dy l = record {
  long : length l.cells ≡ length l.initial.cells;
  filled : IsFilled l.w l.fn.b l.colour l.dy l.initial.cells l.cells;
}
