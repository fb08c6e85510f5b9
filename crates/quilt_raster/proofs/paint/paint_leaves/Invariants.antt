use Rattle.std.proofs.Common.{◌≡◌, ◌+◌, ◌-◌, length}
use Rattle.quilt_loc.specs.Codes.{code_from}
use Rattle.quilt_raster.specs.Painting.{ArePainted}
use Rattle.quilt_raster.proofs.Places.{IsAt}
use Rattle.quilt_raster.proofs.paint.paint_leaves.Given as goal

abbrev pub invariant-loop-done : goal.invariant-loop-done
invariant-loop-done l = record {
  long : length l.cells ≡ length l.initial.cells;
  at : IsAt l.list.level l.list.grid l.place (code_from l.fn.b + l.done);
  painted : ArePainted l.list.level l.list.grid l.w (code_from l.fn.b + l.done) l.cells;
}

abbrev pub decreases-loop-done : goal.decreases-loop-done
decreases-loop-done l = l.area - l.done
