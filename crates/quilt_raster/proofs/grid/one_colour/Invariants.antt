use Rattle.std.proofs.Common.{◌≡◌, ◌+◌, ◌<◌, ◌≤◌}
use Rattle.quilt_types.specs.declared.plane.Pixel.{Pixel}
use Rattle.quilt_raster.specs.Painting.{in_cells}
use Rattle.quilt_raster.proofs.grid.one_colour.Given as goal

abbrev pub invariant-loop-dy : goal.invariant-loop-dy
invariant-loop-dy l =
    (p : Pixel) → l.fn.b.x ≤ p.x → p.x < l.fn.b.x + l.fn.b.side → l.fn.b.y ≤ p.y → p.y < l.fn.b.y + l.dy → in_cells l.cells l.fn.tile p ≡ l.colour
