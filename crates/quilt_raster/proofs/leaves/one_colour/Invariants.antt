use Rattle.std.proofs.Common.{◌≡◌, ◌+◌, ◌<◌, ◌≤◌}
use Rattle.quilt_types.specs.declared.plane.Pixel.{Pixel}
use Rattle.quilt_types.specs.Layers.{colour_at}
use Rattle.quilt_raster.specs.Bytes.{cell_colours}
use Rattle.quilt_raster.proofs.leaves.one_colour.Given as goal

abbrev pub invariant-loop-dy : goal.invariant-loop-dy
invariant-loop-dy l = (p : Pixel) → l.fn.square.x ≤ p.x → p.x < l.fn.square.x + l.fn.square.side → l.fn.square.y ≤ p.y → p.y < l.fn.square.y + l.dy
    → colour_at l.level (cell_colours l.colours) p ≡ l.colour.0
