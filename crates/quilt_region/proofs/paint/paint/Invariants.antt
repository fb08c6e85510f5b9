use Rattle.std.proofs.Common.{◌≡◌, length}
use Rattle.quilt_types.specs.Layers.{colour_at}
use Rattle.quilt_region.specs.Painting.{colour_over, HasColours}
use Rattle.quilt_region.proofs.paint.paint.Given as goal

abbrev pub invariant-loop-leaf : goal.invariant-loop-leaf
invariant-loop-leaf l = record {
  level : l.maker.level ≡ l.a.level;
  paints : HasColours l.a.level (λ p. colour_over l.w l.c.0 (colour_at l.a.level l.a.grid p) p) l.maker.colours;
  same_level : l.leaves.level ≡ l.a.level;
  same_grid : l.leaves.grid ≡ l.a.grid;
  place : l.leaves.at ≡ length l.maker.colours;
}

abbrev pub decreases-loop-leaf : goal.decreases-loop-leaf
decreases-loop-leaf l = length l.leaves.rest
