use Rattle.std.proofs.Common.{◌≡◌, length}
use Rattle.quilt_types.specs.Layers.{colour_at}
use Rattle.quilt_types.specs.Algebra.{recoloured_by}
use Rattle.quilt_blocks.proofs.Painting.{Paints}
use Rattle.quilt_overlay.specs.Combining.{numbers_of}
use Rattle.quilt_overlay.proofs.colours.recolour.Given as goal

abbrev pub invariant-loop-leaf : goal.invariant-loop-leaf
invariant-loop-leaf l = record {
  level : l.maker.level ≡ l.a.level;
  paints : Paints l.a.level (λ p. recoloured_by (numbers_of l.pairs) (colour_at l.a.level l.a.grid p)) l.maker.colours;
  same_level : l.leaves.level ≡ l.a.level;
  same_grid : l.leaves.grid ≡ l.a.grid;
  place : l.leaves.at ≡ length l.maker.colours;
}

abbrev pub decreases-loop-leaf : goal.decreases-loop-leaf
decreases-loop-leaf l = length l.leaves.rest
