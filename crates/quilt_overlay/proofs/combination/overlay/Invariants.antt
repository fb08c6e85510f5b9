use Rattle.std.proofs.Common.{◌≡◌, ◌^◌, ◌-◌, ◌⊎◌, Some, length}
use Rattle.quilt_types.specs.Layers.{colour_at}
use Rattle.quilt_loc.specs.Codes.{code_from}
use Rattle.quilt_blocks.specs.declared.leaf.Leaf.{Leaf}
use Rattle.quilt_blocks.proofs.Painting.{Paints}
use Rattle.quilt_overlay.specs.Combining.{combined}
use Rattle.quilt_overlay.specs.Fronts.{StandsAtCode}
use Rattle.quilt_overlay.proofs.combination.overlay.Given as goal

abbrev pub invariant-loop-p : goal.invariant-loop-p
invariant-loop-p l = record {
  level : l.maker.level ≡ l.a.level;
  paints : Paints l.a.level (λ p. combined l.op (colour_at l.a.level l.a.grid p) (colour_at l.a.level l.b.grid p)) l.maker.colours;
  firsts : StandsAtCode l.a.level l.a.grid (length l.maker.colours) l.first l.firsts;
  seconds : StandsAtCode l.a.level l.b.grid (length l.maker.colours) l.second l.seconds;
  starts : (p q : Leaf) → l.first ≡ Some p → l.second ≡ Some q → (code_from p.block ≡ length l.maker.colours) ⊎ (code_from q.block ≡ length l.maker.colours);
}

abbrev pub decreases-loop-p : goal.decreases-loop-p
decreases-loop-p l = 2 ^ 32 - length l.maker.colours
