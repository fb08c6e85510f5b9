use Rattle.std.proofs.Common.{◌-◌}
use Rattle.quilt_types.specs.declared.plane.Block.{Block}
use Rattle.quilt_types.specs.Plane.{IsBlock, Within}
use Rattle.quilt_region.specs.Windows.{HoldsWindow}
use Rattle.quilt_region.proofs.neighbours.block_around.Given as goal

abbrev pub decreases-loop-w : goal.decreases-loop-w
decreases-loop-w l = 4096 - l.b.side

abbrev pub invariant-loop-w : goal.invariant-loop-w
invariant-loop-w l = record {
  valid : IsBlock l.level l.b;
  least : (a : Block) → IsBlock l.level a → HoldsWindow a l.w → Within l.b a;
}
