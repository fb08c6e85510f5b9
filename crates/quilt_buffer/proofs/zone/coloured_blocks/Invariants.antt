use Rattle.std.proofs.Common.{◌≡◌, ◌++◌, length}
use Rattle.quilt_blocks.specs.Cutting.{leaves_by_code}
use Rattle.quilt_buffer.specs.Reach.{blocks_with_colour}
use Rattle.quilt_buffer.proofs.zone.coloured_blocks.Given as goal

abbrev pub invariant-loop-leaf : goal.invariant-loop-leaf
invariant-loop-leaf l = l.blocks.items ++ blocks_with_colour l.leaves.rest ≡ blocks_with_colour (leaves_by_code l.a.level l.a.grid)

abbrev pub decreases-loop-leaf : goal.decreases-loop-leaf
decreases-loop-leaf l = length l.leaves.rest
