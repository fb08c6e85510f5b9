use Rattle.std.proofs.Common.{◌≡◌, filter, take}
use Rattle.quilt_buffer.specs.Reach.{reaches_some}
use Rattle.quilt_buffer.proofs.reach.blocks_near.Given as goal

abbrev pub invariant-loop-block : goal.invariant-loop-block
invariant-loop-block l = l.near.items ≡ filter (reaches_some l.r l.square) (take l.block-index l.blocks)
