use Rattle.std.proofs.Common.{◌≡◌, false, take}
use Rattle.std.specs.List.{list_any}
use Rattle.quilt_buffer.specs.Reach.{reaches_all}
use Rattle.quilt_buffer.proofs.reach.is_covered.Given as goal

abbrev pub invariant-loop-block : goal.invariant-loop-block
invariant-loop-block l = list_any (reaches_all l.r l.square) (take l.block-index l.blocks) ≡ false
