use Rattle.std.proofs.Common.{◌≡◌, take}
use Rattle.quilt_blocks.specs.Cutting.{leaves_by_code}
use Rattle.quilt_replies.proofs.bodies.by_code.Given as goal

abbrev pub invariant-loop-i : goal.invariant-loop-i
invariant-loop-i l = l.leaves.items ≡ take l.i (leaves_by_code l.list.level l.list.grid)
