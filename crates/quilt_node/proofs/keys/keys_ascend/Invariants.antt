use Rattle.std.proofs.Common.{◌+◌, ◌*◌}
use Rattle.quilt_node.specs.Pages.{key_at}
use Rattle.quilt_node.proofs.Numbers.{AscendsOver}
use Rattle.quilt_node.proofs.keys.keys_ascend.Given as goal

abbrev pub invariant-loop-i : goal.invariant-loop-i
invariant-loop-i l = AscendsOver (λ i. key_at l.bytes (l.at + l.width * i)) l.n l.i l.last
