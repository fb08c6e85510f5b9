use Rattle.std.proofs.Common.{◌≡◌, ◌&&◌, true, take}
use Rattle.std.specs.List.{list_all}
use Rattle.quilt_node.specs.Tree.{is_above, is_below}
use Rattle.quilt_audit.proofs.node.inner_is_within.Given as goal

abbrev pub invariant-loop-i : goal.invariant-loop-i
invariant-loop-i l = list_all (λ k. is_above l.low k && is_below l.high k) (take l.i l.inner.keys) ≡ true
