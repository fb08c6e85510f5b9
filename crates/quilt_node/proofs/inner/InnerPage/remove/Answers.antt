use Rattle.std.proofs.Common.{subst, arith}
use Rattle.quilt_node.specs.Nodes.{IsInner, IsInnerPage}
use Rattle.quilt_node.proofs.inner.InnerPage.remove.Goals as goal

is_inner : (c : goal.After-take_both-arg-1) → IsInner c.args.self.now
is_inner c = (subst (IsInnerPage c.self.inside.bytes) c.self.view_is c.self.invariant).is_inner

pub overflow_add-i : goal.overflow_add-i
overflow_add-i c = omega (arith, (is_inner c).between, (is_inner c).most, c.requires.place)

pub take_both-requires-clause-place : goal.take_both-requires-clause-place
take_both-requires-clause-place c = (c.requires.place, omega (arith, (is_inner c).between, c.requires.place))
