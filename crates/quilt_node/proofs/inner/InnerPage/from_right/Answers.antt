use Rattle.std.proofs.Common.{◌-◌, arith}
use Rattle.quilt_node.proofs.InnerSplits.{order_behind}
use Rattle.quilt_node.proofs.inner.InnerPage.from_right.Goals as goal

pub key-key-requires : goal.key-key-requires
key-key-requires c = omega (arith, c.child-child.ensures.is.between, c.requires.lender)

pub put_both-requires-clause-order : goal.put_both-requires-clause-order
put_both-requires-clause-order c =
    order_behind c.args.self.now.keys c.args.right.now.keys (c.len-n.result - 1) c.args.k.now (omega (arith, c.len-n.ensures.keys)) c.requires.order
