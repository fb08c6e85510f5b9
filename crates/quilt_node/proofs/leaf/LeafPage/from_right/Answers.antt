use Rattle.quilt_node.proofs.Leaves.{lent_first_order}
use Rattle.quilt_node.proofs.leaf.LeafPage.from_right.Goals as goal

pub insert-requires-clause-order : goal.insert-requires-clause-order
insert-requires-clause-order c =
    lent_first_order c.args.self.now c.args.right.now c.len.result c.rec-first.result c.len.ensures.length c.rec-first.ensures c.requires.order
