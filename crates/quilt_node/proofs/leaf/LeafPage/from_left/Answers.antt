use Rattle.std.proofs.Common.{◌-◌, ◌∙◌, ◌++◌, drop, ap, arith}
use Rattle.quilt_node.proofs.Leaves.{lent_last, lent_last_order}
use Rattle.quilt_node.proofs.leaf.LeafPage.from_left.Goals as goal

pub insert-requires-clause-order : goal.insert-requires-clause-order
insert-requires-clause-order c =
    lent_last_order c.args.self.now c.args.left.now (c.len-i.result - 1) c.rec-last.result (omega (arith, c.len-i.ensures.length, c.requires.lender))
    c.rec-last.ensures c.requires.order

pub returns-clause-here : goal.returns-clause-here
returns-clause-here c =
    c.insert.ensures ∙ lent_last c.args.self.now c.args.left.now (c.len-i.result - 1) c.rec-last.result
    (omega (arith, c.len-i.ensures.length, c.requires.lender)) c.rec-last.ensures
    ∙ ap (λ n. drop (n - 1) c.args.left.now ++ c.args.self.now) c.len-i.ensures.length
