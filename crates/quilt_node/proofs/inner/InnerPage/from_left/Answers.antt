use Rattle.std.proofs.Common.{◌-◌, ◌∷◌, ◌∙◌, arith, subst, ap}
use Rattle.quilt_node.specs.Nodes.{IsInnerPage}
use Rattle.quilt_node.specs.Edits.{first_children}
use Rattle.quilt_node.proofs.Ascending.{ascending_back}
use Rattle.quilt_node.proofs.InnerSplits.{without_last}
use Rattle.quilt_node.proofs.inner.InnerPage.from_left.Goals as goal

pub put_both-requires-clause-place : goal.put_both-requires-clause-place
put_both-requires-clause-place c =
    let is = (subst (IsInnerPage c.self.inside.bytes) c.self.view_is c.self.invariant).is_inner in
    (omega (arith, is.least), omega arith)

pub put_both-requires-clause-order : goal.put_both-requires-clause-order
put_both-requires-clause-order c = ascending_back c.args.left.now.keys (c.args.k.now ∷ c.args.self.now.keys) c.requires.order

pub returns-clause-there : goal.returns-clause-there
returns-clause-there c =
    c.take_both.ensures
    ∙ without_last c.args.left.now (c.len-last.result - 1) (c.len-last.result - 1 - 1)
    (omega (arith, c.len-last.ensures.length, c.len-last.ensures.range)) (omega (arith, c.len-last.ensures.keys, c.len-last.ensures.range))
    (omega arith)
    ∙ ap (λ n. first_children (n - 1) c.args.left.now) c.len-last.ensures.length
