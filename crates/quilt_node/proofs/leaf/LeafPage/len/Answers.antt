use Rattle.std.proofs.Common.{◌≡◌, ◌∙◌, ap, length, arith}
use Rattle.quilt_node.specs.Pages.{read_leaf}
use Rattle.quilt_node.proofs.Leaves.{count_is}
use Rattle.quilt_node.proofs.leaf.LeafPage.len.Goals as goal

pub returns-clause-length : goal.returns-clause-length
returns-clause-length c = c.count_in.ensures ∙ count_is _ _ c.self.invariant ∙ ap length c.self.view_is

pub returns-clause-range : goal.returns-clause-range
returns-clause-range c =
    let e : c.count_in.result ≡ length (read_leaf c.self.inside.bytes) = c.count_in.ensures ∙ count_is _ _ c.self.invariant in
    (omega (arith, e, c.self.invariant.is_leaf.least), omega (arith, e, c.self.invariant.is_leaf.most))
