use Rattle.std.proofs.Common.{◌∙◌, ap, Some}
use Rattle.quilt_node.proofs.Leaves.{leaf_of_page}
use Rattle.quilt_node.proofs.leaf.LeafPage.bytes.Goals as goal

pub returns-clause-leaf : goal.returns-clause-leaf
returns-clause-leaf c = leaf_of_page _ _ c.self.invariant ∙ ap Some c.self.view_is
