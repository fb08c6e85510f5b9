use Rattle.std.proofs.Common.{subst, ◌++◌}
use Rattle.quilt_node.specs.Nodes.{IsLeafPage}
use Rattle.quilt_node.proofs.Leaves.{join_page, read_again, read_back}
use Rattle.quilt_node.proofs.leaf.LeafPage.join.Goals as goal

edited : (c : goal.After-set_count) → IsLeafPage c.set_count.new.bytes (c.args.self.now ++ c.args.right.now)
edited c =
    join_page c.self.inside.bytes c.put_over.new.bytes c.set_count.new.bytes c.right.inside.bytes c.args.self.now c.args.right.now
    c.len-n.result c.len-more.result
    (subst (IsLeafPage c.self.inside.bytes) c.self.view_is c.self.invariant) (subst (IsLeafPage c.right.inside.bytes) c.right.view_is c.right.invariant)
    c.len-n.ensures.length c.len-more.ensures.length c.requires.room c.requires.order c.put_over.ensures c.set_count.ensures

pub invariant_of-self : goal.invariant_of-self
invariant_of-self c = read_again c.set_count.new.bytes _ (edited c)

pub returns : goal.returns
returns c = read_back c.set_count.new.bytes _ (edited c)
