use Rattle.std.proofs.Common.{subst}
use Rattle.quilt_node.specs.Nodes.{IsInnerPage}
use Rattle.quilt_node.proofs.Inners.{read_again, read_back}
use Rattle.quilt_node.proofs.InnerEdits.{take_both, take_page}
use Rattle.quilt_node.proofs.inner.InnerPage.take_both.Goals as goal

edited : (c : goal.After-set_count) → IsInnerPage c.set_count.new.bytes (take_both c.args.self.now c.args.i c.args.j)
edited c =
    take_page c.self.inside.bytes c.take_out.new.bytes c.take_out-2.new.bytes c.set_count.new.bytes c.args.self.now c.args.i c.args.j c.len-n.result
    (subst (IsInnerPage c.self.inside.bytes) c.self.view_is c.self.invariant) c.len-n.ensures.length c.requires.left c.requires.place
    c.take_out.ensures c.take_out-2.ensures c.set_count.ensures

pub invariant_of-self : goal.invariant_of-self
invariant_of-self c = read_again c.set_count.new.bytes _ (edited c)

pub returns : goal.returns
returns c = read_back c.set_count.new.bytes _ (edited c)
