use Rattle.std.proofs.Common.{subst}
use Rattle.quilt_node.specs.Nodes.{IsInnerPage}
use Rattle.quilt_node.specs.Edits.{joined}
use Rattle.quilt_node.proofs.Inners.{read_again, read_back}
use Rattle.quilt_node.proofs.InnerEdits.{join_page}
use Rattle.quilt_node.proofs.inner.InnerPage.join.Goals as goal

edited : (c : goal.After-set_count) → IsInnerPage c.set_count.new.bytes (joined c.args.self.now c.args.k.now c.args.right.now)
edited c =
    join_page c.self.inside.bytes c.put_over.new.bytes c.put_over-2.new.bytes c.put_over-3.new.bytes c.set_count.new.bytes c.right.inside.bytes
    c.key_bytes.result c.args.self.now c.args.right.now
    c.len-n.result c.len-more.result c.args.k.now
    (subst (IsInnerPage c.self.inside.bytes) c.self.view_is c.self.invariant) (subst (IsInnerPage c.right.inside.bytes) c.right.view_is c.right.invariant)
    c.len-n.ensures.length c.len-more.ensures.length c.key_bytes.ensures.fits c.requires.room c.requires.order c.key_bytes.ensures.bytes
    c.put_over.ensures c.put_over-2.ensures c.put_over-3.ensures c.set_count.ensures

pub invariant_of-self : goal.invariant_of-self
invariant_of-self c = read_again c.set_count.new.bytes _ (edited c)

pub returns : goal.returns
returns c = read_back c.set_count.new.bytes _ (edited c)
