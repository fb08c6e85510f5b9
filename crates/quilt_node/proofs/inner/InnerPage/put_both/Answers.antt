use Rattle.std.proofs.Common.{subst}
use Rattle.quilt_node.specs.Nodes.{IsInnerPage}
use Rattle.quilt_node.proofs.Inners.{read_again, read_back}
use Rattle.quilt_node.proofs.InnerEdits.{put_both, put_page}
use Rattle.quilt_node.proofs.inner.InnerPage.put_both.Goals as goal

edited : (c : goal.After-set_count) → IsInnerPage c.set_count.new.bytes (put_both c.args.self.now c.args.i c.args.k.now c.args.j c.args.child)
edited c =
    put_page c.self.inside.bytes c.put_in.new.bytes c.put_in-2.new.bytes c.set_count.new.bytes c.to_be_bytes.result c.key_bytes.result
    c.args.self.now c.args.i c.args.j c.len-n.result c.args.child c.args.k.now
    (subst (IsInnerPage c.self.inside.bytes) c.self.view_is c.self.invariant) c.len-n.ensures.length c.key_bytes.ensures.fits c.requires.child
    c.ranges.child.fits c.requires.room c.requires.place c.requires.order
    c.to_be_bytes.ensures c.key_bytes.ensures.bytes c.put_in.ensures c.put_in-2.ensures c.set_count.ensures

pub invariant_of-self : goal.invariant_of-self
invariant_of-self c = read_again c.set_count.new.bytes _ (edited c)

pub returns : goal.returns
returns c = read_back c.set_count.new.bytes _ (edited c)
