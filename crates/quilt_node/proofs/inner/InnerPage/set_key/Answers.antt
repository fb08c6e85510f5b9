use Rattle.std.proofs.Common.{subst}
use Rattle.quilt_node.specs.Nodes.{IsInnerPage}
use Rattle.quilt_node.specs.Edits.{with_key}
use Rattle.quilt_node.proofs.Inners.{read_again, read_back}
use Rattle.quilt_node.proofs.InnerEdits.{set_page}
use Rattle.quilt_node.proofs.inner.InnerPage.set_key.Goals as goal

edited : (c : goal.After-put_over) → IsInnerPage c.put_over.new.bytes (with_key c.args.self.now c.args.i c.args.k.now)
edited c =
    set_page c.self.inside.bytes c.put_over.new.bytes c.key_bytes.result c.args.self.now c.args.i c.args.k.now
    (subst (IsInnerPage c.self.inside.bytes) c.self.view_is c.self.invariant) c.key_bytes.ensures.fits c.requires.place c.requires.order
    c.key_bytes.ensures.bytes c.put_over.ensures

pub invariant_of-self : goal.invariant_of-self
invariant_of-self c = read_again c.put_over.new.bytes _ (edited c)

pub returns : goal.returns
returns c = read_back c.put_over.new.bytes _ (edited c)
