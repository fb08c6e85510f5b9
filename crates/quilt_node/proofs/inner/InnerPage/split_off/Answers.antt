use Rattle.std.proofs.Common.{subst, refl}
use Rattle.quilt_node.specs.Nodes.{IsInnerPage}
use Rattle.quilt_node.specs.Edits.{first_children, children_from}
use Rattle.quilt_node.proofs.Inners.{read_again, read_back}
use Rattle.quilt_node.proofs.InnerEdits.{keep_page, rest_page}
use Rattle.quilt_node.proofs.inner.InnerPage.split_off.Goals as goal

kept : (c : goal.After-set_count) → IsInnerPage c.set_count.new.bytes (first_children c.args.n c.args.self.now)
kept c =
    keep_page c.self.inside.bytes c.clear.new.bytes c.clear-2.new.bytes c.set_count.new.bytes c.args.self.now c.args.n c.len-all.result
    (subst (IsInnerPage c.self.inside.bytes) c.self.view_is c.self.invariant) c.len-all.ensures.length c.requires c.clear.ensures
    c.clear-2.ensures c.set_count.ensures

moved : (c : goal.After-set_count) → IsInnerPage c.put_over.new.bytes (children_from c.args.n c.args.self.now)
moved c =
    rest_page c.self.inside.bytes c.page_of_children-page.result c.put_over.new.bytes c.args.self.now c.height-height.result c.args.n c.len-all.result _
    (subst (IsInnerPage c.self.inside.bytes) c.self.view_is c.self.invariant) c.len-all.ensures.length c.requires.1 c.height-height.ensures refl
    c.page_of_children-page.ensures c.put_over.ensures

pub invariant_of-right : goal.invariant_of-right
invariant_of-right c = read_again c.put_over.new.bytes _ (moved c)

pub invariant_of-self : goal.invariant_of-self
invariant_of-self c = read_again c.set_count.new.bytes _ (kept c)

pub returns-clause-left : goal.returns-clause-left
returns-clause-left c = read_back c.set_count.new.bytes _ (kept c)

pub returns-clause-right : goal.returns-clause-right
returns-clause-right c = read_back c.put_over.new.bytes _ (moved c)
