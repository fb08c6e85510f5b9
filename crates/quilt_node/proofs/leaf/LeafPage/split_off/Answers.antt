use Rattle.std.proofs.Common.{subst, refl, take, drop}
use Rattle.quilt_node.specs.Nodes.{IsLeafPage}
use Rattle.quilt_node.proofs.Leaves.{keep_page, rest_page, read_again, read_back}
use Rattle.quilt_node.proofs.leaf.LeafPage.split_off.Goals as goal

kept : (c : goal.After-set_count) → IsLeafPage c.set_count.new.bytes (take c.args.n c.args.self.now)
kept c =
    keep_page c.self.inside.bytes c.clear.new.bytes c.set_count.new.bytes c.args.self.now c.args.n c.len-all.result
    (subst (IsLeafPage c.self.inside.bytes) c.self.view_is c.self.invariant) c.len-all.ensures.length c.requires c.clear.ensures c.set_count.ensures

moved : (c : goal.After-set_count) → IsLeafPage c.leaf_page.result (drop c.args.n c.args.self.now)
moved c =
    rest_page c.self.inside.bytes c.leaf_page.result c.args.self.now c.args.n c.len-all.result _
    (subst (IsLeafPage c.self.inside.bytes) c.self.view_is c.self.invariant) c.len-all.ensures.length c.requires.1 refl c.leaf_page.ensures

pub invariant_of-right : goal.invariant_of-right
invariant_of-right c = read_again c.leaf_page.result _ (moved c)

pub invariant_of-self : goal.invariant_of-self
invariant_of-self c = read_again c.set_count.new.bytes _ (kept c)

pub returns-clause-left : goal.returns-clause-left
returns-clause-left c = read_back c.set_count.new.bytes _ (kept c)

pub returns-clause-right : goal.returns-clause-right
returns-clause-right c = read_back c.leaf_page.result _ (moved c)
