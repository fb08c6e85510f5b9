use Rattle.std.proofs.Common.{◌<◌, List, length, sym, ◌∙◌, subst}
use Rattle.std.specs.List.{remove}
use Rattle.quilt_record.specs.declared.record.Record.{Record}
use Rattle.quilt_node.specs.Nodes.{IsLeafPage}
use Rattle.quilt_node.proofs.Leaves.{leaf_of_page, read_again, read_back}
use Rattle.quilt_node.proofs.Places.{leaf_records}
use Rattle.quilt_node.proofs.leaf.LeafPage.remove.Goals as goal

pub remove_in-requires : goal.remove_in-requires
remove_in-requires c =
    let same = leaf_records c.self.inside.bytes _ (leaf_of_page c.self.inside.bytes _ c.self.invariant) ∙ c.self.view_is in
    subst (λ (l : List Record). c.args.i < length l) (sym same) c.requires.place

edited : (c : goal.After-remove_in) → IsLeafPage c.remove_in.new.bytes (remove c.args.self.now c.args.i)
edited c = c.remove_in.ensures.page c.args.self.now (subst (IsLeafPage c.self.inside.bytes) c.self.view_is c.self.invariant) c.requires.left

pub invariant_of-self : goal.invariant_of-self
invariant_of-self c = read_again c.remove_in.new.bytes _ (edited c)

pub returns : goal.returns
returns c = read_back c.remove_in.new.bytes _ (edited c)
