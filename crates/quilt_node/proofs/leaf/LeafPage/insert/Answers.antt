use Rattle.std.proofs.Common.{◌<◌, ◌≤◌, List, length, sym, ◌∙◌, subst}
use Rattle.std.specs.List.{insert}
use Rattle.quilt_record.specs.declared.record.Record.{Record}
use Rattle.quilt_node.specs.Nodes.{IsLeafPage}
use Rattle.quilt_node.proofs.Leaves.{leaf_of_page, read_again, read_back}
use Rattle.quilt_node.proofs.Places.{leaf_records}
use Rattle.quilt_node.proofs.leaf.LeafPage.insert.Goals as goal

pub insert_in-requires : goal.insert_in-requires
insert_in-requires c =
    let same = leaf_records c.self.inside.bytes _ (leaf_of_page c.self.inside.bytes _ c.self.invariant) ∙ c.self.view_is in
    record {
      room = subst (λ (l : List Record). length l < 144) (sym same) c.requires.room;
      place = subst (λ (l : List Record). c.args.i ≤ length l) (sym same) c.requires.place;
    }

edited : (c : goal.After-insert_in) → IsLeafPage c.insert_in.new.bytes (insert c.args.self.now c.args.i c.args.r.now)
edited c = c.insert_in.ensures.page c.args.self.now (subst (IsLeafPage c.self.inside.bytes) c.self.view_is c.self.invariant) c.requires.order

pub invariant_of-self : goal.invariant_of-self
invariant_of-self c = read_again c.insert_in.new.bytes _ (edited c)

pub returns : goal.returns
returns c = read_back c.insert_in.new.bytes _ (edited c)
