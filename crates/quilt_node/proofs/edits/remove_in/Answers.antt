use Rattle.std.proofs.Common.{◌<◌, List, length, ◌∙◌, ap, subst, rules}
use Rattle.std.specs.List.{remove}
use Rattle.quilt_record.specs.declared.record.Record.{Record}
use Rattle.quilt_node.specs.Nodes.{IsLeafPage}
use Rattle.quilt_node.proofs.Leaves.{remove_page, leaf_of_page}
use Rattle.quilt_node.proofs.LeafReads.{page_of}
use Rattle.quilt_node.proofs.Places.{leaf_records}
use Rattle.quilt_node.proofs.edits.remove_in.Goals as goal

edited : (c : goal.After-set_count) (rs : List Record) → IsLeafPage c.args.bytes.now rs → 1 < length rs
    → IsLeafPage c.set_count.new.bytes (remove rs c.args.i)
edited c rs p some =
    let same = leaf_records c.args.bytes.now rs (leaf_of_page c.args.bytes.now rs p) in
    remove_page c.args.bytes.now c.take_out.new.bytes c.set_count.new.bytes rs c.args.i c.records_in-n.result p (c.records_in-n.ensures.all ∙ ap length same)
    (subst (λ (l : List Record). c.args.i < length l) same c.requires) some c.take_out.ensures c.set_count.ensures

pub returns-clause-page : goal.returns-clause-page
returns-clause-page c = λ rs p some. edited c rs p some

pub returns-clause-leaf : goal.returns-clause-leaf
returns-clause-leaf c = λ rs is some. leaf_of_page _ _ (edited c rs (page_of c.args.bytes.now rs (search rules) (search rules) is) some)
