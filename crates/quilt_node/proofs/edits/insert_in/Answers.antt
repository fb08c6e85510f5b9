use Rattle.std.proofs.Common.{◌≡◌, ◌<◌, ◌≤◌, true, List, length, ◌∙◌, ap, subst, rules}
use Rattle.std.specs.List.{insert}
use Rattle.quilt_record.specs.declared.record.Record.{Record}
use Rattle.quilt_node.specs.Pages.{is_ascending}
use Rattle.quilt_node.specs.Nodes.{IsLeafPage, keys_of}
use Rattle.quilt_node.proofs.Leaves.{insert_page, leaf_of_page}
use Rattle.quilt_node.proofs.LeafReads.{page_of}
use Rattle.quilt_node.proofs.Places.{leaf_records}
use Rattle.quilt_node.proofs.edits.insert_in.Goals as goal

edited : (c : goal.After-set_count) (rs : List Record) → IsLeafPage c.args.bytes.now rs → is_ascending (keys_of (insert rs c.args.i c.args.r.now)) ≡ true
    → IsLeafPage c.set_count.new.bytes (insert rs c.args.i c.args.r.now)
edited c rs p order =
    let same = leaf_records c.args.bytes.now rs (leaf_of_page c.args.bytes.now rs p) in
    insert_page c.args.bytes.now c.put_in.new.bytes c.set_count.new.bytes c.record_piece.result rs c.args.i c.records_in-n.result c.args.r.now p
    (c.records_in-n.ensures.all ∙ ap length same) c.record_piece.ensures.fits (subst (λ (l : List Record). c.args.i ≤ length l) same c.requires.place)
    (subst (λ (l : List Record). length l < 144) same c.requires.room) order c.record_piece.ensures.bytes c.put_in.ensures c.set_count.ensures

pub returns-clause-page : goal.returns-clause-page
returns-clause-page c = λ rs p order. edited c rs p order

pub returns-clause-leaf : goal.returns-clause-leaf
returns-clause-leaf c = λ rs is order. leaf_of_page _ _ (edited c rs (page_of c.args.bytes.now rs (search rules) (search rules) is) order)
