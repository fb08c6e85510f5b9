use Rattle.std.proofs.Common.{◌<◌, List, Some, length, not, sym, ◌∙◌, ap, subst}
use Rattle.quilt_record.specs.declared.record.Record.{Record}
use Rattle.quilt_node.specs.Nodes.{page_records}
use Rattle.quilt_node.proofs.Places.{leaf_records}
use Rattle.quilt_btree.specs.Batches.{is_due, edited, HasRoom}
use Rattle.quilt_btree.proofs.batches.Plans.{set_over}
use Rattle.quilt_btree.proofs.growth.LeafGrowth.{gap_ascends}
use Rattle.quilt_btree.proofs.subtrees.Trees.{leaf_list}
use Rattle.quilt_btree.proofs.ways.Leaves.{put_gap, without_found, gap_any, found_any}
use Rattle.quilt_btree.proofs.edit.make.Goals as goal

pub returns-in-Err-clause-due : goal.returns-in-Err-clause-due
returns-in-Err-clause-due c = λ rs is.
    sym (ap (λ e. is_due e rs) c.in-Remove.is ∙ gap_any c.in-Remove.key rs c.in-Err.field-0 (c.in-Err.ensures.place rs is))

pub returns-in-Ok-clause-due : goal.returns-in-Ok-clause-due
returns-in-Ok-clause-due c = λ rs is.
    let f = c.in-Ok.ensures.place rs is in
    sym (ap (λ e. is_due e rs) c.in-Remove.is ∙ found_any c.in-Remove.key rs c.in-Ok.place f.found f f.here)

pub returns-in-Ok-clause-made : goal.returns-in-Ok-clause-made
returns-in-Ok-clause-made c = λ rs is t.
    let f = c.in-Ok.ensures.place rs is in
    let some : 1 < length rs = subst (λ (l : List Record). 1 < length l) (leaf_records c.args.bytes.now rs is)
    (subst (λ e. HasRoom e (length (page_records c.args.bytes.now))) c.in-Remove.is c.requires) in
    c.remove_in.ensures.leaf rs is some
    ∙ ap Some (without_found c.in-Remove.key rs c.in-Ok.place f.found f f.here ∙ sym (ap (λ e. edited e rs) c.in-Remove.is))

pub returns-in-Ok-find_in-clause-due : goal.returns-in-Ok-find_in-clause-due
returns-in-Ok-find_in-clause-due c = λ rs is.
    let f = c.in-Ok-find_in.ensures.place rs is in
    sym (ap (λ e. is_due e rs) c.in-Put.is ∙ ap not (found_any c.in-Put.record.key rs c.in-Ok-find_in.field-0 f.found f f.here))

pub returns-in-Err-find_in-clause-due : goal.returns-in-Err-find_in-clause-due
returns-in-Err-find_in-clause-due c = λ rs is.
    sym (ap (λ e. is_due e rs) c.in-Put.is
    ∙ ap not (gap_any c.in-Put.record.key rs c.in-Err-find_in.place (c.in-Err-find_in.ensures.place rs is)))

pub returns-in-Err-find_in-clause-made : goal.returns-in-Err-find_in-clause-made
returns-in-Err-find_in-clause-made c = λ rs is t.
    let gap = c.in-Err-find_in.ensures.place rs is in
    c.insert_in.ensures.leaf rs is (gap_ascends c.in-Put.record rs c.in-Err-find_in.place (leaf_list c.args.bytes.now rs is).ascends gap)
    ∙ ap Some (put_gap c.in-Put.record rs c.in-Err-find_in.place gap ∙ sym (ap (λ e. edited e rs) c.in-Put.is))

pub returns-in-Err-find_in-2-clause-due : goal.returns-in-Err-find_in-2-clause-due
returns-in-Err-find_in-2-clause-due c = λ rs is.
    sym (ap (λ e. is_due e rs) c.in-Replace.is
    ∙ gap_any c.in-Replace.record.key rs c.in-Err-find_in-2.field-0 (c.in-Err-find_in-2.ensures.place rs is))

pub returns-in-Ok-find_in-2-clause-due : goal.returns-in-Ok-find_in-2-clause-due
returns-in-Ok-find_in-2-clause-due c = λ rs is.
    let f = c.in-Ok-find_in-2.ensures.place rs is in
    sym (ap (λ e. is_due e rs) c.in-Replace.is
    ∙ found_any c.in-Replace.record.key rs c.in-Ok-find_in-2.place f.found f f.here)

pub returns-in-Ok-find_in-2-clause-made : goal.returns-in-Ok-find_in-2-clause-made
returns-in-Ok-find_in-2-clause-made c = λ rs is t.
    let f = c.in-Ok-find_in-2.ensures.place rs is in
    c.replace_in.ensures rs is f ∙ ap Some (set_over c.in-Replace.record rs c.in-Ok-find_in-2.place f ∙ sym (ap (λ e. edited e rs) c.in-Replace.is))
