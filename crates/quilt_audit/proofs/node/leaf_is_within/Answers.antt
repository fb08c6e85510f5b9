use Rattle.std.proofs.Common.{◌≡◌, ◌&&◌, Bool, true, false, refl, sym, ◌∙◌, arith}
use Rattle.quilt_node.specs.Nodes.{page_records}
use Rattle.quilt_audit.proofs.Ends.{leaf_ends, leaf_stands}
use Rattle.quilt_audit.proofs.node.leaf_is_within.Goals as goal

pub overflow_sub-n : goal.overflow_sub-n
overflow_sub-n c = (c.records_in-n.ensures.length (page_records c.args.bytes.now) (leaf_stands c.args.bytes.now c.requires)).1

above : (a b : Bool) → a ≡ true → b ≡ (a && b)
above true b e = refl
above false b e = cc

below : (a b : Bool) → a ≡ false → a ≡ (a && b)
below false b e = refl
below true b e = cc

pub returns-then-is_above : goal.returns-then-is_above
returns-then-is_above c =
    let some = (c.records_in-n.ensures.length (page_records c.args.bytes.now) (leaf_stands c.args.bytes.now c.requires)).1 in
    let many = c.records_in-n.ensures.all in
    c.is_below.ensures ∙ above _ _ (sym c.is_above.ensures ∙ c.if-is_above.true)
    ∙ leaf_ends c.args.bytes.now c.args.low.now c.args.high.now c.records_in-n.result c.rec_in-first.result c.rec_in-last.result c.requires
    some many (c.rec_in-first.ensures.stands (omega arith)) (c.rec_in-last.ensures.stands (omega arith))

pub returns-else-is_above : goal.returns-else-is_above
returns-else-is_above c =
    let some = (c.records_in-n.ensures.length (page_records c.args.bytes.now) (leaf_stands c.args.bytes.now c.requires)).1 in
    let many = c.records_in-n.ensures.all in
    c.is_above.ensures ∙ below _ _ (sym c.is_above.ensures ∙ c.if-is_above.false)
    ∙ leaf_ends c.args.bytes.now c.args.low.now c.args.high.now c.records_in-n.result c.rec_in-first.result c.rec_in-last.result c.requires
    some many (c.rec_in-first.ensures.stands (omega arith)) (c.rec_in-last.ensures.stands (omega arith))
