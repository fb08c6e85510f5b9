use Rattle.std.proofs.Common.{ap, sym, ◌∙◌, length, subst}
use Rattle.quilt_node.proofs.Places.{leaf_records}
use Rattle.quilt_btree.specs.Batches.{HasRoom}
use Rattle.quilt_btree.proofs.batches.Leaves.{edit_at, edited_fails}
use Rattle.quilt_btree.proofs.batches.Plans.{made_none, made_next, room_next}
use Rattle.quilt_btree.proofs.edit.edit_in.Goals as goal

pub loop-i-init : goal.loop-i-init
loop-i-init c = λ rs is h. made_none c.args.bytes.now rs c.args.run.now is

pub loop-i-preserved : goal.loop-i-preserved
loop-i-preserved c = λ rs is h.
    let m = c.loop-i.invariant rs is h in
    made_next c.loop-i.bytes c.make.new.bytes c.args.run.now c.args.bytes.now rs c.loop-i.i is c.loop-i-test.true m
    (sym (c.make.ensures.due m.now m.is_leaf) ∙ c.if-not-make.false) (c.make.ensures.made m.now m.is_leaf c.if-not-make.false)

pub returns-in-None-clause-fails : goal.returns-in-None-clause-fails
returns-in-None-clause-fails c = λ rs is h e.
    let m = c.loop-i.invariant rs is h in
    let many = c.records_in.ensures.all ∙ ap length (leaf_records c.loop-i.bytes m.now m.is_leaf) in
    absurd (c.count_behind.ensures.none c.in-None.is (subst (HasRoom (edit_at c.args.run.now c.loop-i.i)) (sym many)
    (room_next c.loop-i.bytes rs c.args.run.now c.loop-i.i c.loop-i-test.true h m)))

pub returns-then-not-make-clause-fails : goal.returns-then-not-make-clause-fails
returns-then-not-make-clause-fails c = λ rs is h e.
    let m = c.loop-i.invariant rs is h in
    edited_fails rs m.now c.args.run.now c.loop-i.i c.loop-i-test.true m.edited (sym (c.make.ensures.due m.now m.is_leaf) ∙ c.if-not-make.true)
