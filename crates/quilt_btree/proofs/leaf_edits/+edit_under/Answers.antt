use Rattle.std.proofs.Common.{◌-◌, arith}
use Rattle.quilt_btree.proofs.stores.Leaves.{edits_behind}
use Rattle.quilt_btree.proofs.batches.Below.{fails_leaf, step_edited, step_fails, least_first}
use Rattle.quilt_btree.proofs.growth.Below.{same_of, edit_spells}
use Rattle.quilt_btree.proofs.ways.Damage.{named_leaf, named_below}
use Rattle.quilt_btree.proofs.ways.Looked.{read_of}
use Rattle.quilt_btree.proofs.Handed.{handed_on}
use Rattle.quilt_btree.proofs.leaf_edits.+edit_under.Goals as goal

pub returns-in_err-step-clause-fails : goal.returns-in_err-step-clause-fails
returns-in_err-step-clause-fails g t c =
    rw (handed_on c.from_residual.result c.from_residual.ensures.1)
    (λ b rs used top can page is. absurd (c.in_err-step.ensures.sound c.args.height rs c.requires.height c.if-height-eq1.false (edit_spells can) page is))

pub returns-in_err-step-clause-bad : goal.returns-in_err-step-clause-bad
returns-in_err-step-clause-bad g t c =
    rw (handed_on c.from_residual.result c.from_residual.ensures.1) (λ ne. c.in_err-step.ensures.bad c.args.height c.requires.height c.if-height-eq1.false)

pub returns-clause-edited : goal.returns-clause-edited
returns-clause-edited g t c =
    step_edited (g.S.PageStore.told c.args.store.now) (g.S.PageStore.told c.step_at.new.store) (g.S.PageStore.free c.args.store.now)
    (g.S.PageStore.free c.step_at.new.store) (g.S.PageStore.size c.args.store.now) (g.S.PageStore.size c.step_at.new.store) c.args.page c.args.height
    (g.S.PageStore.size c.args.store.now) c.in_ok-step.ensures.shows.bytes c.in_ok-step.step.child c.key.result.now c.args.high.now c.in_ok-step.step.high
    c.args.run.now c.args.is_root c.edit_under.result (g.S.PageStore.told c.edit_under.new.store) (g.S.PageStore.free c.edit_under.new.store)
    (read_of c.in_ok-step.ensures.looks c.requires.height c.if-height-eq1.false (g.met.S.PageStore.as_many c.args.store.now) c.in_ok-step.ensures.shows.are)
    (same_of c.in_ok-step.ensures.looks.left)
    c.in_ok-step.ensures.shows.step (least_first c.args.run.now c.key.result.now c.key.ensures c.requires.order c.requires.some)
    c.edit_under.ensures.edited

pub returns-clause-fails : goal.returns-clause-fails
returns-clause-fails g t c =
    step_fails (g.S.PageStore.told c.args.store.now) (g.S.PageStore.told c.step_at.new.store) (g.S.PageStore.free c.args.store.now)
    (g.S.PageStore.free c.step_at.new.store) (g.S.PageStore.size c.args.store.now) (g.S.PageStore.size c.step_at.new.store) c.args.page c.args.height
    (g.S.PageStore.size c.args.store.now) c.in_ok-step.ensures.shows.bytes c.in_ok-step.step.child c.key.result.now c.args.high.now c.in_ok-step.step.high
    c.args.run.now c.args.is_root c.edit_under.result
    (read_of c.in_ok-step.ensures.looks c.requires.height c.if-height-eq1.false (g.met.S.PageStore.as_many c.args.store.now) c.in_ok-step.ensures.shows.are)
    (same_of c.in_ok-step.ensures.looks.left)
    c.in_ok-step.ensures.shows.step (least_first c.args.run.now c.key.result.now c.key.ensures c.requires.order c.requires.some) c.edit_under.ensures.fails

pub returns-then-height-eq1-clause-fails : goal.returns-then-height-eq1-clause-fails
returns-then-height-eq1-clause-fails g t c =
    fails_leaf c.args.high.now c.args.run.now c.edit_leaf.result (g.S.PageStore.told c.args.store.now) (g.S.PageStore.free c.args.store.now)
    c.args.page c.args.height c.args.is_root c.if-height-eq1.true
    c.edit_leaf.ensures.fails

pub returns-then-height-eq1-clause-bad : goal.returns-then-height-eq1-clause-bad
returns-then-height-eq1-clause-bad g t c =
    named_leaf c.edit_leaf.result (g.S.PageStore.told c.args.store.now) c.args.height c.args.page c.if-height-eq1.true c.edit_leaf.ensures.bad

pub returns-clause-bad : goal.returns-clause-bad
returns-clause-bad g t c =
    named_below c.edit_under.result c.in_ok-step.step.child
    (read_of c.in_ok-step.ensures.looks c.requires.height c.if-height-eq1.false (g.met.S.PageStore.as_many c.args.store.now) c.in_ok-step.ensures.shows.are)
    c.in_ok-step.ensures.shows.stands c.edit_under.ensures.bad

pub returns-clause-left : goal.returns-clause-left
returns-clause-left g t c =
    edits_behind _ g.met.S.PageStore.goes_on 1 1 (c.args.height - 1) c.args.height (let some = c.requires.height in omega arith)
    c.in_ok-step.ensures.looks.left
    c.in_ok-step.ensures.looks.reads c.edit_under.ensures.left
