use Rattle.quilt_store.proofs.Reading.{only_reads_then}
use Rattle.quilt_btree.proofs.ways.Looked.{read_of}
use Rattle.quilt_btree.proofs.ways.Steps.{step_arrives, step_sound, step_above, here_arrives}
use Rattle.quilt_btree.proofs.ways.Damage.{bad_leaf, names_below, spoilt_below}
use Rattle.quilt_btree.proofs.Handed.{handed_on}
use Rattle.quilt_btree.proofs.step.+leaf_at.Goals as goal

pub returns-then-height-eq1-clause-arrives : goal.returns-then-height-eq1-clause-arrives
returns-then-height-eq1-clause-arrives g t c = λ bytes are. here_arrives (g.S.PageStore.told c.args.store.now) c.args.page c.args.height bytes
    c.args.k.now c.args.high.now c.if-height-eq1.true are

pub returns-then-height-eq1-clause-spoilt : goal.returns-then-height-eq1-clause-spoilt
returns-then-height-eq1-clause-spoilt g t c = λ bytes are.
    bad_leaf (g.S.PageStore.told c.args.store.now) c.args.page c.args.height bytes c.if-height-eq1.true are

pub returns-in_err-step-clause-sound : goal.returns-in_err-step-clause-sound
returns-in_err-step-clause-sound g t c =
    rw (handed_on c.from_residual.result c.from_residual.ensures.1)
    (λ rs s. c.in_err-step.ensures.sound c.args.height rs c.requires.height c.if-height-eq1.false s)

pub returns-in_err-step-clause-bad : goal.returns-in_err-step-clause-bad
returns-in_err-step-clause-bad g t c =
    rw (handed_on c.from_residual.result c.from_residual.ensures.1) (c.in_err-step.ensures.bad c.args.height c.requires.height c.if-height-eq1.false)

pub returns-clause-arrives : goal.returns-clause-arrives
returns-clause-arrives g t c =
    step_arrives
    (read_of c.in_ok-step.ensures.looks c.requires.height c.if-height-eq1.false (g.met.S.PageStore.as_many c.args.store.now) c.in_ok-step.ensures.shows.are)
    c.in_ok-step.ensures.shows.step c.leaf_at.result c.leaf_at.ensures.arrives

pub returns-clause-sound : goal.returns-clause-sound
returns-clause-sound g t c =
    step_sound
    (read_of c.in_ok-step.ensures.looks c.requires.height c.if-height-eq1.false (g.met.S.PageStore.as_many c.args.store.now) c.in_ok-step.ensures.shows.are)
    c.in_ok-step.ensures.shows.step c.leaf_at.result c.leaf_at.ensures.sound

pub returns-clause-range : goal.returns-clause-range
returns-clause-range g t c = record {
  range = rw c.in_ok-step.ensures.looks.left.size at c.leaf_at.ensures.range.range;
  above = step_above c.leaf_at.result c.args.k.now c.args.high.now c.in_ok-step.step.high c.in_ok-step.ensures.above c.leaf_at.ensures.range.above;
}

pub returns-clause-spoilt : goal.returns-clause-spoilt
returns-clause-spoilt g t c =
    spoilt_below c.leaf_at.result c.in_ok-step.step.child
    (read_of c.in_ok-step.ensures.looks c.requires.height c.if-height-eq1.false (g.met.S.PageStore.as_many c.args.store.now) c.in_ok-step.ensures.shows.are) c.in_ok-step.ensures.shows.stands c.leaf_at.ensures.spoilt

pub returns-clause-bad : goal.returns-clause-bad
returns-clause-bad g t c =
    names_below c.leaf_at.result c.in_ok-step.step.child
    (read_of c.in_ok-step.ensures.looks c.requires.height c.if-height-eq1.false (g.met.S.PageStore.as_many c.args.store.now) c.in_ok-step.ensures.shows.are) c.in_ok-step.ensures.shows.stands c.leaf_at.ensures.bad

pub returns-clause-left : goal.returns-clause-left
returns-clause-left g t c = only_reads_then _ g.met.S.PageStore.goes_on _ _ _ c.in_ok-step.ensures.looks.left c.leaf_at.ensures.left
