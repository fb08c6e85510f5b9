use Rattle.std.proofs.Common.{◌∙◌, sym}
use Rattle.quilt_btree.proofs.ways.Steps.{last_step, keys_many, next_step, next_is_above}
use Rattle.quilt_btree.proofs.step.step_in.Goals as goal

pub returns-in-None-clause-step : goal.returns-in-None-clause-step
returns-in-None-clause-step c = λ inner is. c.in-None.ensures.path inner is

pub returns-then-child_count_in-path-clause-step : goal.returns-then-child_count_in-path-clause-step
returns-then-child_count_in-path-clause-step c = λ inner is.
    let w = c.in-Some.ensures.path inner is in
    last_step inner c.args.k.now c.in-Some.path.place c.in-Some.path.child c.args.high.now c.args.pages c.args.bytes.now c.child_count_in.result is w.1
    (c.child_count_in.ensures.length c.args.pages inner is).0 c.if-child_count_in-path.true
    w.2

pub returns-then-not-precedes-clause-step : goal.returns-then-not-precedes-clause-step
returns-then-not-precedes-clause-step c = λ inner is.
    let w = c.in-Some.ensures.path inner is in
    next_is_above inner c.args.k.now c.separator_in-next.result c.in-Some.path.place w.1
    (c.separator_in-next.ensures c.args.pages inner is
    (keys_many c.args.pages c.args.bytes.now inner c.in-Some.path.place c.child_count_in.result is
    (c.child_count_in.ensures.length c.args.pages inner is).0 c.if-child_count_in-path.false))
    (sym c.precedes.ensures ∙ c.if-not-precedes.true)

pub returns-clause-step : goal.returns-clause-step
returns-clause-step c = λ inner is.
    let w = c.in-Some.ensures.path inner is in
    next_step inner c.args.k.now c.in-Some.path.place c.in-Some.path.child c.args.high.now c.separator_in-next.result w.1
    w.2
    (c.separator_in-next.ensures c.args.pages inner is
    (keys_many c.args.pages c.args.bytes.now inner c.in-Some.path.place c.child_count_in.result is
    (c.child_count_in.ensures.length c.args.pages inner is).0 c.if-child_count_in-path.false))
