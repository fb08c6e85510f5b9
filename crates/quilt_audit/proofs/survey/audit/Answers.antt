use Rattle.std.proofs.Common.{subst}
use Rattle.std.proofs.lemmas.Result.{err_from_is_err_and}
use Rattle.quilt_node.specs.Pages.{IsHead}
use Rattle.quilt_line_audit.proofs.Descents.{some_from, none_from}
use Rattle.quilt_audit.proofs.Walked.{stop_map}
use Rattle.quilt_audit.proofs.Whole.{survey_from, damage_from, damage_at}
use Rattle.quilt_audit.proofs.survey.audit.Goals as goal

pub returns-in_err-state-clause-damaged : goal.returns-in_err-state-clause-damaged
returns-in_err-state-clause-damaged g c =
    let p = err_from_is_err_and c.from_residual.result c.from_residual.ensures.1 in
    rw (p.1, p.2) (stop_map c.in_err-state.field-0.0 _ _ (λ p w told e. damage_at told c.args.head.now p (w told e)) c.in_err-state.ensures.damaged)

pub returns-in-Ok-None-clause-damaged : goal.returns-in-Ok-None-clause-damaged
returns-in-Ok-None-clause-damaged g c told e =
    damage_from (g.S.PageStore.size c.args.store.now) (g.S.PageStore.told c.args.store.now) c.args.head.now c.in_ok-state.state
    (g.S.PageStore.reads c.args.store.now) (g.S.PageStore.reads c.survey_tree.new.store)
    c.in_ok-state.ensures.walked (subst (λ k. IsHead k c.args.head.now) c.requires.size c.requires.head) told e
    (none_from c.in-Ok-None.field-0 c.in-Ok-None.field-0-is c.in-Ok-None.ensures.none)

pub returns-in-Ok-Some-clause-survey : goal.returns-in-Ok-Some-clause-survey
returns-in-Ok-Some-clause-survey g c told e =
    survey_from (g.S.PageStore.size c.args.store.now) (g.S.PageStore.told c.args.store.now) c.args.head.now c.in_ok-state.state
    (g.S.PageStore.reads c.args.store.now) (g.S.PageStore.reads c.survey_tree.new.store)
    c.in_ok-state.ensures.walked (subst (λ k. IsHead k c.args.head.now) c.requires.size c.requires.head) told e c.in-Ok-Some.catalog
    (some_from c.in-Ok-Some.field-0 c.in-Ok-Some.catalog _ c.in-Ok-Some.field-0-is c.in-Ok-Some.ensures.some)
