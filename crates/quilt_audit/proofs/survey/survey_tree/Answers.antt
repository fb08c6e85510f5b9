use Rattle.std.proofs.Common.{[], ◌∙◌}
use Rattle.std.proofs.lemmas.Result.{err_from_is_err_and}
use Rattle.quilt_audit.proofs.Walked.{stop_map, spent_few}
use Rattle.quilt_audit.proofs.Whole.{walked_none, walked_root, tree_of_root, unmarked}
use Rattle.quilt_audit.proofs.survey.survey_tree.Goals as goal

pub returns-then-head-eq0-clause-walked : goal.returns-then-head-eq0-clause-walked
returns-then-head-eq0-clause-walked g c =
    walked_none (g.S.PageStore.size c.args.store.now) (g.met.S.PageStore.in_range c.args.store.now).0 (g.S.PageStore.told c.args.store.now)
    c.args.head.now c.unvisited-state.result (g.S.PageStore.reads c.args.store.now) c.if-head-eq0.true
    c.unvisited-state.ensures.used c.unvisited-state.ensures.format c.unvisited-state.ensures.level c.unvisited-state.ensures.fed

pub returns-in_err-survey_page-clause-damaged : goal.returns-in_err-survey_page-clause-damaged
returns-in_err-survey_page-clause-damaged g c =
    let p = err_from_is_err_and c.from_residual.result c.from_residual.ensures.1 in
    rw (p.1, p.2) (stop_map c.in_err-survey_page.field-0.0 _ _
    (λ p w told e. tree_of_root told c.args.head.now.root c.args.head.now.height c.if-head-eq0.false
    ∙ w told [] e (unmarked c.unvisited-state.result.used c.unvisited-state.ensures.used))
    c.in_err-survey_page.ensures.damaged)

pub returns-clause-walked : goal.returns-clause-walked
returns-clause-walked g c =
    walked_root (g.S.PageStore.size c.args.store.now) (g.met.S.PageStore.in_range c.args.store.now).0 (g.S.PageStore.told c.args.store.now)
    c.args.head.now c.unvisited-state.result c.survey_page.new.state (g.S.PageStore.reads c.args.store.now) (g.S.PageStore.reads c.survey_page.new.store)
    c.if-head-eq0.false c.unvisited-state.ensures.used c.unvisited-state.ensures.format c.unvisited-state.ensures.level
    c.unvisited-state.ensures.fed c.in_ok-survey_page.ensures.found

pub returns-in_err-survey_page-clause-few : goal.returns-in_err-survey_page-clause-few
returns-in_err-survey_page-clause-few g c =
    let p = err_from_is_err_and c.from_residual.result c.from_residual.ensures.1 in
    rw p.1 (let s = c.in_err-survey_page.ensures.spent [] (unmarked c.unvisited-state.result.used c.unvisited-state.ensures.used) in
    spent_few (g.S.PageStore.size c.args.store.now) s.now (g.S.PageStore.reads c.args.store.now) (g.S.PageStore.reads c.survey_page.new.store)
    (g.met.S.PageStore.in_range c.args.store.now).0 s.spent)
