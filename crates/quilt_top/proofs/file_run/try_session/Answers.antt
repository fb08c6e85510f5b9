use Rattle.std.proofs.Common.{◌≡◌, ◌∙◌, sym, ap, subst}
use Rattle.quilt_map.specs.Sessions.{level_of, IsAt}
use Rattle.quilt_top.specs.declared.run.End.{End}
use Rattle.quilt_top.specs.Headline.{IsOneOf}
use Rattle.quilt_top.specs.Openings.{run_ends, is_run_end}
use Rattle.quilt_top.specs.Trying.{trial_run}
use Rattle.quilt_top.proofs.Concluding.{tries_goes, not_much}
use Rattle.quilt_types.specs.declared.stop.Stop.TheVariants as stops
use Rattle.quilt_top.specs.declared.halt.Halt.TheVariants as halts
use Rattle.quilt_top.proofs.Running.{err_first, end_of_run, is_end}
use Rattle.quilt_top.proofs.logs.Said.{ok_at}
use Rattle.quilt_top.proofs.file_run.try_session.Goals as goal

pub returns-clause-ends : goal.returns-clause-ends
returns-clause-ends g c = ap is_run_end c.end_of-end.ensures ∙ is_end c.run_trial.result

pub returns-clause-short : goal.returns-clause-short
returns-clause-short g c = λ much. not_much c.run_trial.result c.run_trial.ensures.short (sym c.end_of-end.ensures ∙ much)

pub returns-clause-sound : goal.returns-clause-sound
returns-clause-sound g c = λ s first.
    subst (λ (e : End). IsOneOf e run_ends) (sym c.end_of-end.ensures)
    (end_of_run (IsAt c.begin_session-session.result) s (c.begin_session-session.ensures.at s first) c.run_trial.result c.run_trial.ensures.damaged)

pub returns-clause-tries : goal.returns-clause-tries
returns-clause-tries g c = λ s first.
    let session = c.begin_session-session.result in
    let at = c.begin_session-session.ensures.at s first in
    rw (c.end_of-end.ensures, c.into_world.ensures, sym c.begin_session-session.ensures.world, sym c.begin_session-session.ensures.level)
    (tries_goes (level_of session) (trial_run (level_of session) s c.args.seed c.args.count) c.run_trial.result _ _
    (c.run_trial.ensures.front s at)
    (ok_at (IsAt session) s at c.run_trial.result _ c.run_trial.ensures.whole)
    (err_first (IsAt session) s at c.run_trial.result (λ e. e ≡ halts.Stopped stops.Memory) _ c.run_trial.ensures.unsaid))
