use Rattle.std.proofs.Common.{◌≡◌, ◌∙◌, sym, ap, subst}
use Rattle.quilt_map.specs.Sessions.{level_of, IsAt}
use Rattle.quilt_top.specs.declared.run.End.{End}
use Rattle.quilt_top.specs.Headline.{IsOneOf}
use Rattle.quilt_top.specs.Openings.{run_ends, is_run_end}
use Rattle.quilt_top.specs.declared.halt.Halt.TheVariants as halts
use Rattle.quilt_top.specs.Openings.{IsNoFault}
use Rattle.quilt_top.proofs.Running.{runs_goes, err_first, end_of_run, is_end}
use Rattle.quilt_top.proofs.logs.Said.{ok_at}
use Rattle.quilt_top.proofs.file_run.run_session.Goals as goal

pub returns-clause-ends : goal.returns-clause-ends
returns-clause-ends g c = ap is_run_end c.end_of-end.ensures ∙ is_end c.run_text.result

pub returns-clause-sound : goal.returns-clause-sound
returns-clause-sound g c = λ s first.
    subst (λ (e : End). IsOneOf e run_ends) (sym c.end_of-end.ensures)
    (end_of_run (IsAt c.begin_session-session.result) s (c.begin_session-session.ensures.at s first) c.run_text.result c.run_text.ensures.damaged)

pub returns-clause-runs : goal.returns-clause-runs
returns-clause-runs g c = λ s first.
    let session = c.begin_session-session.result in
    let at = c.begin_session-session.ensures.at s first in
    rw (c.end_of-end.ensures, c.into_world.ensures, sym c.begin_session-session.ensures.world, sym c.begin_session-session.ensures.level)
    (runs_goes (level_of session) s c.run_text.result _ _ (c.run_text.ensures.runs s at)
    (ok_at (IsAt session) s at c.run_text.result _ c.run_text.ensures.whole)
    (err_first (IsAt session) s at c.run_text.result (λ e. e ≡ halts.TooMuch) _ c.run_text.ensures.too_much)
    (err_first (IsAt session) s at c.run_text.result IsNoFault _ c.run_text.ensures.between))
