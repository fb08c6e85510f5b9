use Rattle.quilt.proofs.ProgramLaws.{runs_of}
use Rattle.quilt.proofs.run.run.Goals as goal

pub returns-clause-runs : goal.returns-clause-runs
returns-clause-runs g c = runs_of _ _ _ _ _ c.run_call-end.ensures c.report-said.ensures.none c.report-said.ensures.said c.report-said.ensures.front
