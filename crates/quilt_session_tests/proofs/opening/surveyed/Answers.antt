use Rattle.quilt_top.proofs.openings.Surveys.{is_numbered}
use Rattle.quilt_session_tests.proofs.opening.surveyed.Goals as goal

pub new-requires-clause-numbered : goal.new-requires-clause-numbered
new-requires-clause-numbered c = is_numbered _ _ c.entries.ensures.is c.in-Ok.ensures.numbered
