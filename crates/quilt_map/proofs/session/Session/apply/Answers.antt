use Rattle.quilt_map.specs.Sessions.{IsSessionReady, format_of, level_of}
use Rattle.quilt_map.proofs.session.Session.apply.Goals as goal

pub answer-requires-clause-ready : goal.answer-requires-clause-ready
unfolding IsSessionReady
answer-requires-clause-ready g c κs within = c.requires.ready

pub answer-requires-clause-spelled : goal.answer-requires-clause-spelled
unfolding format_of level_of
answer-requires-clause-spelled g c κs within = c.requires.spelled
