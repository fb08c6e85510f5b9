use Rattle.std.proofs.Common.{subst}
use Rattle.quilt_words.specs.declared.command.Command.{Command}
use Rattle.quilt_map.specs.Serving.{ReadsNoneAgain}
use Rattle.quilt_map.specs.Sessions.{IsAt, warm_of}
use Rattle.quilt_map.proofs.answers.Serves.{served_warm}
use Rattle.quilt_map.proofs.session.Session.answer.Goals as goal

pub returns-clause-applied : goal.returns-clause-applied
returns-clause-applied g c = served_warm {D = g.W.Disk} _ _ _ _ _ c.pixel_asked-self.ensures c.dispatch-reply.ensures

pub returns-clause-again : goal.returns-clause-again
unfolding IsAt warm_of
returns-clause-again g c = λ s at name p is warm.
    subst (λ (x : Command). ReadsNoneAgain {D = g.W.Disk} x c.args.self.now c.dispatch-reply.new.self) is c.dispatch-reply.ensures.again s at.at at.warm warm
