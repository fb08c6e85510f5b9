use Rattle.std.proofs.Common.{refl}
use Rattle.quilt_map.proofs.states.ChangeSteps.{goes_here}
use Rattle.quilt_map.proofs.answers.Outcomes.{is_reverted, answered_reverted}
use Rattle.quilt_map.proofs.session.Session.revert.Goals as goal

pub returns-clause-answer : goal.returns-clause-answer
returns-clause-answer g c = λ s at.
    let r = c.revert.ensures in
    answered_reverted {D = g.W.Disk} s c.args.self.now _ c.in-Ok.text c.in-Ok.ensures
    (is_reverted {D = g.W.Disk} c.args.self.now c.revert.new.self s c.copy_of-self.result at c.copy_of-self.ensures r.head r.goes_on.2 r.free r.used
    r.changed r.world r.goes_on r.told) refl

pub returns-in_default-clause-goes_on : goal.returns-in_default-clause-goes_on
returns-in_default-clause-goes_on g c = goes_here {D = g.W.Disk} c.args.self.now.book
