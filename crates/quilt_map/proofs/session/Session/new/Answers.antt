use Rattle.std.proofs.Common.{refl}
use Rattle.quilt_map.specs.Sessions.{IsAt}
use Rattle.quilt_map.proofs.states.Moving.{opened_at}
use Rattle.quilt_map.proofs.questions.Warming.{cold}
use Rattle.quilt_map.proofs.session.Session.new.Goals as goal

pub returns-clause-at : goal.returns-clause-at
unfolding IsAt
returns-clause-at g c = λ e opened. record {
  at = opened_at {D = g.W.Disk} _ e c.copy_of-last.ensures c.requires.ready c.requires.unchanged c.requires.heads c.requires.free refl opened;
  warm = cold _ _ _ _;
}
