use Rattle.quilt_map.proofs.states.Renewed.{leaves_either, writes_few, is_renewed}
use Rattle.quilt_map.proofs.session.Session.commit.Goals as goal

pub returns-in_default-clause-crash : goal.returns-in_default-clause-crash
returns-in_default-clause-crash g c = λ s e can. leaves_either {D = g.W.Disk} c.args.self.now s e can _ c.requires.number c.publish.ensures.crash

pub returns-in_default-clause-writes : goal.returns-in_default-clause-writes
returns-in_default-clause-writes g c = λ s e can. writes_few {D = g.W.Disk} c.args.self.now s e can _ c.publish.ensures.writes

pub returns-clause-renewed : goal.returns-clause-renewed
returns-clause-renewed g c = λ s e can.
    let ok = c.in-Ok.ensures in
    is_renewed {D = g.W.Disk} c.args.self.now s e can c.publish.new.self c.copy_of-self.result c.copy_of-self.ensures ok.ready c.publish.ensures.size
    ok.head.0 ok.head.1 ok.changed ok.told
    c.publish.ensures.free ok.used ok.published (g.met.W.Disk.is_consistent c.publish.new.self.world)

pub returns-clause-crash : goal.returns-clause-crash
returns-clause-crash g c = λ s e can. leaves_either {D = g.W.Disk} c.args.self.now s e can _ c.requires.number c.publish.ensures.crash

pub returns-clause-writes : goal.returns-clause-writes
returns-clause-writes g c = λ s e can. writes_few {D = g.W.Disk} c.args.self.now s e can _ c.publish.ensures.writes
