use Rattle.std.proofs.Common.{sym, ◌∙◌, arith, leb-true, le-leb}
use Rattle.quilt_audit.proofs.CodeCount.{codes_are}
use Rattle.quilt_audit.proofs.points.PointRun.is_finished.Goals as goal

pub returns-then-self-level-clause-yes : goal.returns-then-self-level-clause-yes
returns-then-self-level-clause-yes c t =
    let e = c.from.ensures in
    let k = leb-true c.args.self.now.least c.from.result t in
    record { covered = c.if-self-level.true ∙ codes_are c.args.level c.requires; enough = omega arith }

pub returns-then-self-level-clause-no : goal.returns-then-self-level-clause-no
returns-then-self-level-clause-no c f h =
    let e = c.from.ensures in
    let k = h.enough in
    let t = le-leb c.args.self.now.least c.from.result (omega arith) in
    cc

pub returns-else-self-level-clause-no : goal.returns-else-self-level-clause-no
returns-else-self-level-clause-no c f h = c.if-self-level.false (h.covered ∙ sym (codes_are c.args.level c.requires))
