use Rattle.quilt_points.proofs.Codings.{fall_at}
use Rattle.quilt_points.proofs.coded.are_apart.Goals as goal

pub returns-then-coded-i-clause-no : goal.returns-then-coded-i-clause-no
returns-then-coded-i-clause-no c _ = fall_at c.args.coded.now c.loop-i.i _ c.loop-i.auto.i c.loop-i-test.true c.if-coded-i.true
