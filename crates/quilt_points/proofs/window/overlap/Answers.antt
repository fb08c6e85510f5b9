use Rattle.std.proofs.Common.{arith}
use Rattle.quilt_points.proofs.Windows.{overlap_up, overlap_down}
use Rattle.quilt_points.proofs.window.overlap.Goals as goal

pub returns-then-a-b : goal.returns-then-a-b
returns-then-a-b c = overlap_up c.args.a c.args.length c.args.b c.args.other c.if-a-b.true c.requires.second

pub returns-else-a-b : goal.returns-else-a-b
returns-else-a-b c = overlap_down c.args.a c.args.length c.args.b c.args.other (let f = c.if-a-b.false in omega arith) c.requires.first
