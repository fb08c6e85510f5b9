use Rattle.std.proofs.Common.{arith}
use Rattle.quilt_clip.proofs.Cuts.{cut_rise_above, cut_fall_above}
use Rattle.quilt_clip.proofs.span.Span.above.Goals as goal

pub returns-then-a-c : goal.returns-then-a-c
returns-then-a-c c = cut_rise_above c.args.self c.args.a c.args.b c.args.c c.starting.result (omega arith) (omega arith) c.starting.ensures

pub returns-then-c-a : goal.returns-then-c-a
returns-then-c-a c = cut_fall_above c.args.self c.args.a c.args.b c.args.c c.ending.result (omega arith) (omega arith) c.ending.ensures
