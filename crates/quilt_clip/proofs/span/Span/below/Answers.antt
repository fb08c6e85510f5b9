use Rattle.std.proofs.Common.{arith}
use Rattle.quilt_clip.proofs.Cuts.{cut_rise_below, cut_fall_below}
use Rattle.quilt_clip.proofs.span.Span.below.Goals as goal

pub returns-then-a-c : goal.returns-then-a-c
returns-then-a-c c = cut_rise_below c.args.self c.args.a c.args.b c.args.c c.ending.result (omega arith) (omega arith) c.ending.ensures

pub returns-then-c-a : goal.returns-then-c-a
returns-then-c-a c = cut_fall_below c.args.self c.args.a c.args.b c.args.c c.starting.result (omega arith) (omega arith) c.starting.ensures
