use Rattle.std.proofs.Common.{arith}
use Rattle.quilt_words.proofs.Rings.{ring_more}
use Rattle.quilt_words.proofs.further.push_ring.Goals as goal

pub loop-c-preserved : goal.loop-c-preserved
loop-c-preserved c =
    ring_more c.loop-c.rings c.push.new.self c.args.rings.now c.args.corners.now c.loop-c.c-index _ (omega arith) c.loop-c.invariant c.in_ok-push.ensures.ok
