use Rattle.quilt_replies.proofs.Replies.{IsCounting}
use Rattle.quilt_replies.proofs.bodies.blocks_text.Given as goal

abbrev pub invariant-loop-k : goal.invariant-loop-k
invariant-loop-k l = IsCounting l.level l.counts l.k l.text

abbrev pub decreases-loop-k : goal.decreases-loop-k
decreases-loop-k l = l.k
