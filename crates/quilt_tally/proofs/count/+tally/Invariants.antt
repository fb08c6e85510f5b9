use Rattle.quilt_tally.proofs.Quarters.{AreTallied}
use Rattle.quilt_tally.proofs.count.+tally.Given as goal

abbrev pub decreases-tally : goal.decreases-tally
decreases-tally g l = l.square.side

abbrev pub invariant-loop-place : goal.invariant-loop-place
invariant-loop-place g l = AreTallied l.level (g.P.Pixels.grid l.pixels l.level) l.fn.square l.four l.place l.tallies
