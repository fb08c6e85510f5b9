use Rattle.quilt_lang.proofs.Joins.{RingsSoFar}
use Rattle.quilt_lang.proofs.spelled.ring_lines.Given as goal

abbrev pub invariant-loop-line : goal.invariant-loop-line
invariant-loop-line l = RingsSoFar (λ w. w.now) l.lines l.line-index l.rings
