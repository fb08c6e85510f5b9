use Rattle.quilt_lang.proofs.Joins.{PointsSoFar}
use Rattle.quilt_lang.proofs.spelled.list_points.Given as goal

abbrev pub invariant-loop-line : goal.invariant-loop-line
invariant-loop-line l = PointsSoFar (λ w. w.now) l.lines l.line-index l.points
