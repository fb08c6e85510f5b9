use Rattle.std.proofs.Common.{◌≡◌, take, Contains}
use Rattle.quilt_types.specs.declared.plane.Point.{Point}
use Rattle.quilt_points.proofs.scatter.has_common.Given as goal

abbrev pub invariant-loop-p : goal.invariant-loop-p
invariant-loop-p l = (p q : Point) → Contains (take l.p-index l.news) p → Contains l.held q → q.at ≡ p.at → ⊥
