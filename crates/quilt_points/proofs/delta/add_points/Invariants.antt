use Rattle.std.proofs.Common.{◌≡◌, ◌++◌, take}
use Rattle.quilt_points.proofs.plans.Deltas.{point_rows}
use Rattle.quilt_points.proofs.delta.add_points.Given as goal

abbrev pub invariant-loop-p : goal.invariant-loop-p
invariant-loop-p l = l.records.items ≡ l.initial.records.items ++ point_rows l.layer.level l.layer.bucket l.layer.number l.b (take l.p-index l.points)
