use Rattle.std.proofs.Common.{◌≡◌, ◌++◌, take, filter}
use Rattle.quilt_types.specs.Plane.{in_window}
use Rattle.quilt_points.proofs.window.add_inside.Given as goal

abbrev pub invariant-loop-p : goal.invariant-loop-p
invariant-loop-p l = l.found.items ≡ l.initial.found.items ++ filter (λ p. in_window l.w p.at) (take l.p-index l.points)
