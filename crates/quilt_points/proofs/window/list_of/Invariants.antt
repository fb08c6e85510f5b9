use Rattle.std.proofs.Common.{◌≡◌, take}
use Rattle.quilt_points.proofs.window.list_of.Given as goal

abbrev pub invariant-loop-p : goal.invariant-loop-p
invariant-loop-p l = l.list ≡ take l.p-index l.points
