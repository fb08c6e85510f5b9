use Rattle.std.proofs.Common.{◌≡◌, map, take}
use Rattle.quilt_points.specs.Coding.{decoded}
use Rattle.quilt_points.proofs.coded.points_in.Given as goal

abbrev pub invariant-loop-c : goal.invariant-loop-c
invariant-loop-c l = l.points.items ≡ map decoded (take l.c-index l.coded)
