use Rattle.std.proofs.Common.{◌≡◌, ◌<◌, ◌^◌, map, take, All}
use Rattle.quilt_points.specs.Coding.{coded}
use Rattle.quilt_points.proofs.coded.all_coded.Given as goal

abbrev pub invariant-loop-p : goal.invariant-loop-p
invariant-loop-p l = record {
  coded : l.coded.items ≡ map coded (take l.p-index l.points);
  labels : All (λ p. p.label < 2 ^ 32) (take l.p-index l.points);
}
