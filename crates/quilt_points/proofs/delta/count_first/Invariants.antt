use Rattle.std.proofs.Common.{◌≡◌, true, take, All}
use Rattle.quilt_types.specs.Plane.{in_block}
use Rattle.quilt_points.proofs.delta.count_first.Given as goal

abbrev pub invariant-loop-p : goal.invariant-loop-p
invariant-loop-p l = record {
  count : l.count ≡ l.p-index;
  inside : All (λ p. in_block l.b p.at ≡ true) (take l.p-index l.points);
}
