use Rattle.std.proofs.Common.{◌≡◌, ℕ, ◌≤◌, ◌==◌, length, count_by, get_or, take}
use Rattle.quilt_types.specs.declared.plane.Block.{Block}
use Rattle.quilt_types.specs.Plane.{side}
use Rattle.quilt_blocks.specs.Cutting.{leaves_by_code}
use Rattle.quilt_measure.proofs.counts.histogram.Given as goal

abbrev pub invariant-loop-i : goal.invariant-loop-i
invariant-loop-i l = record {
  long : length l.counts ≡ 13;
  known : (k : ℕ) → k ≤ 12 → get_or l.counts k 0 ≡ count_by (λ (e : Block × ℕ). e.0.side == side k) (take l.i (leaves_by_code l.a.level l.a.grid));
}
