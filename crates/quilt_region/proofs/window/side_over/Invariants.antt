use Rattle.std.proofs.Common.{◌≡◌, ℕ, ◌-◌, ◌^◌, ◌≤◌}
use Rattle.quilt_region.proofs.window.side_over.Given as goal

abbrev pub decreases-loop-side : goal.decreases-loop-side
decreases-loop-side l = 8192 - l.side

abbrev pub invariant-loop-side : goal.invariant-loop-side
invariant-loop-side l = record {
  power : (k : ℕ) × (l.side ≡ 2 ^ k);
  least : (k : ℕ) → l.w.w ≤ 2 ^ k → l.w.h ≤ 2 ^ k → l.side ≤ 2 ^ k;
}
