use Rattle.std.proofs.Common.{◌≡◌, ℕ, ◌+◌, ◌-◌, ◌*◌, ◌%◌, ◌<◌, ◌≤◌, slice_index}
use Rattle.quilt_poly.specs.Bits.{bit_in, sum_from, next_bit}
use Rattle.quilt_poly.proofs.bits.settle_strip.Given as goal

abbrev pub invariant-loop-y : goal.invariant-loop-y
invariant-loop-y l = record {
  done : (y i : ℕ) → y < l.y → i < 64 → bit_in l.words l.side y (64 * l.strip + i)
      ≡ (sum_from (bit_in l.initial.words l.side y) (64 * l.strip + i) (64 - i) + next_bit l.initial.words l.side y l.strip) % 2;
  before : (k : ℕ) → k < l.strip * l.side → slice_index l.words k ≡ slice_index l.initial.words k;
  behind : (k : ℕ) → l.strip * l.side + l.y ≤ k → slice_index l.words k ≡ slice_index l.initial.words k;
}
