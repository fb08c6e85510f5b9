use Rattle.std.proofs.Common.{◌≡◌, ◌<◌, ◌≤◌, ◌^◌, ℕ, get_or, w8}
use Rattle.std.specs.Int.{bit_not}
use Rattle.quilt_edition.proofs.free.complement_of.Given as goal

abbrev pub invariant-loop-byte : goal.invariant-loop-byte
invariant-loop-byte l = record {
  done : (k : ℕ) → k < l.byte-index → get_or l.byte-items k 0 ≡ bit_not w8 (get_or l.bits k 0);
  small : (k : ℕ) → k < l.byte-index → get_or l.bits k 0 < 2 ^ 8;
  rest : (k : ℕ) → l.byte-index ≤ k → get_or l.byte-items k 0 ≡ get_or l.bits k 0;
}
