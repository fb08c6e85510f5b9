use Rattle.std.proofs.Common.{◌≡◌, ℕ, ◌+◌, ◌<◌}
use Rattle.std.specs.Int.{bit_at}
use Rattle.quilt_poly.specs.Bits.{bit_in}
use Rattle.quilt_poly.proofs.bits.one_bit.Given as goal

abbrev pub invariant-loop-dy : goal.invariant-loop-dy
invariant-loop-dy l = (i j : ℕ) → i < l.dy → j < l.fn.b.side → bit_in l.words l.side (l.y + i) (l.x + j) ≡ bit_at l.first j
