-- The number that digits spell does not fall as digits come.
use Rattle.std.proofs.Common.{◌≡◌, ℕ, ◌+◌, ◌-◌, ◌*◌, ◌≤◌, ◌<◌, List, [], ◌∷◌, fold, arith, false, nat_le}
use Rattle.std.proofs.lemmas.Bool.{lt-leb}

abbrev pub step : ℕ → ℕ → ℕ
step v c = 10 * v + (c - 48)

pub rises : (v : ℕ) (cs : List ℕ) → v ≤ fold step v cs
rises v [] = omega arith
rises v (c ∷ cs) = omega (arith, rises (step v c) cs)

-- what is above the limit stays above it
pub above : (high v : ℕ) (cs : List ℕ) (n : ℕ) → fold step v cs ≡ n → high < v → nat_le n high ≡ false
above high v cs n is more = lt-leb n high (omega (arith, is, more, rises v cs))
