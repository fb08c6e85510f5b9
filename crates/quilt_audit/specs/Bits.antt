-- Pages as bits: the bit of page p is bit p mod 8 of byte p / 8.
use Rattle.std.specs.Prelude.{◌≡◌, ℕ, ◌<◌, ◌≤◌, true, ◌==◌, List}
use Rattle.std.specs.List.{list_any}
use Rattle.quilt_types.specs.Bits.{has_bit}

-- exactly these pages have their bits
pub record Marks (bits visited : List ℕ) : Type 0 where
  pub each : (p : ℕ) → has_bit bits p ≡ list_any (λ v. v == p) visited

-- only pages from 1 on of a store of so many have their bits
pub record AreWithin (size : ℕ) (bits : List ℕ) : Type 0 where
  pub each : (p : ℕ) → has_bit bits p ≡ true → (1 ≤ p) × (p < size)
