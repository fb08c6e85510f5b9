-- Numbers as bits: the bit of number i is bit i mod 8 of byte i / 8.
use Rattle.std.specs.Prelude.{ℕ, ◌/◌, ◌%◌, ◌^◌, Bool, ◌==◌, List, slice_index}

-- the bytes have the number's bit
abbrev pub has_bit : List ℕ → ℕ → Bool
has_bit bytes i = slice_index bytes (i / 8) / 2 ^ (i % 8) % 2 == 1
