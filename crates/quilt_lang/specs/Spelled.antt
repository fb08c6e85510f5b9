-- What further lines spell, a part at a time.
use Rattle.std.specs.Prelude.{◌≡◌, ℕ, zero, suc, ◌+◌, ◌*◌, ◌/◌, ◌==◌, List, [], ◌∷◌, ◌++◌, drop, length, Option, Some, None, option_map, option_and_then}
use Rattle.std.specs.Prelude.{if◌then◌else◌}
use Rattle.quilt_words.specs.Items.{colour_bytes}
use Rattle.quilt_words.specs.Spelling.{row}

-- one byte before others, where both are there
abbrev pub with_byte : Option ℕ → Option (List ℕ) → Option (List ℕ)
with_byte (Some byte) (Some rest) = Some (byte ∷ rest)
with_byte byte rest = None

-- the bytes that each two values of digits spell, behind a byte of 0
abbrev pub wide_pairs : List ℕ → List ℕ
wide_pairs (high ∷ low ∷ values) = 0 ∷ (16 * high + low) ∷ wide_pairs values
wide_pairs values = []

-- the digits up to the i-th spell these bytes, each behind a byte of 0
abbrev pub IsWideUpTo : List ℕ → ℕ → List ℕ → Type 0
IsWideUpTo line i bytes = option_map (colour_bytes 1) (row line) ≡ option_map (λ rest. bytes ++ rest) (option_map (colour_bytes 1) (row (drop i line)))

-- how many bytes the colours of a row of so many digits have
abbrev pub row_size : ℕ → ℕ → ℕ
row_size f digits = if f == 1 then digits else digits / 2

-- the colours that so many rows spell, which are the first of these lines: nothing where one is missing or not well formed
abbrev pub rows_front : ℕ → ℕ → ℕ → List (List ℕ) → Option (List ℕ)
rows_front f width zero lines = Some []
rows_front f width (suc k) [] = None
rows_front f width (suc k) (line ∷ lines) =
    if length line == 2 * f * width
    then option_and_then (λ bytes. option_map (λ rest. colour_bytes f bytes ++ rest) (rows_front f width k lines)) (row line) else None
