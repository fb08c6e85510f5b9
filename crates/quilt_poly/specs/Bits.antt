-- A bit for each pixel of a square. A strip is 64 columns: it has a word of 64 bits for each row, and the strips stand one after another.
use Rattle.std.specs.Prelude.{◌≡◌, ℕ, zero, suc, ◌+◌, ◌-◌, ◌*◌, ◌/◌, ◌%◌, ◌<◌, ◌==◌, nat_lt, Bool, List, slice_index, if◌then◌else◌}
use Rattle.std.specs.Int.{bit_at}
use Rattle.quilt_types.specs.declared.plane.Pixel.{Pixel}

-- how many strips a square of this side has
abbrev pub strips : ℕ → ℕ
strips s = (s + 63) / 64

-- the bit of the pixel in row y and column x
unfoldable pub bit_in : List ℕ → ℕ → ℕ → ℕ → ℕ
bit_in words s y x = bit_at (slice_index words (x / 64 * s + y)) (x % 64)

-- the sum of a function at n numbers from i on
unfoldable pub sum_from : (ℕ → ℕ) → ℕ → ℕ → ℕ
sum_from f i zero = 0
sum_from f i (suc n) = f i + sum_from f (suc i) n

-- how many bits of row y are 1 in column x and right of it
unfoldable pub ones_right : List ℕ → ℕ → ℕ → ℕ → ℕ
ones_right words s y x = sum_from (bit_in words s y) x (64 * strips s - x)

-- the first bit of the row in the strip right of this one, and 0 where there is none
unfoldable pub next_bit : List ℕ → ℕ → ℕ → ℕ → ℕ
next_bit words s y strip = if nat_lt (strip + 1) (strips s) then bit_in words s y (64 * (strip + 1)) else 0

-- the number of ones right of a pixel is odd now where it was even, and even where it was odd, at the pixels that pass the test alone
pub record IsMarked (s : ℕ) (test : Pixel → Bool) (old new : List ℕ) : Type 0 where
  pub each : (p : Pixel) → p.x < s → p.y < s
      → ones_right new s p.y p.x % 2 ≡ (ones_right old s p.y p.x + (if test p then 1 else 0)) % 2

-- the bit of each pixel is 1 where the function is odd
pub record HasParities (s : ℕ) (f : Pixel → ℕ) (words : List ℕ) : Type 0 where
  pub each : (p : Pixel) → p.x < s → p.y < s → bit_in words s p.y p.x ≡ f p % 2

-- the colour where the bit is 1, and the background elsewhere
unfoldable pub colour_in : List ℕ → ℕ → ℕ → Pixel → ℕ
colour_in words s c p = if bit_in words s p.y p.x == 1 then c else 0
