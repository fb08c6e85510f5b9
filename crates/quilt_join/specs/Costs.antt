-- How many blocks there are for two lists of segments, by the side of the blocks.
use Rattle.std.specs.Prelude.{ℕ, ◌+◌, ◌*◌, ◌-◌, ◌^◌, List, length, sum_by, min}
use Rattle.quilt_types.specs.declared.plane.Seg.{Seg}
use Rattle.quilt_join.specs.Boxes.{span_at, count}

-- the blocks of side w that the boxes round the segments touch, counted for each segment
abbrev pub touched : ℕ → List (ℕ × Seg) → ℕ
touched w list = sum_by (λ e. count (span_at w e.1)) list

-- the blocks of side 2 ^ shift of the square of a level
abbrev pub blocks_of : ℕ → ℕ → ℕ
blocks_of n shift = 2 ^ (n - shift) * 2 ^ (n - shift)

-- these, and those that the boxes round the segments of two lists touch
unfoldable pub bucket_cost : ℕ → ℕ → List (ℕ × Seg) → List (ℕ × Seg) → ℕ
bucket_cost n shift a b = blocks_of n shift + touched (2 ^ shift) a + touched (2 ^ shift) b

-- eight for each segment of two lists, as far as a number of 64 bits goes
unfoldable pub room : List (ℕ × Seg) → List (ℕ × Seg) → ℕ
room a b = min (8 * (length a + length b)) (2 ^ 64 - 1)
