-- What a search by blocks keeps, and when it stops.
use Rattle.std.specs.Prelude.{ℕ, ◌*◌, Bool, false, nat_lt, Option, Some, None, if◌then◌else◌}
use Rattle.quilt_types.specs.declared.plane.Pixel.{Pixel}
use Rattle.quilt_types.specs.declared.plane.Block.{Block}
use Rattle.quilt_types.specs.declared.plane.Seg.{Seg}
use Rattle.quilt_types.specs.Fractions.{Fraction}
use Rattle.quilt_types.specs.Ranking.{comes_first}
use Rattle.quilt_types.specs.Segments.{square_distance, block_distance}

-- the first of two, by distance and then id
abbrev pub better : Option (ℕ × Fraction) → ℕ × Fraction → Option (ℕ × Fraction)
better None e = Some e
better (Some best) e = if comes_first e best then Some e else Some best

-- the best so far or this segment, which is nearer to the pixel p, of equals the one of the lesser id
abbrev pub better_seg : Pixel → Option (ℕ × Fraction) → ℕ × Seg → Option (ℕ × Fraction)
better_seg p best e = better best (e.0, square_distance p e.1)

-- a whole distance is greater than that of the best so far
abbrev pub is_farther : Option (ℕ × Fraction) → ℕ → Bool
is_farther None d = false
is_farther (Some best) d = nat_lt best.1.num (d * best.1.den)

-- a block with its distance
abbrev pub placed_at : Pixel → Block → ℕ × Block
placed_at p b = (block_distance p b, b)
