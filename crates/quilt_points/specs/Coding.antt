-- Points in the order of their codes.
use Rattle.std.specs.Prelude.{ℕ, suc, ◌/◌, ◌<◌, ◌≤◌, List, length, slice_index_or, All}
use Rattle.std.specs.Ordering.{nat_cmp}
use Rattle.std.specs.declared.cmp.Ordering.{Ordering}
use Rattle.quilt_types.specs.declared.plane.Pixel.{Pixel}
use Rattle.quilt_types.specs.declared.plane.Block.{Block}
use Rattle.quilt_types.specs.declared.plane.Point.{Point}
use Rattle.quilt_types.specs.Codes.{gathered}
use Rattle.quilt_loc.specs.Codes.{Rises, code_at, code_from}
use Rattle.quilt_points.specs.declared.coded.Coded.{Coded}

-- points by their codes
abbrev pub by_code : Point → Point → Ordering
by_code p q = nat_cmp (code_at p.at) (code_at q.at)

-- the points are in the order of their codes, and none of them is before the block's
pub record AreInCodeOrder (b : Block) (points : List Point) : Type 0 where
  pub rises : Rises by_code points
  pub least : All (λ p. code_from b ≤ code_at p.at) points

-- the point by its code
abbrev pub coded : Point → Coded
coded p = record { code = code_at p.at; label = p.label }

-- the pixel that has the code: x of the bits at even places, and y of those at odd ones
abbrev pub pixel_with : ℕ → Pixel
pixel_with code = record { y = gathered 12 (code / 2); x = gathered 12 code }

-- the point that has the code
abbrev pub decoded : Coded → Point
decoded c = record { at = pixel_with c.code; label = c.label }

-- each code is less than the next
abbrev pub IsStepwise : List Coded → Type 0
IsStepwise xs = (k : ℕ) (d : Coded) → suc k < length xs → (slice_index_or xs k d).code < (slice_index_or xs (suc k) d).code

-- one is not
abbrev pub HasFall : List Coded → Type 0
HasFall xs = (k : ℕ) × (suc k < length xs) × ((d : Coded) → (slice_index_or xs (suc k) d).code ≤ (slice_index_or xs k d).code)
