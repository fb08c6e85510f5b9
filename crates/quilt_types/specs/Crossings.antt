-- Which segments share a point.
use Rattle.std.specs.Prelude.{◌≡◌, ℕ, ◌+◌, ◌*◌, Bool, true, ◌&&◌, nat_le, List, map, filter, flat_map, ℤ, pos, ◌-ℤ◌, ◌*ℤ◌, int_le, min, max}
use Rattle.std.specs.FinMap as finmap
use Rattle.quilt_types.specs.declared.plane.Seg.{Seg}
use Rattle.quilt_types.specs.Layers.{SegMap}
use Rattle.quilt_types.specs.Fractions.{Fraction}
use Rattle.quilt_types.specs.Segments.{is_on}

-- In one direction: the point at t between a and b is the point at u between c and d.
-- The points are a + (b - a) * p / q and c + (d - c) * u / v, and all is multiplied by q * v.
abbrev pub IsOneCoordinate : ℕ → ℕ → Fraction → ℕ → ℕ → Fraction → Type 0
IsOneCoordinate a b t c d u =
    (a * t.den + b * t.num) * u.den + (c * u.num) * t.den ≡ (c * u.den + d * u.num) * t.den + (a * t.num) * u.den

-- Some point of the one is a point of the other.
pub record Share (s r : Seg) : Type 0 where
  pub t : Fraction
  pub u : Fraction
  pub on_s : is_on t ≡ true
  pub on_r : is_on u ≡ true
  pub x : IsOneCoordinate s.x1 s.x2 t r.x1 r.x2 u
  pub y : IsOneCoordinate s.y1 s.y2 t r.y1 r.y2 u

-- on which side of the segment's line the point lies: twice the area of their triangle
abbrev pub turn : Seg → ℕ → ℕ → ℤ
turn s x y =
    (pos s.x2 -ℤ pos s.x1) *ℤ (pos y -ℤ pos s.y1) -ℤ (pos s.y2 -ℤ pos s.y1) *ℤ (pos x -ℤ pos s.x1)

-- in one direction: the stretch from a to b and that from c to d have a number in common
abbrev pub overlap : ℕ → ℕ → ℕ → ℕ → Bool
overlap a b c d = nat_le (min a b) (max c d) && nat_le (min c d) (max a b)

-- the ends of each lie on both sides of the other's line, or on it, and they overlap in both directions
unfoldable pub shares : Seg → Seg → Bool
shares s r =
    overlap s.x1 s.x2 r.x1 r.x2 && overlap s.y1 s.y2 r.y1 r.y2
    && int_le (turn s r.x1 r.y1 *ℤ turn s r.x2 r.y2) (pos 0) && int_le (turn r s.x1 s.y1 *ℤ turn r s.x2 s.y2) (pos 0)

-- the pairs of ids whose segments share a point, by the first id and then the second
unfoldable pub crossings : SegMap → SegMap → List (ℕ × ℕ)
crossings a b =
    flat_map (λ e. map (λ f. (e.0, f.0)) (filter (λ f. shares e.1 f.1) (finmap.entries b))) (finmap.entries a)
