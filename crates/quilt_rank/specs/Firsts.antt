-- What the first k segments are by distance from a pixel and then id.
use Rattle.std.specs.Prelude.{◌≡◌, ◌⊎◌, ℕ, ◌<◌, ◌≤◌, List, [], ◌∷◌, length, Contains}
use Rattle.quilt_types.specs.declared.plane.Pixel.{Pixel}
use Rattle.quilt_types.specs.declared.plane.Seg.{Seg}
use Rattle.quilt_types.specs.Fractions.{Fraction}
use Rattle.quilt_types.specs.Segments.{square_distance}
use Rattle.quilt_clip.specs.Fractions.{UpTo}

-- a is nearer than b, or as near with a lesser id
pub record ComesBefore (a b : ℕ × Fraction) : Type 0 where
  pub near : UpTo a.1 b.1
  pub first : UpTo b.1 a.1 → a.0 < b.0

-- each comes before those that stand behind it, so none stands twice
abbrev pub AreInOrder : List (ℕ × Fraction) → Type 0
AreInOrder [] = Unit {0}
AreInOrder (r ∷ rs) = ((s : ℕ × Fraction) → Contains rs s → ComesBefore r s) × AreInOrder rs

-- it is the id and the distance of one of the segments
pub record IsFar (p : Pixel) (segs : List (ℕ × Seg)) (r : ℕ × Fraction) : Type 0 where
  pub seg : Seg
  pub listed : Contains segs (r.0, seg)
  pub distance : square_distance p seg ≡ r.1

-- At most k of the segments, in order, and each other one stands behind k of them.
pub record AreFirst (p : Pixel) (k : ℕ) (segs : List (ℕ × Seg)) (rs : List (ℕ × Fraction)) : Type 0 where
  pub order : AreInOrder rs
  pub few : length rs ≤ k
  pub real : (r : ℕ × Fraction) → Contains rs r → IsFar p segs r
  pub all : (e : ℕ × Seg) → Contains segs e →
      Contains rs (e.0, square_distance p e.1)
      ⊎ ((length rs ≡ k) × ((r : ℕ × Fraction) → Contains rs r → ComesBefore r (e.0, square_distance p e.1)))
