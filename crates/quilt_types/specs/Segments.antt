-- What a segment of the plane meets, which part of it lies in a window, and how far a pixel is from it.
use Rattle.std.specs.Prelude.{◌≡◌, ℕ, ◌+◌, ◌-◌, ◌*◌, ◌≤◌, Bool, true, ◌&&◌, nat_le, nat_lt, List, [], ◌∷◌, ◌++◌, fold, filter, Option, Some, None, is_some}
use Rattle.std.specs.Prelude.{if◌then◌else◌, ℤ, pos, ◌+ℤ◌, ◌-ℤ◌, ◌*ℤ◌, nat_abs, int_le}
use Rattle.std.specs.FinMap as finmap
use Rattle.quilt_types.specs.declared.plane.Pixel.{Pixel}
use Rattle.quilt_types.specs.declared.plane.Window.{Window}
use Rattle.quilt_types.specs.declared.plane.Block.{Block}
use Rattle.quilt_types.specs.declared.plane.Seg.{Seg}
use Rattle.quilt_types.specs.Layers.{SegMap}
use Rattle.quilt_types.specs.Fractions.{Fraction, lowest, is_less}

-- a block as the window of its pixels: as a rectangle of the plane both are closed
abbrev pub square : Block → Window
square b = record { x = b.x; y = b.y; w = b.side; h = b.side }

-- In one direction: the segment from a to b has its point at p / q between low and high.
-- The point is a + (b - a) * p / q, and all is multiplied by q.
abbrev pub is_between : ℕ → ℕ → ℕ → ℕ → Fraction → Bool
is_between a b low high t =
    nat_le (low * t.den + a * t.num) (a * t.den + b * t.num)
    && nat_le (a * t.den + b * t.num) (high * t.den + a * t.num)

-- the segment's point at t lies in the closed rectangle of the window
abbrev pub is_in : Seg → Window → Fraction → Bool
is_in s w t = is_between s.x1 s.x2 w.x (w.x + w.w) t && is_between s.y1 s.y2 w.y (w.y + w.h) t

-- a point of the segment, an end or a point between
abbrev pub is_on : Fraction → Bool
is_on t = nat_lt 0 t.den && nat_le t.num t.den

-- Some point of the segment lies in the closed rectangle.
abbrev pub Meets : Seg → Window → Type 0
Meets s w = (t : Fraction) × (is_on t ≡ true) × (is_in s w t ≡ true)

-- where the segment from a to b, in one direction, crosses the line at c
abbrev pub crossing : ℕ → ℕ → ℕ → List Fraction
crossing a b c =
    if nat_lt a b && nat_le a c && nat_le c b then lowest (c - a) (b - a) ∷ []
    else if nat_lt b a && nat_le b c && nat_le c a then lowest (a - c) (a - b) ∷ [] else []

-- where the part of a segment in a window can begin or end: at an end of the segment, or where it crosses the window's edge
abbrev pub stops : Seg → Window → List Fraction
stops s w =
    record { num = 0; den = 1 } ∷ record { num = 1; den = 1 }
    ∷ crossing s.x1 s.x2 w.x ++ crossing s.x1 s.x2 (w.x + w.w)
    ++ crossing s.y1 s.y2 w.y ++ crossing s.y1 s.y2 (w.y + w.h)

-- the least of a fraction and further ones
abbrev pub least_of : Fraction → List Fraction → Fraction
least_of t ts = fold (λ a b. if is_less b a then b else a) t ts

-- the greatest of a fraction and further ones
abbrev pub greatest_of : Fraction → List Fraction → Fraction
greatest_of t ts = fold (λ a b. if is_less a b then b else a) t ts

-- the least and the greatest of the fractions; nothing where there are none
abbrev pub ends_of : List Fraction → Option (Fraction × Fraction)
ends_of [] = None
ends_of (t ∷ ts) = Some (least_of t ts, greatest_of t ts)

-- the least and the greatest t at which the segment's point lies in the closed window
unfoldable pub clip_range : Seg → Window → Option (Fraction × Fraction)
clip_range s w = ends_of (filter (is_in s w) (stops s w))

-- the segment has a point in the closed window
abbrev pub meets : Seg → Window → Bool
meets s w = is_some (clip_range s w)

-- a point of the segment, in lowest terms, that lies in the window
pub record IsEnd (s : Seg) (w : Window) (t : Fraction) : Type 0 where
  pub on : is_on t ≡ true
  pub lowest_terms : t ≡ lowest t.num t.den
  pub inside : is_in s w t ≡ true

-- What `clip_range` is: both ends are such points, and each point of the segment in the window lies between them.
pub record IsClipRange (s : Seg) (w : Window) (ends : Fraction × Fraction) : Type 0 where
  pub first : IsEnd s w ends.0
  pub last : IsEnd s w ends.1
  pub between : (t : Fraction) → is_on t ≡ true → is_in s w t ≡ true →
      (ends.0.num * t.den ≤ t.num * ends.0.den) × (t.num * ends.1.den ≤ ends.1.num * t.den)

-- the square of the length from one pixel to another
abbrev pub square_length : ℕ → ℕ → ℕ → ℕ → ℕ
square_length x1 y1 x2 y2 =
    let dx = nat_abs (pos x2 -ℤ pos x1) in
    let dy = nat_abs (pos y2 -ℤ pos y1) in
    dx * dx + dy * dy

-- how far along the segment the pixel lies, times the segment's squared length
abbrev pub along : Pixel → Seg → ℤ
along p s =
    (pos p.x -ℤ pos s.x1) *ℤ (pos s.x2 -ℤ pos s.x1) +ℤ (pos p.y -ℤ pos s.y1) *ℤ (pos s.y2 -ℤ pos s.y1)

-- how far from the segment's line the pixel lies, times the segment's length
abbrev pub aside : Pixel → Seg → ℕ
aside p s =
    nat_abs ((pos s.x2 -ℤ pos s.x1) *ℤ (pos p.y -ℤ pos s.y1) -ℤ (pos s.y2 -ℤ pos s.y1) *ℤ (pos p.x -ℤ pos s.x1))

-- the squared distance of a pixel from the segment: from its first end, its last end, or the foot between them
unfoldable pub square_distance : Pixel → Seg → Fraction
square_distance p s =
    let q = square_length s.x1 s.y1 s.x2 s.y2 in
    if int_le (along p s) (pos 0) then record { num = square_length s.x1 s.y1 p.x p.y; den = 1 }
    else if int_le (pos q) (along p s) then record { num = square_length s.x2 s.y2 p.x p.y; den = 1 }
    else lowest (aside p s * aside p s) q

-- the nearest so far, or the next segment where that is nearer; of equals the one before stays
abbrev pub nearer : Pixel → Option (ℕ × Fraction) → ℕ × Seg → Option (ℕ × Fraction)
nearer p None e = Some (e.0, square_distance p e.1)
nearer p (Some best) e =
    let here = square_distance p e.1 in if is_less here best.1 then Some (e.0, here) else Some best

-- the segment of least distance, of equals the least id, with its distance
abbrev pub nearest : SegMap → Pixel → Option (ℕ × Fraction)
nearest segs p = fold (nearer p) None (finmap.entries segs)

-- how far a number is from the numbers from low to high
abbrev pub gap : ℕ → ℕ → ℕ → ℕ
gap a low high = if nat_lt a low then low - a else if nat_lt high a then a - high else 0

-- the least squared distance of the pixel to a point of the block's closed square
abbrev pub block_distance : Pixel → Block → ℕ
block_distance p b =
    let dx = gap p.x b.x (b.x + b.side) in let dy = gap p.y b.y (b.y + b.side) in dx * dx + dy * dy
