-- The blocks of a span by their places and numbers, and the span of a segment.
use Rattle.std.proofs.Common.{◌≡◌, ℕ, suc, ◌+◌, ◌-◌, ◌*◌, ◌/◌, ◌%◌, ◌<◌, ◌≤◌, min, max, true, arith, ap₂, sym, ◌∙◌, refl}
use Rattle.std.proofs.lemmas.Bool.Decides.{nat_tests}
use Rattle.std.proofs.lemmas.Nat.{div-mul-add, mod-mul-add, le-div}
use Rattle.std.proofs.Math.Nat.{div-mul-le_self, div-lt_iff_lt-mul, mul-le-mul_right}
use Rattle.quilt_types.specs.declared.plane.Seg.{Seg}
use Rattle.quilt_types.specs.Plane.{side}
use Rattle.quilt_types.specs.Layers.{is_in_square}
use Rattle.quilt_types.specs.Crossings.{overlap}
use Rattle.quilt_join.specs.declared.span.Span.{Span}
use Rattle.quilt_join.specs.Boxes.{span_at, width, count, number_at, IsInSpan}

-- quotients are in the order of the numbers
quotients : (a b w : ℕ) → 0 < w → a ≤ b → a / w ≤ b / w
quotients a b w h k = le-div (a / w) b w h (omega (arith, div-mul-le_self a w))

-- the place of a block in a span
place_at : (columns_before columns rows_before rows : ℕ) → columns_before < columns → rows_before < rows →
    rows_before * columns + columns_before < columns * rows
place_at a c b r h k = omega (arith, mul-le-mul_right {m = suc b} {n = r} c k)

-- a block of a span stands at some place
pub touched_at : (p : Span) (columns n : ℕ) → IsInSpan p columns n → (i : ℕ) × (i < count p) × (number_at p columns i ≡ n)
touched_at p columns n t =
    let a = t.column - p.left in
    let b = t.row - p.top in
    let inside : a < width p = omega (arith, t.left, t.right) in (
      b * width p + a,
      place_at a (width p) b (p.bottom - p.top + 1) inside (omega (arith, t.top, t.bottom)),
      ap₂ (λ row column. (p.top + row) * columns + (p.left + column)) (div-mul-add b (width p) a inside) (mod-mul-add b (width p) a inside)
          ∙ ap₂ (λ row column. row * columns + column) (omega (arith, t.top)) (omega (arith, t.left)) ∙ sym t.number,
    )

-- in one direction: the stretches that overlap have the greater of their beginnings in common
common : (a b c d w : ℕ) → overlap a b c d ≡ true → 0 < w → (k : ℕ) × ((min a b / w ≤ k) × (k ≤ max a b / w)) × ((min c d / w ≤ k) × (k ≤ max c d / w))
common a b c d w h pos =
    let first : min a b ≤ max c d = grind (arith, nat_tests) in
    let second : min c d ≤ max a b = grind (arith, nat_tests) in
    let m = max (min a b) (min c d) in (
      m / w,
      (quotients (min a b) m w pos (omega arith), quotients m (max a b) w pos (omega arith)),
      (quotients (min c d) m w pos (omega arith), quotients m (max c d) w pos (omega arith)),
    )

-- segments whose boxes overlap touch a block in common
pub touch_both : (s r : Seg) (w columns : ℕ) → 0 < w → overlap s.x1 s.x2 r.x1 r.x2 ≡ true → overlap s.y1 s.y2 r.y1 r.y2 ≡ true →
    (n : ℕ) × IsInSpan (span_at w s) columns n × IsInSpan (span_at w r) columns n
touch_both s r w columns pos h k =
    let x = common s.x1 s.x2 r.x1 r.x2 w h pos in
    let y = common s.y1 s.y2 r.y1 r.y2 w k pos in (
      y.0 * columns + x.0,
      record { column = x.0; row = y.0; left = x.1.0; right = x.1.1; top = y.1.0; bottom = y.1.1; number = refl },
      record { column = x.0; row = y.0; left = x.2.0; right = x.2.1; top = y.2.0; bottom = y.2.1; number = refl },
    )

-- in one direction: the blocks of a stretch of the square are blocks of the square
inside : (a b n w columns : ℕ) → 0 < w → columns * w ≡ n → a < n → b < n → max a b / w < columns
inside a b n w columns pos e h k = (div-lt_iff_lt-mul {k = w} {x = max a b} {y = columns} pos).1 (omega arith)

-- each block of a segment of the square is one of the blocks of the square
pub number_below : (n : ℕ) (s : Seg) (w columns i : ℕ) → is_in_square n s ≡ true → 0 < w → columns * w ≡ side n →
    i < count (span_at w s) → number_at (span_at w s) columns i < columns * columns
number_below n s w columns i h pos e lt =
    let p = span_at w s in
    let x1 : s.x1 < side n = grind (arith, nat_tests) in
    let x2 : s.x2 < side n = grind (arith, nat_tests) in
    let y1 : s.y1 < side n = grind (arith, nat_tests) in
    let y2 : s.y2 < side n = grind (arith, nat_tests) in
    let right : p.right < columns = inside s.x1 s.x2 (side n) w columns pos e x1 x2 in
    let bottom : p.bottom < columns = inside s.y1 s.y2 (side n) w columns pos e y1 y2 in
    let left : p.left ≤ p.right = quotients (min s.x1 s.x2) (max s.x1 s.x2) w pos (omega arith) in
    let top : p.top ≤ p.bottom = quotients (min s.y1 s.y2) (max s.y1 s.y2) w pos (omega arith) in
    let wide : 0 < width p = omega arith in
    let row : i / width p < p.bottom - p.top + 1 = (div-lt_iff_lt-mul {k = width p} {x = i} {y = p.bottom - p.top + 1} wide).1 (omega arith) in
    let column : i % width p < width p = omega arith in
    place_at (p.left + i % width p) columns (p.top + i / width p) columns (omega arith) (omega arith)
