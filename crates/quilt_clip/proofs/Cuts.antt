-- What the side of a line leaves of a span, and that four sides make the clip.
use Rattle.std.proofs.Common.{ℕ, ◌+◌, ◌-◌, ◌<◌, ◌≤◌, Option, Some, None, arith}
use Rattle.std.proofs.Math.Nat.{le_of_mul-le-mul_right, mul-le-mul_right}
use Rattle.quilt_types.specs.Fractions.{Fraction}
use Rattle.quilt_types.specs.declared.plane.Window.{Window}
use Rattle.quilt_types.specs.declared.plane.Seg.{Seg}
use Rattle.quilt_clip.specs.declared.span.Span.{Span}
use Rattle.quilt_clip.specs.Spans.{IsOn, LiesIn, IsSpan, IsRest, IsSpanCut, From, Until, Above, Below, IsSpanIn, IsClipped}
use Rattle.quilt_clip.proofs.Sides.{rise_above, rise_above_from, rise_below, rise_below_from, fall_above, fall_above_from, fall_below, fall_below_from}

rest_same : (p : Span) (C D : Fraction → Type 0) (r : Span) → ((t : Fraction) → IsOn t → C t → D t) → ((t : Fraction) → IsOn t → D t → C t)
    → IsRest p C r → IsRest p D r
rest_same p C D r there back h = record {
  span = h.span;
  before = h.before;
  meets = λ t on l. there t on (h.meets t on l);
  all = λ t on l d. h.all t on l (back t on d);
}

pub cut_same : (p : Span) (C D : Fraction → Type 0) (r : Option Span) → ((t : Fraction) → IsOn t → C t → D t) → ((t : Fraction) → IsOn t → D t → C t)
    → IsSpanCut p C r → IsSpanCut p D r
cut_same p C D None there back h = λ t on l d. h t on l (back t on d)
cut_same p C D (Some r) there back h = rest_same p C D r there back h

-- the four ways in which one condition is another
pub cut_rise_above : (p : Span) (a b c : ℕ) (r : Option Span) → a < b → a ≤ c → IsSpanCut p (From (c - a) (b - a)) r → IsSpanCut p (Above a b c) r
cut_rise_above p a b c r ab ac = cut_same p (From (c - a) (b - a)) (Above a b c) r
    (λ t on h. record { fact = rise_above_from a b c (b - a) (c - a) t.num t.den (omega arith) (omega arith) h.fact })
    (λ t on h. record { fact = rise_above a b c (b - a) (c - a) t.num t.den (omega arith) (omega arith) h.fact })

pub cut_rise_below : (p : Span) (a b c : ℕ) (r : Option Span) → a < b → a ≤ c → IsSpanCut p (Until (c - a) (b - a)) r → IsSpanCut p (Below a b c) r
cut_rise_below p a b c r ab ac = cut_same p (Until (c - a) (b - a)) (Below a b c) r
    (λ t on h. record { fact = rise_below_from a b c (b - a) (c - a) t.num t.den (omega arith) (omega arith) h.fact })
    (λ t on h. record { fact = rise_below a b c (b - a) (c - a) t.num t.den (omega arith) (omega arith) h.fact })

pub cut_fall_above : (p : Span) (a b c : ℕ) (r : Option Span) → b < a → c ≤ a → IsSpanCut p (Until (a - c) (a - b)) r → IsSpanCut p (Above a b c) r
cut_fall_above p a b c r ba ca = cut_same p (Until (a - c) (a - b)) (Above a b c) r
    (λ t on h. record { fact = fall_above_from a b c (a - b) (a - c) t.num t.den (omega arith) (omega arith) h.fact })
    (λ t on h. record { fact = fall_above a b c (a - b) (a - c) t.num t.den (omega arith) (omega arith) h.fact })

pub cut_fall_below : (p : Span) (a b c : ℕ) (r : Option Span) → b < a → c ≤ a → IsSpanCut p (From (a - c) (a - b)) r → IsSpanCut p (Below a b c) r
cut_fall_below p a b c r ba ca = cut_same p (From (a - c) (a - b)) (Below a b c) r
    (λ t on h. record { fact = fall_below_from a b c (a - b) (a - c) t.num t.den (omega arith) (omega arith) h.fact })
    (λ t on h. record { fact = fall_below a b c (a - b) (a - c) t.num t.den (omega arith) (omega arith) h.fact })

-- always, and never
pub always_above : (a b c : ℕ) (t : Fraction) → c ≤ a → a ≤ b → Above a b c t
always_above a b c t ca ab = record { fact = omega (arith, mul-le-mul_right t.den ca, mul-le-mul_right t.num ab) }

pub always_below : (a b c : ℕ) (t : Fraction) → a ≤ c → b ≤ a → Below a b c t
always_below a b c t ac ba = record { fact = omega (arith, mul-le-mul_right t.den ac, mul-le-mul_right t.num ba) }

pub never_above : (a b c : ℕ) (t : Fraction) → a < c → b ≤ a → IsOn t → Above a b c t → ⊥
never_above a b c t ac ba on h =
    let over = on.positive in
    let back = le_of_mul-le-mul_right {m = c} {n = a} {k = t.den} (omega (arith, h.fact, mul-le-mul_right t.num ba)) over in
    omega arith

pub never_below : (a b c : ℕ) (t : Fraction) → c < a → a ≤ b → IsOn t → Below a b c t → ⊥
never_below a b c t ca ab on h =
    let over = on.positive in
    let back = le_of_mul-le-mul_right {m = a} {n = c} {k = t.den} (omega (arith, h.fact, mul-le-mul_right t.num ab)) over in
    omega arith

-- ---- four cuts
abbrev pub whole : Span
whole = record { first = record { num = 0; den = 1 }; last = record { num = 1; den = 1 } }

pub whole_is : IsSpan whole
whole_is = record {
  first = record { positive = omega arith; within = omega arith };
  last = record { positive = omega arith; within = omega arith };
  order = record { cross = omega arith };
  first_small = omega arith;
  last_small = omega arith;
}

whole_lies : (t : Fraction) → IsOn t → LiesIn whole t
whole_lies t on = let w = on.within in record { first = record { cross = omega arith }; last = record { cross = omega arith } }

clipped_some : (s : Seg) (w : Window) (right middle lower last : Span) →
    IsRest whole (Above s.x1 s.x2 w.x) right → IsRest right (Below s.x1 s.x2 (w.x + w.w)) middle →
    IsRest middle (Above s.y1 s.y2 w.y) lower → IsRest lower (Below s.y1 s.y2 (w.y + w.h)) last → IsSpanIn s w last
clipped_some s w right middle lower last a b c d = record {
  span = d.span;
  inside = λ t on l.
      let in_lower = d.before t on l in
      let in_middle = c.before t on in_lower in
      let in_right = b.before t on in_middle in
      record { left = a.meets t on in_right; right = b.meets t on in_middle; top = c.meets t on in_lower; bottom = d.meets t on l };
  all = λ t on h. d.all t on (c.all t on (b.all t on (a.all t on (whole_lies t on) h.left) h.right) h.top) h.bottom;
}

pub clipped : (s : Seg) (w : Window) (right middle lower : Span) (last : Option Span) →
    IsRest whole (Above s.x1 s.x2 w.x) right → IsRest right (Below s.x1 s.x2 (w.x + w.w)) middle →
    IsRest middle (Above s.y1 s.y2 w.y) lower → IsSpanCut lower (Below s.y1 s.y2 (w.y + w.h)) last → IsClipped s w last
clipped s w right middle lower None a b c d =
    λ t on h. d t on (c.all t on (b.all t on (a.all t on (whole_lies t on) h.left) h.right) h.top) h.bottom
clipped s w right middle lower (Some last) a b c d = clipped_some s w right middle lower last a b c d
