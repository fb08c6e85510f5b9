-- A span: a part of a segment, and what one more condition leaves of it.
use Rattle.std.specs.Prelude.{ℕ, ◌+◌, ◌*◌, ◌<◌, ◌≤◌, Option, MatchOption}
use Rattle.quilt_types.specs.declared.plane.Window.{Window}
use Rattle.quilt_types.specs.declared.plane.Seg.{Seg}
use Rattle.quilt_types.specs.Fractions.{Fraction}
use Rattle.quilt_clip.specs.Fractions.{UpTo}
use Rattle.quilt_clip.specs.declared.span.Span.{Span}

-- a fraction from 0 to 1
pub record IsOn (t : Fraction) : Type 0 where
  pub positive : 0 < t.den
  pub within : t.num ≤ t.den

-- t is between the span's ends, or one of them
pub record LiesIn (p : Span) (t : Fraction) : Type 0 where
  pub first : UpTo p.first t
  pub last : UpTo t p.last

-- both ends are fractions from 0 to 1, in order, of small numbers
pub record IsSpan (p : Span) : Type 0 where
  pub first : IsOn p.first
  pub last : IsOn p.last
  pub order : UpTo p.first p.last
  pub first_small : p.first.den < 65536
  pub last_small : p.last.den < 65536

-- what of the span meets the condition
pub record IsRest (p : Span) (C : Fraction → Type 0) (rest : Span) : Type 0 where
  pub span : IsSpan rest
  pub before : (t : Fraction) → IsOn t → LiesIn rest t → LiesIn p t
  pub meets : (t : Fraction) → IsOn t → LiesIn rest t → C t
  pub all : (t : Fraction) → IsOn t → LiesIn p t → C t → LiesIn rest t

-- the same, or nothing where no point of the span meets it
abbrev pub IsSpanCut : Span → (Fraction → Type 0) → Option Span → Type 0
IsSpanCut p C rest = MatchOption rest ((t : Fraction) → IsOn t → LiesIn p t → C t → ⊥) (λ r. IsRest p C r)

-- in one direction, the point at t of the segment from a to b is c or above
pub record Above (a b c : ℕ) (t : Fraction) : Type 0 where
  pub fact : c * t.den + a * t.num ≤ a * t.den + b * t.num

-- it is c or below
pub record Below (a b c : ℕ) (t : Fraction) : Type 0 where
  pub fact : a * t.den + b * t.num ≤ c * t.den + a * t.num

-- t is m / k or above
pub record From (m k : ℕ) (t : Fraction) : Type 0 where
  pub fact : m * t.den ≤ t.num * k

-- t is m / k or below
pub record Until (m k : ℕ) (t : Fraction) : Type 0 where
  pub fact : t.num * k ≤ m * t.den

-- the point at t is in the closed rectangle of the window
pub record Inside (s : Seg) (w : Window) (t : Fraction) : Type 0 where
  pub left : Above s.x1 s.x2 w.x t
  pub right : Below s.x1 s.x2 (w.x + w.w) t
  pub top : Above s.y1 s.y2 w.y t
  pub bottom : Below s.y1 s.y2 (w.y + w.h) t

-- the span is what of the segment is in the window
pub record IsSpanIn (s : Seg) (w : Window) (p : Span) : Type 0 where
  pub span : IsSpan p
  pub inside : (t : Fraction) → IsOn t → LiesIn p t → Inside s w t
  pub all : (t : Fraction) → IsOn t → Inside s w t → LiesIn p t

-- the same, or nothing where no point of the segment is in the window
abbrev pub IsClipped : Seg → Window → Option Span → Type 0
IsClipped s w r = MatchOption r ((t : Fraction) → IsOn t → Inside s w t → ⊥) (λ p. IsSpanIn s w p)
