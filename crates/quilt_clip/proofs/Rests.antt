-- What a condition leaves of a span.
use Rattle.std.proofs.Common.{◌≡◌, ℕ, ◌<◌, true, arith}
use Rattle.std.proofs.Math.Nat.{le_of_mul-le-mul_right, mul-le-mul_right}
use Rattle.std.proofs.lemmas.Bool.{ltb-true}
use Rattle.quilt_types.specs.Fractions.{Fraction, is_less}
use Rattle.quilt_clip.specs.declared.span.Span.{Span}
use Rattle.quilt_clip.specs.Fractions.{UpTo}
use Rattle.quilt_clip.specs.Spans.{IsOn, LiesIn, IsSpan, IsRest, From, Until}
use Rattle.quilt_clip.proofs.Orders.{cross_trans, up_to_trans}

-- a fraction up to one from 0 to 1 is one
pub on_below : (a b : Fraction) → 0 < a.den → IsOn b → UpTo a b → IsOn a
on_below a b pos on h = record {
  positive = pos;
  within = (let over = on.positive in
      le_of_mul-le-mul_right {m = a.num} {n = a.den} {k = b.den} (omega (arith, h.cross, mul-le-mul_right a.den on.within)) over);
}

pub rest_all : (p : Span) (C : Fraction → Type 0) → IsSpan p → ((t : Fraction) → IsOn t → LiesIn p t → C t) → IsRest p C p
rest_all p C is all = record { span = is; before = λ t on l. l; meets = all; all = λ t on l c. l }

pub rest_from : (p : Span) (m k : ℕ) → IsSpan p → 0 < k → k < 65536 → UpTo p.first (record { num = m; den = k }) → UpTo (record { num = m; den = k }) p.last
    → IsRest p (From m k) (record { first = record { num = m; den = k }; last = p.last })
rest_from p m k is pos small low high =
    let here : Fraction = record { num = m; den = k } in
    record {
      span = record { first = on_below here p.last pos is.last high; last = is.last; order = high; first_small = small; last_small = is.last_small };
      before = λ t on l. record { first = up_to_trans p.first here t pos low l.first; last = l.last };
      meets = λ t on l. record { fact = l.first.cross };
      all = λ t on l c. record { first = record { cross = c.fact }; last = l.last };
    }

pub rest_until : (p : Span) (m k : ℕ) → IsSpan p → 0 < k → k < 65536 → UpTo p.first (record { num = m; den = k }) → UpTo (record { num = m; den = k }) p.last
    → IsRest p (Until m k) (record { first = p.first; last = record { num = m; den = k } })
rest_until p m k is pos small low high =
    let here : Fraction = record { num = m; den = k } in
    record {
      span = record { first = is.first; last = on_below here p.last pos is.last high; order = low; first_small = is.first_small; last_small = small };
      before = λ t on l. record { first = l.first; last = up_to_trans t here p.last pos l.last high };
      meets = λ t on l. record { fact = l.last.cross };
      all = λ t on l c. record { first = l.first; last = record { cross = c.fact } };
    }

-- nothing is left where m / k is after the span, or before it
pub from_past : (p : Span) (m k : ℕ) (t : Fraction) → IsSpan p → IsOn t → LiesIn p t → From m k t → is_less p.last (record { num = m; den = k }) ≡ true → ⊥
from_past p m k t is on l h e =
    let back = cross_trans m k t.num t.den p.last.num p.last.den on.positive h.fact l.last.cross in
    omega (arith, ltb-true _ _ e)

pub until_past : (p : Span) (m k : ℕ) (t : Fraction) → IsSpan p → IsOn t → LiesIn p t → Until m k t → is_less (record { num = m; den = k }) p.first ≡ true → ⊥
until_past p m k t is on l h e =
    let back = cross_trans p.first.num p.first.den t.num t.den m k on.positive l.first.cross h.fact in
    omega (arith, ltb-true _ _ e)

-- all is left where m / k is before the span, or after it
pub lies_from : (p : Span) (m k : ℕ) (t : Fraction) → IsSpan p → LiesIn p t → UpTo (record { num = m; den = k }) p.first → From m k t
lies_from p m k t is l h = record { fact = cross_trans m k p.first.num p.first.den t.num t.den is.first.positive h.cross l.first.cross }

pub lies_until : (p : Span) (m k : ℕ) (t : Fraction) → IsSpan p → LiesIn p t → UpTo p.last (record { num = m; den = k }) → Until m k t
lies_until p m k t is l h = record { fact = cross_trans t.num t.den p.last.num p.last.den m k is.last.positive l.last.cross h.cross }
