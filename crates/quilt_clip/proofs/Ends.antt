-- The span in the window gives `clip_range` and `meets`.
use Rattle.std.proofs.Common.{◌≡◌, ◌<◌, ◌↔◌, Option, Some, None, true≢false, refl, sym, ap, ◌∙◌, arith, IsTrue, IsNone, IfSome, Bool}
use Rattle.std.specs.Prelude.{is_some}
use Rattle.quilt_types.specs.Fractions.{Fraction, lowest}
use Rattle.quilt_types.specs.Segments.{clip_range, meets, Meets, IsClipRange}
use Rattle.quilt_types.specs.declared.plane.Window.{Window}
use Rattle.quilt_types.specs.declared.plane.Seg.{Seg}
use Rattle.quilt_clip.specs.declared.span.Span.{Span}
use Rattle.quilt_clip.specs.Fractions.{UpTo}
use Rattle.quilt_clip.specs.Spans.{IsOn, Inside, IsSpanIn, IsClipped}
use Rattle.quilt_clip.proofs.Orders.{up_to_trans}
use Rattle.quilt_clip.proofs.Lowest.{lowest_is}
use Rattle.quilt_clip.proofs.Stretches.{lowest_on}
use Rattle.quilt_clip.proofs.Clips.{IsClip, lowest_point, inside_if, inside_then, clip_range_from, clip_range_none, clip_range-none, is_clip_range, meets_law}

-- in lowest terms a fraction is the same one
lowest_up : (t : Fraction) → 0 < t.den → UpTo (lowest t.num t.den) t
lowest_up t pos = let is = lowest_is t.num t.den pos in let same = is.same in record { cross = omega arith }

lowest_down : (t : Fraction) → 0 < t.den → UpTo t (lowest t.num t.den)
lowest_down t pos = let is = lowest_is t.num t.den pos in let same = is.same in record { cross = omega arith }

abbrev pub ends : Span → Fraction × Fraction
ends p = (lowest p.first.num p.first.den, lowest p.last.num p.last.den)

span_is : (s : Seg) (w : Window) (p : Span) → IsSpanIn s w p → IsClip s w (ends p)
span_is s w p h =
    let f = lowest p.first.num p.first.den in
    let l = lowest p.last.num p.last.den in
    let fp = h.span.first.positive in
    let lp = h.span.last.positive in
    let f_on : IsOn f = lowest_on p.first.num p.first.den fp h.span.first.within in
    let l_on : IsOn l = lowest_on p.last.num p.last.den lp h.span.last.within in
    let f_up : UpTo f p.first = lowest_up p.first fp in
    let f_down : UpTo p.first f = lowest_down p.first fp in
    let l_up : UpTo l p.last = lowest_up p.last lp in
    let l_down : UpTo p.last l = lowest_down p.last lp in
    record {
      first = lowest_point p.first.num p.first.den fp h.span.first.within;
      last = lowest_point p.last.num p.last.den lp h.span.last.within;
      first_in = inside_then s w f (h.inside f f_on (record { first = f_down; last = up_to_trans f p.first p.last fp f_up h.span.order }));
      last_in = inside_then s w l (h.inside l l_on (record { first = up_to_trans p.first p.last l lp h.span.order l_down; last = l_up }));
      between = λ t on e.
          let lies = h.all t on (inside_if s w t e) in
          (up_to_trans f p.first t fp f_up lies.first, up_to_trans t p.last l lp lies.last l_down);
    }

pub clip_span : (s : Seg) (w : Window) (p : Span) → IsSpanIn s w p → Some (ends p) ≡ clip_range s w
clip_span s w p h = sym (clip_range_from s w (ends p) (span_is s w p h))

pub clip_no_span : (s : Seg) (w : Window) → ((t : Fraction) → IsOn t → Inside s w t → ⊥) → None ≡ clip_range s w
clip_no_span s w h = sym (clip_range_none s w (λ t on e. h t on (inside_if s w t e)))

pub meets_span : (s : Seg) (w : Window) (r : Option Span) → IsClipped s w r → is_some r ≡ is_some (clip_range s w)
meets_span s w None h = ap (λ (o : Option (Fraction × Fraction)). is_some o) (clip_no_span s w h)
meets_span s w (Some p) h = ap (λ (o : Option (Fraction × Fraction)). is_some o) (clip_span s w p h)

pub clip_pair : (s : Seg) (w : Window) (p : Span) (f l : Fraction) → f ≡ lowest p.first.num p.first.den → l ≡ lowest p.last.num p.last.den
    → IsSpanIn s w p → Some (f, l) ≡ clip_range s w
clip_pair s w p f l ef el h =
    let ff = lowest p.first.num p.first.den in
    let left : Some (f, l) ≡ Some (ff, l) = ap (λ (z : Fraction). let pair : Fraction × Fraction = (z, l) in Some pair) ef in
    let right : Some (ff, l) ≡ Some (ends p) = ap (λ (z : Fraction). let pair : Fraction × Fraction = (ff, z) in Some pair) el in
    left ∙ right ∙ clip_span s w p h

-- ---- what equals `clip_range` or `meets`, in plain words
pub ends_law : (s : Seg) (w : Window) (o : Option (Fraction × Fraction)) → o ≡ clip_range s w → IfSome o (IsClipRange s w)
ends_law s w None e = tt
ends_law s w (Some f) e = is_clip_range s w f (sym e)

pub none_law : (s : Seg) (w : Window) (o : Option (Fraction × Fraction)) → o ≡ clip_range s w → IsNone o ↔ ¬ Meets s w
none_law s w None e = (λ _ m. (clip_range-none s w).0 (sym e) m, λ _. refl)
none_law s w (Some f) e =
    let is = is_clip_range s w f (sym e) in
    (λ h. absurd (true≢false h), λ none. absurd (none (f.0, is.first.on, is.first.inside)))

pub point_law : (s : Seg) (w : Window) (b : Bool) → b ≡ meets s w → IsTrue b ↔ Meets s w
point_law s w b e = (λ h. (meets_law s w).0 (sym e ∙ h), λ m. e ∙ (meets_law s w).1 m)
