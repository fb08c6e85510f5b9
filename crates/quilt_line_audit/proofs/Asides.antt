-- A segment that has an end in a closed square meets it, and one whose ends lie beyond one of its sides does not.
use Rattle.std.proofs.Common.{◌≡◌, ◌⊎◌, ℕ, ◌+◌, ◌-◌, ◌*◌, ◌<◌, ◌≤◌, true, false, refl, subst, ⊎_elim, arith}
use Rattle.std.proofs.Math.Nat.{mul-le-mul_right}
use Rattle.std.proofs.lemmas.Bool.{false_from_ne_true}
use Rattle.quilt_types.specs.declared.plane.Seg.{Seg}
use Rattle.quilt_types.specs.declared.plane.Window.{Window}
use Rattle.quilt_types.specs.Fractions.{Fraction}
use Rattle.quilt_types.specs.Segments.{meets, is_on}
use Rattle.quilt_clip.specs.Spans.{IsOn, Above, Below}
use Rattle.quilt_clip.proofs.Clips.{on_if, inside_if, inside_then, meets_law}

-- ---- an end in the square
pub record IsIn (w : Window) (x y : ℕ) : Type 0 where
  pub left : w.x ≤ x
  pub right : x ≤ w.x + w.w
  pub top : w.y ≤ y
  pub bottom : y ≤ w.y + w.h

-- by one of its ends, which is where none of it lies behind or all
meets_at : (s : Seg) (w : Window) (k x y : ℕ) → is_on (record { num = k; den = 1 }) ≡ true → x + s.x1 * k ≡ s.x1 + s.x2 * k → y + s.y1 * k ≡ s.y1 + s.y2 * k
    → IsIn w x y → meets s w ≡ true
meets_at s w k x y on ex ey i =
    let l = i.left in
    let r = i.right in
    let u = i.top in
    let d = i.bottom in
    let t : Fraction = record { num = k; den = 1 } in
    (meets_law s w).1 (
      t,
      on,
      inside_then s w t (record {
        left = record { fact = omega arith };
        right = record { fact = omega arith };
        top = record { fact = omega arith };
        bottom = record { fact = omega arith };
      }),
    )

pub first_in : (s : Seg) (w : Window) → IsIn w s.x1 s.y1 → meets s w ≡ true
first_in s w i = meets_at s w 0 s.x1 s.y1 refl (omega arith) (omega arith) i

pub last_in : (s : Seg) (w : Window) → IsIn w s.x2 s.y2 → meets s w ≡ true
last_in s w i = meets_at s w 1 s.x2 s.y2 refl (omega arith) (omega arith) i

-- ---- both ends beyond a side: in one direction, of numbers from a to b no one is from low to high
-- what lies between two numbers grows with both
between : (a b c d n r : ℕ) → 0 < n + r → a < c → b < d → a * r + b * n < c * r + d * n
between a b c d n r some ha hb = let p = mul-le-mul_right r ha in let q = mul-le-mul_right n hb in omega arith

abbrev AreBeyond : ℕ → ℕ → ℕ → ℕ → Type 0
AreBeyond a b low high = ((a < low) × (b < low)) ⊎ ((high < a) × (high < b))

beyond : (a b low high : ℕ) (t : Fraction) → IsOn t → AreBeyond a b low high → Above a b low t → Below a b high t → ⊥
beyond a b low high t on far above below =
    let some = on.positive in
    let most = on.within in
    let r = t.den - t.num in
    let e : t.den ≡ t.num + r = omega arith in
    let part : 0 < t.num + r = omega arith in
    ⊎_elim
    (λ u.
    let less = between a b low low t.num r part u.0 u.1 in
    let from = subst (λ d. low * d + a * t.num ≤ a * d + b * t.num) e above.fact in
    omega arith)
    (λ o.
    let less = between high high a b t.num r part o.0 o.1 in
    let upto = subst (λ d. a * d + b * t.num ≤ high * d + a * t.num) e below.fact in
    omega arith) far

pub misses : (s : Seg) (w : Window) → AreBeyond s.x1 s.x2 w.x (w.x + w.w) ⊎ AreBeyond s.y1 s.y2 w.y (w.y + w.h) → meets s w ≡ false
misses s w far =
    false_from_ne_true (meets s w) (λ h.
    let m = (meets_law s w).0 h in
    let on = on_if m.0 m.1 in
    let i = inside_if s w m.0 m.2 in
    ⊎_elim (λ x. beyond s.x1 s.x2 w.x (w.x + w.w) m.0 on x i.left i.right) (λ y. beyond s.y1 s.y2 w.y (w.y + w.h) m.0 on y i.top i.bottom) far)
