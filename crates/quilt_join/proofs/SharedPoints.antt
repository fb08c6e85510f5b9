-- Segments that share a point: what the signs of their cross products have to do with it.
use Rattle.std.proofs.Common.{◌≡◌, ℕ, suc, ◌+◌, ◌-◌, ◌*◌, ◌<◌, ◌≤◌, min, max, true, ◌&&◌, ◌||◌, ⊎_elim, zero, subst, arith, ap, sym}
use Rattle.std.specs.Prelude.{nat_le}
use Rattle.std.proofs.lemmas.Bool.{cases_lt, or_left, or_right}
use Rattle.std.proofs.lemmas.Bool.Decides.{nat_tests}
use Rattle.quilt_types.specs.declared.plane.Seg.{Seg}
use Rattle.quilt_types.specs.Fractions.{Fraction}
use Rattle.quilt_types.specs.Segments.{is_on}
use Rattle.quilt_types.specs.Crossings.{Share, IsOneCoordinate, overlap}
use Rattle.quilt_join.specs.Sides.{left_products, right_products, is_turned, parts}

-- the other way round
pub shared_back : (s r : Seg) → Share s r → Share r s
shared_back s r h = record { t = h.u; u = h.t; on_s = h.on_r; on_r = h.on_s; x = sym h.x; y = sym h.y }

on_from : (t : Fraction) → is_on t ≡ true → (0 < t.den) × (t.num ≤ t.den)
on_from t h = (grind (arith, nat_tests), grind (arith, nat_tests))

pub on_is : (p q : ℕ) → 0 < q → p ≤ q → is_on (record { num = p; den = q }) ≡ true
on_is p q h k = grind (arith, nat_tests)

-- The products of one direction with both parts of each segment: o and p of the first, n and m of the second.
one_way : (a b c d p o m n : ℕ) → IsOneCoordinate a b (record { num = p; den = p + o }) c d (record { num = m; den = m + n }) →
    (a * o + b * p) * (m + n) ≡ (c * n + d * m) * (p + o)
one_way a b c d p o m n e = omega (arith, e)

-- twice the areas of the ends' triangles, weighted by the parts, come to nothing
balanced : (x1 y1 x2 y2 c1 d1 c2 d2 p o m n : ℕ) → (x1 * o + x2 * p) * (m + n) ≡ (c1 * n + c2 * m) * (p + o) →
    (y1 * o + y2 * p) * (m + n) ≡ (d1 * n + d2 * m) * (p + o) →
    (m + n) * (o * (c2 * y1 + c1 * d2 + x1 * d1) + p * (c2 * y2 + c1 * d2 + x2 * d1)) ≡ (m + n) * (o * (c2 * d1 + c1 * y1 + x1 * d2) + p *
    (c2 * d1 + c1 * y2 + x2 * d2))
balanced x1 y1 x2 y2 c1 d1 c2 d2 p o m n e f =
    omega (arith, ap (λ z. c2 * z) f, ap (λ z. d1 * z) e, ap (λ z. c1 * z) f, ap (λ z. d2 * z) e)

-- the same with denominators that are the sums of their parts
parted : (a b c d : ℕ) (t u : Fraction) → t.num ≤ t.den → u.num ≤ u.den → IsOneCoordinate a b t c d u →
    IsOneCoordinate a b (record { num = t.num; den = t.num + (t.den - t.num) }) c d (record { num = u.num; den = u.num + (u.den - u.num) })
parted a b c d t u h k e =
    let whole : t.den ≡ t.num + (t.den - t.num) = omega arith in
    let other : u.den ≡ u.num + (u.den - u.num) = omega arith in
    subst (λ (q : ℕ). IsOneCoordinate a b (record { num = t.num; den = q }) c d (record { num = u.num; den = u.num + (u.den - u.num) })) whole
    (subst (λ (v : ℕ). IsOneCoordinate a b t c d (record { num = u.num; den = v })) other e)

product_pos : (x y : ℕ) → 0 < x → 0 < y → 0 < x * y
product_pos zero y h k = absurd (omega arith)
product_pos (suc x) zero h k = absurd (omega arith)
product_pos (suc x) (suc y) h k = omega arith

uneven_at : (k o p w a b u v s t : ℕ) → u ≡ v + suc a → s ≡ t + suc b → o + p ≡ suc w → 0 < k → k * (o * u + p * s) ≡ k * (o * v + p * t) → ⊥
uneven_at k o p w a b u v s t e f g pos h = omega (arith, ap (λ z. k * (o * z)) e, ap (λ z. k * (p * z)) f, ap (λ z. k * z) g)

-- what is balanced is not greater on one side for both
uneven : (k o p u v s t : ℕ) → 0 < k → 0 < o + p → k * (o * u + p * s) ≡ k * (o * v + p * t) → v < u → t < s → ⊥
uneven k o p u v s t pos some e h g = uneven_at k o p (o + p - 1) (u - suc v) (s - suc t) u v s t (omega arith) (omega arith) (omega arith) pos e

turned_is : (u v s t : ℕ) → u ≤ v → t ≤ s → is_turned (u, v) (s, t) ≡ true
turned_is u v s t h k = grind (arith, nat_tests)

turned_or : (u v s t : ℕ) → (v < u → t < s → ⊥) → (u < v → s < t → ⊥) → (is_turned (u, v) (s, t) || is_turned (s, t) (u, v)) ≡ true
turned_or u v s t f g =
    ⊎_elim
    (λ vu. ⊎_elim (λ ts. absurd (f vu ts)) (λ no. or_right (is_turned (u, v) (s, t)) (is_turned (s, t) (u, v)) (turned_is s t u v (omega arith)
    (omega arith))) (cases_lt t s))
    (λ uv. ⊎_elim
    (λ st. ⊎_elim (λ less. absurd (g less st)) (λ no. or_right (is_turned (u, v) (s, t)) (is_turned (s, t) (u, v)) (turned_is s t u v (omega arith)
    (omega arith))) (cases_lt u v))
    (λ no. or_left (is_turned (u, v) (s, t)) (is_turned (s, t) (u, v)) (turned_is u v s t (omega arith) (omega arith)))
    (cases_lt s t))
    (cases_lt v u)

-- the ends of the first segment do not lie on one side of the second one's line
pub shared_parts : (s r : Seg) → Share s r → parts r s ≡ true
shared_parts s r h =
    let t = on_from h.t h.on_s in
    let u = on_from h.u h.on_r in
    let p = h.t.num in
    let o = h.t.den - h.t.num in
    let m = h.u.num in
    let n = h.u.den - h.u.num in
    let x = one_way s.x1 s.x2 r.x1 r.x2 p o m n (parted s.x1 s.x2 r.x1 r.x2 h.t h.u t.1 u.1 h.x) in
    let y = one_way s.y1 s.y2 r.y1 r.y2 p o m n (parted s.y1 s.y2 r.y1 r.y2 h.t h.u t.1 u.1 h.y) in
    let even = balanced s.x1 s.y1 s.x2 s.y2 r.x1 r.y1 r.x2 r.y2 p o m n x y in
    let some : 0 < o + p = omega arith in
    let pos : 0 < m + n = omega arith in
    turned_or (left_products r s.x1 s.y1) (right_products r s.x1 s.y1) (left_products r s.x2 s.y2) (right_products r s.x2 s.y2)
    (λ f g. uneven (m + n) o p (left_products r s.x1 s.y1) (right_products r s.x1 s.y1) (left_products r s.x2 s.y2)
    (right_products r s.x2 s.y2) pos some even f g)
    (λ f g. uneven (m + n) o p (right_products r s.x1 s.y1) (left_products r s.x1 s.y1) (right_products r s.x2 s.y2)
    (left_products r s.x2 s.y2) pos some (sym even) f g)

apart_at : (k a b c e d f p o m n : ℕ) → c + e ≡ k → d + f ≡ k → ((k + suc a) * o + (k + suc b) * p) * (m + n) ≡ (c * n + d * m) * (p + o) →
    0 < (p + o) * (m + n) → ⊥
apart_at k a b c e d f p o m n g h is pos = omega (arith, ap (λ z. z * (n * (p + o))) g, ap (λ z. z * (m * (p + o))) h)

-- in one direction: points in common are in no two stretches of which one is wholly beyond the other
apart : (a b c d p o m n : ℕ) → (a * o + b * p) * (m + n) ≡ (c * n + d * m) * (p + o) → 0 < p + o → 0 < m + n → max c d < min a b → ⊥
apart a b c d p o m n e f g beyond =
    let k = max c d in
    let first : a ≡ k + suc (a - suc k) = omega arith in
    let last : b ≡ k + suc (b - suc k) = omega arith in
    apart_at k (a - suc k) (b - suc k) c (k - c) d (k - d) p o m n (omega arith) (omega arith)
    (omega (arith, e, ap (λ z. z * (o * (m + n))) first, ap (λ z. z * (p * (m + n))) last)) (product_pos (p + o) (m + n) f g)

both_yes : (a b c d : ℕ) → a ≤ b → c ≤ d → (nat_le a b && nat_le c d) ≡ true
both_yes a b c d h k = grind (arith, nat_tests)

at_most : (a b : ℕ) → (b < a → ⊥) → a ≤ b
at_most a b f = ⊎_elim (λ lt. absurd (f lt)) (λ no. omega arith) (cases_lt b a)

overlap_by : (a b c d p o m n : ℕ) → (a * o + b * p) * (m + n) ≡ (c * n + d * m) * (p + o) → 0 < p + o → 0 < m + n → overlap a b c d ≡ true
overlap_by a b c d p o m n e f g =
    both_yes (min a b) (max c d) (min c d) (max a b)
    (at_most (min a b) (max c d) (apart a b c d p o m n e f g))
    (at_most (min c d) (max a b) (apart c d a b m n p o (sym e) g f))

-- segments that share a point overlap in both directions
pub shared_overlap : (s r : Seg) → Share s r → (overlap s.x1 s.x2 r.x1 r.x2 ≡ true) × (overlap s.y1 s.y2 r.y1 r.y2 ≡ true)
shared_overlap s r h =
    let t = on_from h.t h.on_s in
    let u = on_from h.u h.on_r in
    let p = h.t.num in
    let o = h.t.den - h.t.num in
    let m = h.u.num in
    let n = h.u.den - h.u.num in
    let some : 0 < p + o = omega arith in
    let pos : 0 < m + n = omega arith in (
      overlap_by s.x1 s.x2 r.x1 r.x2 p o m n (one_way s.x1 s.x2 r.x1 r.x2 p o m n (parted s.x1 s.x2 r.x1 r.x2 h.t h.u t.1 u.1 h.x)) some pos,
      overlap_by s.y1 s.y2 r.y1 r.y2 p o m n (one_way s.y1 s.y2 r.y1 r.y2 p o m n (parted s.y1 s.y2 r.y1 r.y2 h.t h.u t.1 u.1 h.y)) some pos,
    )
