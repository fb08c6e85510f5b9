-- The signs of cross products, by sums of products of naturals.
use Rattle.std.proofs.Common.{◌≡◌, ℕ, suc, ◌+◌, ◌-◌, ◌*◌, ◌<◌, ◌≤◌, Bool, true, false, ◌&&◌, ◌||◌, arith, ap, ◌∙◌, refl}
use Rattle.std.specs.Prelude.{ℤ, pos, ◌*ℤ◌, int_le, nat_le}
use Rattle.std.proofs.lemmas.Bool.Decides.{nat_tests}
use Rattle.std.proofs.lemmas.Bool.{le-leb, lt-leb, leb-true, leb-false}
use borrow.Author.Differences.{le-true, le-false}
use Rattle.quilt_types.specs.declared.plane.Seg.{Seg}
use Rattle.quilt_types.specs.Crossings.{overlap, turn, shares}
use Rattle.quilt_near.proofs.Diffs.{IsDiff, diff_pos, diff_move, minus, times}
use Rattle.quilt_join.specs.Sides.{left_products, right_products, parts}

-- the cross product as a difference
pub turn_is : (s : Seg) (x y : ℕ) → IsDiff (turn s x y) (left_products s x y) (right_products s x y)
turn_is s x y =
    let across = times (minus (diff_pos s.x2) (diff_pos s.x1)) (minus (diff_pos y) (diff_pos s.y1)) in
    let down = times (minus (diff_pos s.y2) (diff_pos s.y1)) (minus (diff_pos x) (diff_pos s.x1)) in
    diff_move _ _ _ _ _ (minus across down) (omega arith)

le_by : (z : ℤ) (u v : ℕ) (b : Bool) → IsDiff z u v → int_le z (pos 0) ≡ b → b ≡ nat_le u v
le_by z u v true d e =
    let fd = d.fact in
    let h = le-true z (pos 0) e in
    let le : u ≤ v = omega arith in grind (arith, nat_tests)
le_by z u v false d e =
    let fd = d.fact in
    let h = le-false z (pos 0) e in
    let lt : v < u = omega arith in grind (arith, nat_tests)

-- a difference is 0 or less
le_is : (z : ℤ) (u v : ℕ) → IsDiff z u v → int_le z (pos 0) ≡ nat_le u v
le_is z u v d = le_by z u v (int_le z (pos 0)) d refl

opposite_at : (u v s t a b : ℕ) → v ≡ u + a → s ≡ t + b → u * s + v * t ≤ u * t + v * s
opposite_at u v s t a b e f = omega (arith, ap (λ z. z * s) e, ap (λ z. z * t) e, ap (λ z. u * z) f, ap (λ z. a * z) f)

opposite : (u v s t : ℕ) → u ≤ v → t ≤ s → u * s + v * t ≤ u * t + v * s
opposite u v s t h k = opposite_at u v s t (v - u) (s - t) (omega arith) (omega arith)

alike_at : (u v s t a b : ℕ) → u ≡ v + suc a → s ≡ t + suc b → u * t + v * s < u * s + v * t
alike_at u v s t a b e f = omega (arith, ap (λ z. z * s) e, ap (λ z. z * t) e, ap (λ z. v * z) f, ap (λ z. suc a * z) f)

alike : (u v s t : ℕ) → v < u → t < s → u * t + v * s < u * s + v * t
alike u v s t h k = alike_at u v s t (u - suc v) (s - suc t) (omega arith) (omega arith)

signs : (u v s t : ℕ) (a b c d : Bool) → nat_le u v ≡ a → nat_le t s ≡ b → nat_le s t ≡ c → nat_le v u ≡ d →
    nat_le (u * s + v * t) (u * t + v * s) ≡ (a && b) || (c && d)
signs u v s t true true c d e f g h = le-leb _ _ (opposite u v s t (leb-true _ _ e) (leb-true _ _ f))
signs u v s t true false true true e f g h =
    let turned = opposite v u t s (leb-true _ _ h) (leb-true _ _ g) in
    le-leb _ _ (omega arith)
signs u v s t true false true false e f g h =
    let turned = alike v u t s (leb-false _ _ h) (leb-false _ _ f) in
    lt-leb _ _ (omega arith)
signs u v s t true false false d e f g h = absurd (omega (arith, leb-false _ _ f, leb-false _ _ g))
signs u v s t false b true true e f g h =
    let turned = opposite v u t s (leb-true _ _ h) (leb-true _ _ g) in
    le-leb _ _ (omega arith)
signs u v s t false b true false e f g h = absurd (omega (arith, leb-false _ _ e, leb-false _ _ h))
signs u v s t false b false d e f g h = lt-leb _ _ (alike u v s t (leb-false _ _ e) (leb-false _ _ g))

-- the cross products have no sign in common
pub parts_is : (s r : Seg) → int_le (turn s r.x1 r.y1 *ℤ turn s r.x2 r.y2) (pos 0) ≡ parts s r
parts_is s r =
    le_is _ _ _ (times (turn_is s r.x1 r.y1) (turn_is s r.x2 r.y2))
    ∙ signs (left_products s r.x1 r.y1) (right_products s r.x1 r.y1) (left_products s r.x2 r.y2) (right_products s r.x2 r.y2) _ _ _ _ refl refl refl refl

pub shares_is : (s r : Seg) → shares s r ≡ (overlap s.x1 s.x2 r.x1 r.x2 && overlap s.y1 s.y2 r.y1 r.y2 && parts s r && parts r s)
unfolding shares
shares_is s r = simp (parts_is s r, parts_is r s)
