-- The test of an edge and a pixel in natural numbers.
use Rattle.std.proofs.Common.{◌≡◌, ℕ, ◌+◌, ◌*◌, ◌<◌, ◌≤◌, true, ◌&&◌, nat_le, nat_lt, ◌∙◌, ap₂, sym, arith, le-leb, lt-ltb, leb-true, ltb-true}
use Rattle.std.specs.Prelude.{pos, ◌-ℤ◌, ◌*ℤ◌, int_lt}
use Rattle.std.specs.Cmp.{both_ways}
use Rattle.std.proofs.lemmas.Bool.{and_parts, and_from}
use Rattle.quilt_types.specs.declared.plane.Pixel.{Pixel}
use Rattle.quilt_types.specs.Polygons.{Edge, is_right_of}
use Rattle.quilt_poly.specs.Edges.{ahead, second_product, is_left}
use Rattle.quilt_poly.proofs.Differences.{diff_pos, minus, times, diff_less}

-- two tests of which each follows from the other
same_less : (a b c d : ℕ) → (a < b → c < d) → (c < d → a < b) → nat_lt a b ≡ nat_lt c d
same_less a b c d to from =
    both_ways (nat_lt a b) (nat_lt c d) (λ e. lt-ltb c d (to (ltb-true a b e))) (λ e. lt-ltb a b (from (ltb-true c d e)))

low_is : (a y : ℕ) → int_lt (pos (2 * a)) (pos (2 * y + 1)) ≡ nat_le a y
low_is a y =
    diff_less (diff_pos (2 * a)) (diff_pos (2 * y + 1))
    ∙ both_ways (nat_lt (2 * a + 0) (2 * y + 1 + 0)) (nat_le a y)
    (λ e. let h = ltb-true (2 * a + 0) (2 * y + 1 + 0) e in le-leb a y (omega arith))
    (λ e. let h = leb-true a y e in lt-ltb (2 * a + 0) (2 * y + 1 + 0) (omega arith))

high_is : (y b : ℕ) → int_lt (pos (2 * y + 1)) (pos (2 * b)) ≡ nat_lt y b
high_is y b =
    diff_less (diff_pos (2 * y + 1)) (diff_pos (2 * b)) ∙ same_less (2 * y + 1 + 0) (2 * b + 0) y b (λ h. omega arith) (λ h. omega arith)

turn_is : (x y ax ay bx by : ℕ) → int_lt ((pos x -ℤ pos ax) *ℤ (pos by -ℤ pos ay)) ((pos bx -ℤ pos ax) *ℤ (pos y -ℤ pos ay))
    ≡ nat_lt (x * by + ax * y + bx * ay) (bx * y + x * ay + ax * by)
turn_is x y ax ay bx by =
    diff_less (times (minus (diff_pos x) (diff_pos ax)) (minus (diff_pos by) (diff_pos ay)))
    (times (minus (diff_pos bx) (diff_pos ax)) (minus (diff_pos y) (diff_pos ay)))
    ∙ same_less _ _ (x * by + ax * y + bx * ay) (bx * y + x * ay + ax * by) (λ h. omega arith) (λ h. omega arith)

pub is_right_of_is : (p : Pixel) (e : Edge) → is_right_of p e ≡ (nat_le e.top.y p.y && nat_lt p.y e.bottom.y && is_left p e)
unfolding is_left ahead second_product
is_right_of_is p e =
    ap₂ (λ a b. a && b) (ap₂ (λ a b. a && b) (low_is e.top.y p.y) (high_is p.y e.bottom.y))
    (turn_is (2 * p.x + 1) (2 * p.y + 1) (2 * e.top.x) (2 * e.top.y) (2 * e.bottom.x) (2 * e.bottom.y))

-- the same as inequalities
pub record IsCrossed (p : Pixel) (e : Edge) : Type 0 where
  pub low : e.top.y ≤ p.y
  pub high : p.y < e.bottom.y
  pub left : second_product p e < ahead p e

pub IsCrossed-from : (p : Pixel) (e : Edge) → is_right_of p e ≡ true → IsCrossed p e
unfolding is_left
IsCrossed-from p e h =
    let all = and_parts (nat_le e.top.y p.y && nat_lt p.y e.bottom.y) (is_left p e) (sym (is_right_of_is p e) ∙ h) in
    let rows = and_parts (nat_le e.top.y p.y) (nat_lt p.y e.bottom.y) all.0 in
    record { low = leb-true _ _ rows.0; high = ltb-true _ _ rows.1; left = ltb-true _ _ all.1 }

pub IsCrossed-to : (p : Pixel) (e : Edge) → IsCrossed p e → is_right_of p e ≡ true
unfolding is_left
IsCrossed-to p e h =
    is_right_of_is p e
    ∙ and_from (nat_le e.top.y p.y && nat_lt p.y e.bottom.y) (is_left p e)
    (and_from (nat_le e.top.y p.y) (nat_lt p.y e.bottom.y) (le-leb _ _ h.low) (lt-ltb _ _ h.high)) (lt-ltb _ _ h.left)
