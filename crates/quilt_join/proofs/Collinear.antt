-- Segments on one line that overlap: an end of one of them lies on the other.
use Rattle.std.proofs.Common.{◌≡◌, ℕ, ◌+◌, ◌-◌, ◌*◌, ◌<◌, ◌≤◌, min, max, true, ◌⊎◌, ⊎_elim, inl, inr, arith, ap}
use Rattle.std.proofs.lemmas.Bool.{cases_lt, cases_eq}
use Rattle.std.proofs.lemmas.Bool.Decides.{nat_tests}
use Rattle.quilt_types.specs.declared.plane.Seg.{Seg}
use Rattle.quilt_types.specs.Fractions.{Fraction}
use Rattle.quilt_types.specs.Segments.{is_on}
use Rattle.quilt_types.specs.Crossings.{Share, overlap}
use Rattle.quilt_join.specs.Sides.{left_products, right_products}
use Rattle.quilt_join.proofs.SharedPoints.{on_is, shared_back}

-- the point is one of the segment's
record IsAt (r : Seg) (x y : ℕ) : Type 0 where
  u : Fraction
  on : is_on u ≡ true
  column : x * u.den + r.x1 * u.num ≡ r.x1 * u.den + r.x2 * u.num
  row : y * u.den + r.y1 * u.num ≡ r.y1 * u.den + r.y2 * u.num

-- the point is on the segment's line
pub record IsLevel (r : Seg) (x y : ℕ) : Type 0 where
  pub even : left_products r x y ≡ right_products r x y

first_shares : (s r : Seg) → IsAt r s.x1 s.y1 → Share s r
first_shares s r h = record {
  t = record { num = 0; den = 1 };
  u = h.u;
  on_s = on_is 0 1 (omega arith) (omega arith);
  on_r = h.on;
  x = omega (arith, h.column);
  y = omega (arith, h.row);
}

last_shares : (s r : Seg) → IsAt r s.x2 s.y2 → Share s r
last_shares s r h = record {
  t = record { num = 1; den = 1 };
  u = h.u;
  on_s = on_is 1 1 (omega arith) (omega arith);
  on_r = h.on;
  x = omega (arith, h.column);
  y = omega (arith, h.row);
}

at_right : (r : Seg) (x y v m : ℕ) → r.x2 ≡ r.x1 + v → x ≡ r.x1 + m → 0 < v → m ≤ v → IsLevel r x y → IsAt r x y
at_right r x y v m e f pos h flat = record {
  u = record { num = m; den = v };
  on = on_is m v pos h;
  column = omega (arith, ap (λ z. z * v) f, ap (λ z. z * m) e);
  row = omega (arith, flat.even, ap (λ z. z * y) e, ap (λ z. z * r.y1) e, ap (λ z. z * r.y1) f, ap (λ z. z * r.y2) f);
}

at_left : (r : Seg) (x y v m : ℕ) → r.x1 ≡ r.x2 + v → r.x1 ≡ x + m → 0 < v → m ≤ v → IsLevel r x y → IsAt r x y
at_left r x y v m e f pos h flat = record {
  u = record { num = m; den = v };
  on = on_is m v pos h;
  column = omega (arith, ap (λ z. z * v) f, ap (λ z. z * m) e);
  row = omega (arith, flat.even, ap (λ z. z * y) e, ap (λ z. z * r.y1) e, ap (λ z. z * r.y1) f, ap (λ z. z * r.y2) f);
}

at_down : (r : Seg) (x y v m : ℕ) → r.y2 ≡ r.y1 + v → y ≡ r.y1 + m → 0 < v → m ≤ v → IsLevel r x y → IsAt r x y
at_down r x y v m e f pos h flat = record {
  u = record { num = m; den = v };
  on = on_is m v pos h;
  column = omega (arith, flat.even, ap (λ z. z * x) e, ap (λ z. z * r.x1) e, ap (λ z. z * r.x1) f, ap (λ z. z * r.x2) f);
  row = omega (arith, ap (λ z. z * v) f, ap (λ z. z * m) e);
}

at_up : (r : Seg) (x y v m : ℕ) → r.y1 ≡ r.y2 + v → r.y1 ≡ y + m → 0 < v → m ≤ v → IsLevel r x y → IsAt r x y
at_up r x y v m e f pos h flat = record {
  u = record { num = m; den = v };
  on = on_is m v pos h;
  column = omega (arith, flat.even, ap (λ z. z * x) e, ap (λ z. z * r.x1) e, ap (λ z. z * r.x1) f, ap (λ z. z * r.x2) f);
  row = omega (arith, ap (λ z. z * v) f, ap (λ z. z * m) e);
}

-- a point of the line between the columns of the ends
at_column : (r : Seg) (x y : ℕ) → IsLevel r x y → (r.x1 ≡ r.x2 → ⊥) → min r.x1 r.x2 ≤ x → x ≤ max r.x1 r.x2 → IsAt r x y
at_column r x y flat wide low high =
    ⊎_elim
    (λ lt. at_right r x y (r.x2 - r.x1) (x - r.x1) (omega arith) (omega arith) (omega arith) (omega arith) flat)
    (λ no. ⊎_elim
    (λ lt. at_left r x y (r.x1 - r.x2) (r.x1 - x) (omega arith) (omega arith) (omega arith) (omega arith) flat)
    (λ none. absurd (wide (omega arith)))
    (cases_lt r.x2 r.x1))
    (cases_lt r.x1 r.x2)

-- between the rows of the ends
at_row : (r : Seg) (x y : ℕ) → IsLevel r x y → (r.y1 ≡ r.y2 → ⊥) → min r.y1 r.y2 ≤ y → y ≤ max r.y1 r.y2 → IsAt r x y
at_row r x y flat high low most =
    ⊎_elim
    (λ lt. at_down r x y (r.y2 - r.y1) (y - r.y1) (omega arith) (omega arith) (omega arith) (omega arith) flat)
    (λ no. ⊎_elim
    (λ lt. at_up r x y (r.y1 - r.y2) (r.y1 - y) (omega arith) (omega arith) (omega arith) (omega arith) flat)
    (λ none. absurd (high (omega arith)))
    (cases_lt r.y2 r.y1))
    (cases_lt r.y1 r.y2)

-- all ends are on one line
pub record AreLevel (s r : Seg) : Type 0 where
  pub first : IsLevel r s.x1 s.y1
  pub last : IsLevel r s.x2 s.y2
  pub other_first : IsLevel s r.x1 r.y1
  pub other_last : IsLevel s r.x2 r.y2

level_back : (s r : Seg) → AreLevel s r → AreLevel r s
level_back s r h = record { first = h.other_first; last = h.other_last; other_first = h.first; other_last = h.last }

-- the left end of the first segment is on the second one
by_column : (s r : Seg) → AreLevel s r → (r.x1 ≡ r.x2 → ⊥) → min r.x1 r.x2 ≤ min s.x1 s.x2 → min s.x1 s.x2 ≤ max r.x1 r.x2 → Share s r
by_column s r h wide low high =
    ⊎_elim
    (λ lt. last_shares s r (at_column r s.x2 s.y2 h.last wide (omega arith) (omega arith)))
    (λ no. first_shares s r (at_column r s.x1 s.y1 h.first wide (omega arith) (omega arith)))
    (cases_lt s.x2 s.x1)

by_row : (s r : Seg) → AreLevel s r → (r.y1 ≡ r.y2 → ⊥) → min r.y1 r.y2 ≤ min s.y1 s.y2 → min s.y1 s.y2 ≤ max r.y1 r.y2 → Share s r
by_row s r h high low most =
    ⊎_elim
    (λ lt. last_shares s r (at_row r s.x2 s.y2 h.last high (omega arith) (omega arith)))
    (λ no. first_shares s r (at_row r s.x1 s.y1 h.first high (omega arith) (omega arith)))
    (cases_lt s.y2 s.y1)

-- in the columns
by_columns : (s r : Seg) → AreLevel s r → ((r.x1 ≡ r.x2 → ⊥) ⊎ (s.x1 ≡ s.x2 → ⊥)) → min s.x1 s.x2 ≤ max r.x1 r.x2 → min r.x1 r.x2 ≤ max s.x1 s.x2 → Share s r
by_columns s r h some low high =
    ⊎_elim
    (λ lt. shared_back r s (by_column r s (level_back s r h) (λ equal. omega arith) (omega arith) high))
    (λ no. ⊎_elim
    (λ equal. ⊎_elim
    (λ differ. absurd (differ equal))
    (λ differ. shared_back r s (by_column r s (level_back s r h) differ (omega arith) high))
    some)
    (λ differ. by_column s r h differ (omega arith) low)
    (cases_eq r.x1 r.x2))
    (cases_lt (min s.x1 s.x2) (min r.x1 r.x2))

-- in the rows
by_rows : (s r : Seg) → AreLevel s r → ((r.y1 ≡ r.y2 → ⊥) ⊎ (s.y1 ≡ s.y2 → ⊥)) → min s.y1 s.y2 ≤ max r.y1 r.y2 → min r.y1 r.y2 ≤ max s.y1 s.y2 → Share s r
by_rows s r h some low high =
    ⊎_elim
    (λ lt. shared_back r s (by_row r s (level_back s r h) (λ equal. omega arith) (omega arith) high))
    (λ no. ⊎_elim
    (λ equal. ⊎_elim
    (λ differ. absurd (differ equal))
    (λ differ. shared_back r s (by_row r s (level_back s r h) differ (omega arith) high))
    some)
    (λ differ. by_row s r h differ (omega arith) low)
    (cases_eq r.y1 r.y2))
    (cases_lt (min s.y1 s.y2) (min r.y1 r.y2))

overlap_from : (a b c d : ℕ) → overlap a b c d ≡ true → (min a b ≤ max c d) × (min c d ≤ max a b)
overlap_from a b c d h = (grind (arith, nat_tests), grind (arith, nat_tests))

-- two points
points_share : (s r : Seg) → s.x1 ≡ r.x1 → s.y1 ≡ r.y1 → Share s r
points_share s r e f = first_shares s r (record {
  u = record { num = 0; den = 1 };
  on = on_is 0 1 (omega arith) (omega arith);
  column = omega arith;
  row = omega arith;
})

-- segments on one line that overlap in both directions
pub level_shares : (s r : Seg) → AreLevel s r → overlap s.x1 s.x2 r.x1 r.x2 ≡ true → overlap s.y1 s.y2 r.y1 r.y2 ≡ true → Share s r
level_shares s r h x y =
    let columns = overlap_from s.x1 s.x2 r.x1 r.x2 x in
    let rows = overlap_from s.y1 s.y2 r.y1 r.y2 y in
    ⊎_elim
    (λ rx. ⊎_elim
    (λ sx. ⊎_elim
    (λ ry. ⊎_elim
    (λ sy. points_share s r (omega arith) (omega arith))
    (λ differ. by_rows s r h (inr differ) rows.0 rows.1)
    (cases_eq s.y1 s.y2))
    (λ differ. by_rows s r h (inl differ) rows.0 rows.1)
    (cases_eq r.y1 r.y2))
    (λ differ. by_columns s r h (inr differ) columns.0 columns.1)
    (cases_eq s.x1 s.x2))
    (λ differ. by_columns s r h (inl differ) columns.0 columns.1)
    (cases_eq r.x1 r.x2)
