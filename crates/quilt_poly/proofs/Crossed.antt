-- Where an edge crosses a row, which pixels lie left of it, and the next row.
use Rattle.std.proofs.Common.{◌≡◌, ℕ, ◌+◌, ◌-◌, ◌*◌, ◌<◌, ◌≤◌, false, ◌&&◌, cond, eqb, ltb, leb, min, ⊎_elim, sym, ◌∙◌, ap, ap₂, subst, arith}
use Rattle.std.specs.Cmp.{both_ways}
use Rattle.std.proofs.Math.Nat.{mul-le-mul_right}
use Rattle.std.proofs.lemmas.Nat.{mul-le}
use Rattle.std.proofs.lemmas.Bool.{cases_lt, cases_order, lt-ltb, le-ltb, ltb-true, le-leb, lt-leb, eq-eqb, ne_eqb, and_left, and_right, false_from_ne_true}
use Rattle.quilt_types.specs.declared.plane.Pixel.{Pixel}
use Rattle.quilt_types.specs.Polygons.{Edge}
use Rattle.quilt_poly.specs.declared.edges.RingEdge.{RingEdge}
use Rattle.quilt_poly.specs.Edges.{edge_of, ahead, second_product, crosses}
use Rattle.quilt_poly.specs.Crossings.{IsCrossing}
use Rattle.quilt_poly.proofs.Turning.{IsCrossed-from, IsCrossed-to}

-- the sum at a row with u rows of the edge above it and v below
crossing' : (ax ay bx u v column rest : ℕ) → column * (2 * (u + v + 1)) + rest ≡ ax * (2 * v + 1) + bx * (2 * u + 1) + (u + v)
    → column * (2 * (u + v + 1)) + rest + ax * (2 * (ay + u + 1)) + 2 * ay * bx + bx + 1 ≡ 2 * ax * (ay + (u + v + 1)) + bx * (2 * (ay + u + 1)) + ax + (u + v + 1)
crossing' ax ay bx u v column rest is = omega arith

pub crossing_from : (e : Edge) (y column rest parts above below : ℕ) → e.top.y ≤ y → y < e.bottom.y → e.bottom.y * 2 ≡ e.top.y * 2 + parts
    → above ≡ e.top.x * (2 * (e.bottom.y - y) - 1) → below ≡ e.bottom.x * (2 * (y - e.top.y) + 1)
    → column * parts + rest ≡ above + below + (e.bottom.y - e.top.y - 1) → rest < parts → IsCrossing e (y + 1) column rest
crossing_from e y column rest parts above below low high wide from to is small =
    let u = y - e.top.y in
    let v = e.bottom.y - y - 1 in
    let h = u + v + 1 in
    let rows : e.top.y + (u + v + 1) ≡ e.bottom.y = omega arith in
    let row : e.top.y + u + 1 ≡ y + 1 = omega arith in
    let width : parts ≡ 2 * (u + v + 1) = omega arith in
    let first : e.top.x * (2 * (e.bottom.y - y) - 1) ≡ e.top.x * (2 * v + 1) =
    ap (λ k. e.top.x * k) (let z : 2 * (e.bottom.y - y) - 1 ≡ 2 * v + 1 = omega arith in z) in
    let wide_sum : column * parts ≡ column * (2 * (u + v + 1)) = ap (λ k. column * k) width in
    let rest_of : e.bottom.y - e.top.y - 1 ≡ u + v = omega arith in
    let sum = crossing' e.top.x e.top.y e.bottom.x u v column rest
    (sym (ap (λ k. k + rest) wide_sum) ∙ is ∙ ap (λ k. k + (e.bottom.y - e.top.y - 1)) (ap₂ (λ a b. a + b) (from ∙ first) to)
    ∙ ap (λ k. e.top.x * (2 * v + 1) + e.bottom.x * (2 * u + 1) + k) rest_of) in
    record {
      height = u + v + 1;
      rows = rows;
      sum = subst (λ k. column * (2 * (u + v + 1)) + rest + e.top.x * (2 * k) + 2 * e.top.y * e.bottom.x + e.bottom.x + 1
          ≡ 2 * e.top.x * e.bottom.y + e.bottom.x * (2 * k) + e.top.x + (u + v + 1)) row
          (subst (λ b. column * (2 * (u + v + 1)) + rest + e.top.x * (2 * (e.top.y + u + 1)) + 2 * e.top.y * e.bottom.x + e.bottom.x + 1
          ≡ 2 * e.top.x * b + e.bottom.x * (2 * (e.top.y + u + 1)) + e.top.x + (u + v + 1)) rows sum);
      small = omega arith;
    }

-- which pixels of the row lie left of the edge
left' : (ax ay bx h column rest x y : ℕ)
    → column * (2 * h) + rest + ax * (2 * (y + 1)) + 2 * ay * bx + bx + 1 ≡ 2 * ax * (ay + h) + bx * (2 * (y + 1)) + ax + h → rest < 2 * h → x < column
    → (2 * x + 1) * (2 * (ay + h)) + 2 * ax * (2 * y + 1) + 2 * bx * (2 * ay) < 2 * bx * (2 * y + 1) + (2 * x + 1) * (2 * ay) + 2 * ax * (2 * (ay + h))
left' ax ay bx h column rest x y is small lt =
    let m : (x + 1) * (2 * h) ≤ column * (2 * h) = mul-le-mul_right (2 * h) (let z : x + 1 ≤ column = omega arith in z) in
    omega arith

right' : (ax ay bx h column rest x y : ℕ)
    → column * (2 * h) + rest + ax * (2 * (y + 1)) + 2 * ay * bx + bx + 1 ≡ 2 * ax * (ay + h) + bx * (2 * (y + 1)) + ax + h → rest < 2 * h → column ≤ x
    → 2 * bx * (2 * y + 1) + (2 * x + 1) * (2 * ay) + 2 * ax * (2 * (ay + h)) ≤ (2 * x + 1) * (2 * (ay + h)) + 2 * ax * (2 * y + 1) + 2 * bx * (2 * ay)
right' ax ay bx h column rest x y is small le =
    let m : column * (2 * h) ≤ x * (2 * h) = mul-le-mul_right (2 * h) le in
    omega arith

pub crosses_is : (e : RingEdge) (p : Pixel) (column rest : ℕ) → IsCrossing (edge_of e) (p.y + 1) column rest → e.top.y ≤ p.y → p.y < e.bottom.y
    → crosses p e ≡ ltb p.x column
unfolding crosses ahead second_product
crosses_is e p column rest at low high =
    let rows = at.rows in
    let sum = subst (λ b. column * (2 * at.height) + rest + e.top.x * (2 * (p.y + 1)) + 2 * e.top.y * e.bottom.x + e.bottom.x + 1
    ≡ 2 * e.top.x * b + e.bottom.x * (2 * (p.y + 1)) + e.top.x + at.height) (sym rows) at.sum in
    both_ways (crosses p e) (ltb p.x column)
    (λ is.
    let left = (IsCrossed-from p (edge_of e) is).left in
    ⊎_elim (λ lt. lt-ltb p.x column lt)
    (λ le.
    let k = subst (λ b. 2 * e.bottom.x * (2 * p.y + 1) + (2 * p.x + 1) * (2 * e.top.y) + 2 * e.top.x * (2 * b)
    ≤ (2 * p.x + 1) * (2 * b) + 2 * e.top.x * (2 * p.y + 1) + 2 * e.bottom.x * (2 * e.top.y)) rows
    (right' e.top.x e.top.y e.bottom.x at.height column rest p.x p.y sum at.small le) in
    absurd (omega arith)) (cases_lt p.x column))
    (λ is.
    IsCrossed-to p (edge_of e) (record {
      low = low;
      high = high;
      left = subst (λ b. (2 * p.x + 1) * (2 * b) + 2 * e.top.x * (2 * p.y + 1) + 2 * e.bottom.x * (2 * e.top.y)
          < 2 * e.bottom.x * (2 * p.y + 1) + (2 * p.x + 1) * (2 * e.top.y) + 2 * e.top.x * (2 * b)) rows
          (left' e.top.x e.top.y e.bottom.x at.height column rest p.x p.y sum at.small (ltb-true p.x column is));
    }))

-- no row is crossed far to the right
pub column_few : (e : Edge) (below column rest : ℕ) → IsCrossing e below column rest → e.top.x < 65536 → e.bottom.x < 65536 → e.bottom.y < 65536
    → below ≤ 65536 → e.top.y < e.bottom.y → column < 1099511627776
column_few e below column rest at ax bx by far order =
    let rows = at.rows in
    let sum = at.sum in
    let a = mul-le e.top.x e.bottom.y 65536 65536 (omega arith) (omega arith) in
    let b = mul-le e.bottom.x below 65536 65536 (omega arith) (omega arith) in
    let c = mul-le column 1 column at.height (omega arith) (omega arith) in
    omega arith

-- the next row below, and above
module _ (e : Edge) (below column rest more part parts new_column new_rest : ℕ) (wide : e.bottom.y * 2 ≡ e.top.y * 2 + parts)
    (moved : new_column * parts + new_rest ≡ column * parts + rest + (more * parts + part)) (small : new_rest < parts) where
  moved_by : (h : ℕ) → e.top.y + h ≡ e.bottom.y → new_column * (2 * h) + new_rest ≡ column * (2 * h) + rest + (more * (2 * h) + part)
  moved_by h rows =
      let is : parts ≡ 2 * h = omega arith in
      subst (λ k. new_column * k + new_rest ≡ column * k + rest + (more * k + part)) is moved

  pub IsCrossing-down : IsCrossing e below column rest → ((h : ℕ) → e.top.y + h ≡ e.bottom.y → more * (2 * h) + part + 2 * e.top.x ≡ 2 * e.bottom.x)
      → IsCrossing e (below + 1) new_column new_rest
  IsCrossing-down at slope =
      let rows = at.rows in
      let sum = at.sum in
      let by = slope at.height rows in
      let to = moved_by at.height rows in
      record { height = at.height; rows = rows; sum = omega arith; small = omega arith }

  pub IsCrossing-up : IsCrossing e (below + 1) column rest → ((h : ℕ) → e.top.y + h ≡ e.bottom.y → more * (2 * h) + part + 2 * e.bottom.x ≡ 2 * e.top.x)
      → IsCrossing e below new_column new_rest
  IsCrossing-up at slope =
      let rows = at.rows in
      let sum = at.sum in
      let by = slope at.height rows in
      let to = moved_by at.height rows in
      record { height = at.height; rows = rows; sum = omega arith; small = omega arith }

-- a row more, from above and from below
module _ (e : RingEdge) (y column rest : ℕ) (at : IsCrossing (edge_of e) (y + 1) column rest) (low : e.top.y ≤ y) (high : y < e.bottom.y) where
  in_row : (p : Pixel) → p.y ≡ y → crosses p e ≡ ltb p.x column
  in_row p is =
      crosses_is e p column rest (subst (λ k. IsCrossing (edge_of e) (k + 1) column rest) (sym is) at) (omega arith) (omega arith)

  pub row_below : (p : Pixel) → cond {A = ℕ} (ltb p.y y && crosses p e) 1 0 + cond {A = ℕ} (eqb p.y y && ltb p.x column) 1 0
      ≡ cond {A = ℕ} (ltb p.y (y + 1) && crosses p e) 1 0
  row_below p =
      ⊎_elim
      (λ is.
      let a = le-ltb p.y y (omega arith) in
      let b = eq-eqb p.y y is in
      let c = lt-ltb p.y (y + 1) (omega arith) in
      ap (λ t. cond {A = ℕ} (t && crosses p e) 1 0 + cond {A = ℕ} (eqb p.y y && ltb p.x column) 1 0) a
      ∙ ap (λ t. 0 + cond {A = ℕ} (t && ltb p.x column) 1 0) b ∙ (let z : 0 + cond {A = ℕ} (ltb p.x column) 1 0 ≡ cond {A = ℕ} (ltb p.x column) 1 0 = omega arith in z)
      ∙ ap (λ t. cond {A = ℕ} t 1 0) (sym (in_row p is)) ∙ sym (ap (λ t. cond {A = ℕ} (t && crosses p e) 1 0) c))
      (λ apart. ⊎_elim
      (λ lt.
      let a = lt-ltb p.y y lt in
      let b = ne_eqb p.y y (λ is. omega arith) in
      let c = lt-ltb p.y (y + 1) (omega arith) in
      ap (λ t. cond {A = ℕ} (t && crosses p e) 1 0 + cond {A = ℕ} (eqb p.y y && ltb p.x column) 1 0) a
      ∙ ap (λ t. cond {A = ℕ} (crosses p e) 1 0 + cond {A = ℕ} (t && ltb p.x column) 1 0) b
      ∙ (let z : cond {A = ℕ} (crosses p e) 1 0 + 0 ≡ cond {A = ℕ} (crosses p e) 1 0 = omega arith in z)
      ∙ sym (ap (λ t. cond {A = ℕ} (t && crosses p e) 1 0) c))
      (λ gt.
      let a = le-ltb p.y y (omega arith) in
      let b = ne_eqb p.y y (λ is. omega arith) in
      let c = le-ltb p.y (y + 1) (omega arith) in
      ap (λ t. cond {A = ℕ} (t && crosses p e) 1 0 + cond {A = ℕ} (eqb p.y y && ltb p.x column) 1 0) a
      ∙ ap (λ t. 0 + cond {A = ℕ} (t && ltb p.x column) 1 0) b ∙ sym (ap (λ t. cond {A = ℕ} (t && crosses p e) 1 0) c)) apart) (cases_order p.y y)

  pub row_above : (p : Pixel) → cond {A = ℕ} (leb (y + 1) p.y && crosses p e) 1 0 + cond {A = ℕ} (eqb p.y y && ltb p.x column) 1 0
      ≡ cond {A = ℕ} (leb y p.y && crosses p e) 1 0
  row_above p =
      ⊎_elim
      (λ is.
      let a = lt-leb (y + 1) p.y (omega arith) in
      let b = eq-eqb p.y y is in
      let c = le-leb y p.y (omega arith) in
      ap (λ t. cond {A = ℕ} (t && crosses p e) 1 0 + cond {A = ℕ} (eqb p.y y && ltb p.x column) 1 0) a
      ∙ ap (λ t. 0 + cond {A = ℕ} (t && ltb p.x column) 1 0) b ∙ (let z : 0 + cond {A = ℕ} (ltb p.x column) 1 0 ≡ cond {A = ℕ} (ltb p.x column) 1 0 = omega arith in z)
      ∙ ap (λ t. cond {A = ℕ} t 1 0) (sym (in_row p is)) ∙ sym (ap (λ t. cond {A = ℕ} (t && crosses p e) 1 0) c))
      (λ apart. ⊎_elim
      (λ lt.
      let a = lt-leb (y + 1) p.y (omega arith) in
      let b = ne_eqb p.y y (λ is. omega arith) in
      let c = lt-leb y p.y (omega arith) in
      ap (λ t. cond {A = ℕ} (t && crosses p e) 1 0 + cond {A = ℕ} (eqb p.y y && ltb p.x column) 1 0) a
      ∙ ap (λ t. 0 + cond {A = ℕ} (t && ltb p.x column) 1 0) b ∙ sym (ap (λ t. cond {A = ℕ} (t && crosses p e) 1 0) c))
      (λ gt.
      let a = le-leb (y + 1) p.y (omega arith) in
      let b = ne_eqb p.y y (λ is. omega arith) in
      let c = le-leb y p.y (omega arith) in
      ap (λ t. cond {A = ℕ} (t && crosses p e) 1 0 + cond {A = ℕ} (eqb p.y y && ltb p.x column) 1 0) a
      ∙ ap (λ t. cond {A = ℕ} (crosses p e) 1 0 + cond {A = ℕ} (t && ltb p.x column) 1 0) b
      ∙ (let z : cond {A = ℕ} (crosses p e) 1 0 + 0 ≡ cond {A = ℕ} (crosses p e) 1 0 = omega arith in z)
      ∙ sym (ap (λ t. cond {A = ℕ} (t && crosses p e) 1 0) c)) apart) (cases_order p.y y)

-- no pixel outside of its rows
pub not_above : (e : RingEdge) (p : Pixel) → p.y < e.top.y → crosses p e ≡ false
unfolding crosses
not_above e p lt = false_from_ne_true (crosses p e) (λ is. let low = (IsCrossed-from p (edge_of e) is).low in absurd (omega arith))

pub not_below : (e : RingEdge) (p : Pixel) → e.bottom.y ≤ p.y → crosses p e ≡ false
unfolding crosses
not_below e p le = false_from_ne_true (crosses p e) (λ is. let high = (IsCrossed-from p (edge_of e) is).high in absurd (omega arith))

pub before_first : (e : RingEdge) (p : Pixel) → (ltb p.y e.top.y && crosses p e) ≡ false
before_first e p =
    ⊎_elim (λ lt. and_right (ltb p.y e.top.y) (crosses p e) (not_above e p lt)) (λ le. and_left (ltb p.y e.top.y) (crosses p e) (le-ltb p.y e.top.y le))
    (cases_lt p.y e.top.y)

pub up_to_last : (e : RingEdge) (p : Pixel) (s end y : ℕ) → end ≡ min s e.bottom.y → end ≤ y → p.y < s → (ltb p.y y && crosses p e) ≡ crosses p e
up_to_last e p s end y is to inside =
    ⊎_elim (λ lt. ap (λ t. t && crosses p e) (lt-ltb p.y y lt))
    (λ le. let none = not_below e p (omega arith) in and_right (ltb p.y y) (crosses p e) none ∙ sym none) (cases_lt p.y y)

pub behind_last : (e : RingEdge) (p : Pixel) (s end : ℕ) → end ≡ min s e.bottom.y → p.y < s → (leb end p.y && crosses p e) ≡ false
behind_last e p s end is inside =
    ⊎_elim (λ lt. and_left (leb end p.y) (crosses p e) (lt-leb end p.y lt)) (λ le. and_right (leb end p.y) (crosses p e) (not_below e p (omega arith)))
    (cases_lt p.y end)

pub from_first : (e : RingEdge) (p : Pixel) (y : ℕ) → y ≤ e.top.y → (leb y p.y && crosses p e) ≡ crosses p e
from_first e p y from =
    ⊎_elim (λ lt. let none = not_above e p (omega arith) in and_right (leb y p.y) (crosses p e) none ∙ sym none)
    (λ le. ap (λ t. t && crosses p e) (le-leb y p.y le)) (cases_lt p.y y)

pub none_crosses : (e : RingEdge) (p : Pixel) → min e.bottom.y (p.y + 1) ≤ e.top.y → crosses p e ≡ false
none_crosses e p le = ⊎_elim (λ lt. not_above e p lt) (λ from. not_below e p (omega arith)) (cases_lt p.y e.top.y)
