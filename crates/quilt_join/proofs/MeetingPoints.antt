-- Where segments meet whose ends lie on both sides of each other's lines.
use Rattle.std.proofs.Common.{◌≡◌, ℕ, ◌+◌, ◌*◌, ◌<◌, arith, ap}
use Rattle.quilt_types.specs.declared.plane.Seg.{Seg}
use Rattle.quilt_types.specs.Crossings.{Share, IsOneCoordinate}
use Rattle.quilt_join.specs.Sides.{left_products, right_products}
use Rattle.quilt_join.proofs.SharedPoints.{on_is}

-- the differences of the cross products are one
pub crossed : (s r : Seg) →
    (left_products r s.x1 s.y1 + right_products r s.x2 s.y2) + (right_products s r.x2 r.y2 + left_products s r.x1 r.y1)
    ≡ (right_products r s.x1 s.y1 + left_products r s.x2 s.y2) + (left_products s r.x2 r.y2 + right_products s r.x1 r.y1)
crossed s r = omega arith

meeting : (a b c d e f g h : ℕ) → a * f + b * e ≡ c * h + d * g → e + f ≡ g + h →
    IsOneCoordinate a b (record { num = e; den = e + f }) c d (record { num = g; den = g + h })
meeting a b c d e f g h is same = omega (arith, ap (λ z. z * (g + h)) is, ap (λ z. (c * h + d * g) * z) same)

-- how far the ends are beyond the lines: those of the first segment by e and f, those of the second by g and h
pub record Beyond (s r : Seg) (e f g h : ℕ) : Type 0 where
  pub first : left_products r s.x1 s.y1 ≡ right_products r s.x1 s.y1 + e
  pub last : right_products r s.x2 s.y2 ≡ left_products r s.x2 s.y2 + f
  pub other_first : right_products s r.x1 r.y1 ≡ left_products s r.x1 r.y1 + g
  pub other_last : left_products s r.x2 r.y2 ≡ right_products s r.x2 r.y2 + h

-- the same for the other turn
pub record Behind (s r : Seg) (e f g h : ℕ) : Type 0 where
  pub first : right_products r s.x1 s.y1 ≡ left_products r s.x1 s.y1 + e
  pub last : left_products r s.x2 s.y2 ≡ right_products r s.x2 s.y2 + f
  pub other_first : left_products s r.x1 r.y1 ≡ right_products s r.x1 r.y1 + g
  pub other_last : right_products s r.x2 r.y2 ≡ left_products s r.x2 r.y2 + h

pub beyond_shares : (s r : Seg) (e f g h : ℕ) → Beyond s r e f g h → 0 < e + f → Share s r
beyond_shares s r e f g h b pos =
    let same : e + f ≡ g + h = omega (arith, crossed s r, b.first, b.last, b.other_first, b.other_last) in
    let x : s.x1 * f + s.x2 * e ≡ r.x1 * h + r.x2 * g =
    omega (arith, ap (λ z. s.x2 * z) b.first, ap (λ z. s.x1 * z) b.last, ap (λ z. r.x2 * z) b.other_first, ap (λ z. r.x1 * z) b.other_last) in
    let y : s.y1 * f + s.y2 * e ≡ r.y1 * h + r.y2 * g =
    omega (arith, ap (λ z. s.y2 * z) b.first, ap (λ z. s.y1 * z) b.last, ap (λ z. r.y2 * z) b.other_first, ap (λ z. r.y1 * z) b.other_last) in
    record {
      t = record { num = e; den = e + f };
      u = record { num = g; den = g + h };
      on_s = on_is e (e + f) pos (omega arith);
      on_r = on_is g (g + h) (omega arith) (omega arith);
      x = meeting s.x1 s.x2 r.x1 r.x2 e f g h x same;
      y = meeting s.y1 s.y2 r.y1 r.y2 e f g h y same;
    }

pub behind_shares : (s r : Seg) (e f g h : ℕ) → Behind s r e f g h → 0 < e + f → Share s r
behind_shares s r e f g h b pos =
    let same : e + f ≡ g + h = omega (arith, crossed s r, b.first, b.last, b.other_first, b.other_last) in
    let x : s.x1 * f + s.x2 * e ≡ r.x1 * h + r.x2 * g =
    omega (arith, ap (λ z. s.x2 * z) b.first, ap (λ z. s.x1 * z) b.last, ap (λ z. r.x2 * z) b.other_first, ap (λ z. r.x1 * z) b.other_last) in
    let y : s.y1 * f + s.y2 * e ≡ r.y1 * h + r.y2 * g =
    omega (arith, ap (λ z. s.y2 * z) b.first, ap (λ z. s.y1 * z) b.last, ap (λ z. r.y2 * z) b.other_first, ap (λ z. r.y1 * z) b.other_last) in
    record {
      t = record { num = e; den = e + f };
      u = record { num = g; den = g + h };
      on_s = on_is e (e + f) pos (omega arith);
      on_r = on_is g (g + h) (omega arith) (omega arith);
      x = meeting s.x1 s.x2 r.x1 r.x2 e f g h x same;
      y = meeting s.y1 s.y2 r.y1 r.y2 e f g h y same;
    }
