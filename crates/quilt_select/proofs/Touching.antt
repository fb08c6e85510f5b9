-- Where a segment meets the closed rectangle of a window it meets the closed square of one of the window's pixels.
use Rattle.std.proofs.Common.{◌≡◌, ℕ, zero, suc, ◌+◌, ◌-◌, ◌*◌, ◌<◌, ◌≤◌, true, ⊎_elim, subst, arith}
use Rattle.std.proofs.Math.Nat.{mul-le-mul_right}
use Rattle.std.proofs.lemmas.Bool.{cases_lt}
use Rattle.quilt_types.specs.declared.plane.Block.{Block}
use Rattle.quilt_types.specs.declared.plane.Pixel.{Pixel}
use Rattle.quilt_types.specs.declared.plane.Seg.{Seg}
use Rattle.quilt_types.specs.declared.plane.Window.{Window}
use Rattle.quilt_types.specs.Plane.{Holds}
use Rattle.quilt_types.specs.Fractions.{Fraction}
use Rattle.quilt_types.specs.Segments.{meets, square}
use Rattle.quilt_clip.specs.Spans.{Above, Below}
use Rattle.quilt_clip.proofs.Clips.{meets_law, on_if, on_then, inside_if, inside_then}

lower : (a b c d : ℕ) (t : Fraction) → d ≤ c → Above a b c t → Above a b d t
lower a b c d t le h = let f = h.fact in record { fact = omega (arith, f, mul-le-mul_right t.den le) }

higher : (a b c d : ℕ) (t : Fraction) → c ≤ d → Below a b c t → Below a b d t
higher a b c d t le h = let f = h.fact in record { fact = omega (arith, f, mul-le-mul_right t.den le) }

-- one of the unit steps from low to low + n has the point
record IsStep (a b low n : ℕ) (t : Fraction) (at : ℕ) : Type 0 where
  least : low ≤ at
  most : at < low + n
  above : Above a b at t
  below : Below a b (at + 1) t

step_at : (a b low k : ℕ) (t : Fraction) → Above a b low t → Below a b (low + suc k) t → (at : ℕ) × IsStep a b low (suc k) t at
step_at a b low zero t above below = (
  low,
  record {
    least = omega arith;
    most = omega arith;
    above = above;
    below = subst (λ c. Below a b c t) (let e : low + 1 ≡ low + 1 = omega arith in e) below;
  },
)
step_at a b low (suc k) t above below =
    ⊎_elim
    (λ lt.
    let next : low + suc (suc k) ≡ (low + 1) + suc k = omega arith in
    let r = step_at a b (low + 1) k t (record { fact = omega arith }) (subst (λ c. Below a b c t) next below) in
    let least = r.1.least in let most = r.1.most in
    (r.0, record { least = omega arith; most = omega arith; above = r.1.above; below = r.1.below }))
    (λ ge. (low, record { least = omega arith; most = omega arith; above = above; below = record { fact = ge } }))
    (cases_lt ((low + 1) * t.den + a * t.num) (a * t.den + b * t.num))

-- the pixel is one of the window's, and each block that holds it meets the segment
pub record IsTouched (s : Seg) (w : Window) (q : Pixel) : Type 0 where
  pub left : w.x ≤ q.x
  pub right : q.x < w.x + w.w
  pub top : w.y ≤ q.y
  pub bottom : q.y < w.y + w.h
  pub each : (b : Block) → Holds b q → meets s (square b) ≡ true

pub touched : (s : Seg) (w : Window) → 1 ≤ w.w → 1 ≤ w.h → meets s w ≡ true → (q : Pixel) × IsTouched s w q
touched s w wide high met =
    let at = (meets_law s w).0 met in
    let t = at.0 in
    let on = on_if t at.1 in
    let h = inside_if s w t at.2 in
    let across : w.x + w.w ≡ w.x + suc (w.w - 1) = omega arith in
    let down : w.y + w.h ≡ w.y + suc (w.h - 1) = omega arith in
    let cx = step_at s.x1 s.x2 w.x (w.w - 1) t h.left (subst (λ c. Below s.x1 s.x2 c t) across h.right) in
    let cy = step_at s.y1 s.y2 w.y (w.h - 1) t h.top (subst (λ c. Below s.y1 s.y2 c t) down h.bottom) in
    let xl = cx.1.least in let xm = cx.1.most in
    let yl = cy.1.least in let ym = cy.1.most in
    let q : Pixel = record { x = cx.0; y = cy.0 } in (
      q,
      record {
        left = xl;
        right = omega arith;
        top = yl;
        bottom = omega arith;
        each = λ b i.
            let il = i.left in let ir = i.right in let it = i.top in let ib = i.bottom in
            (meets_law s (square b)).1 (
              t,
              on_then t on,
              inside_then s (square b) t (record {
                left = lower s.x1 s.x2 cx.0 b.x t il cx.1.above;
                right = higher s.x1 s.x2 (cx.0 + 1) (b.x + b.side) t (omega arith) cx.1.below;
                top = lower s.y1 s.y2 cy.0 b.y t it cy.1.above;
                bottom = higher s.y1 s.y2 (cy.0 + 1) (b.y + b.side) t (omega arith) cy.1.below;
              }),
            );
      },
    )
