-- A segment meets a block exactly where it meets one of its quarters.
use Rattle.std.proofs.Common.{◌≡◌, ℕ, ◌+◌, ◌*◌, ◌/◌, ◌<◌, ◌≤◌, ◌⊎◌, true, ◌↔◌, inl, inr, ⊎_elim, refl, subst, arith, Contains, pow-suc}
use Rattle.std.proofs.Math.Nat.{mul-le-mul_right}
use Rattle.std.proofs.lemmas.Bool.{cases_lt}
use Rattle.quilt_types.specs.declared.plane.Block.{Block}
use Rattle.quilt_types.specs.declared.plane.Seg.{Seg}
use Rattle.quilt_types.specs.Fractions.{Fraction}
use Rattle.quilt_types.specs.Plane.{quarters_of, Within, IsBlock, Holds}
use Rattle.quilt_types.specs.Segments.{square, meets}
use Rattle.quilt_clip.specs.Spans.{Above, Below, Inside}
use Rattle.quilt_clip.proofs.Clips.{inside_if, inside_then, meets_law}
use Rattle.quilt_loc.proofs.Quartered.{quarters_are, halved}

-- a point of the segment in the closed square of a block lies in that of a larger one
inside_within : (s : Seg) (a b : Block) (t : Fraction) → Within a b → Inside s (square a) t → Inside s (square b) t
inside_within s a b t w i =
    let l = i.left.fact in
    let r = i.right.fact in
    let u = i.top.fact in
    let d = i.bottom.fact in
    record {
      left = record { fact = omega (arith, mul-le-mul_right t.den w.left) };
      right = record { fact = omega (arith, mul-le-mul_right t.den w.right) };
      top = record { fact = omega (arith, mul-le-mul_right t.den w.top) };
      bottom = record { fact = omega (arith, mul-le-mul_right t.den w.bottom) };
    }

pub meets_within : (s : Seg) (a b : Block) → Within a b → meets s (square a) ≡ true → meets s (square b) ≡ true
meets_within s a b w h =
    let m = (meets_law s (square a)).0 h in
    (meets_law s (square b)).1 (m.0, m.1, inside_then s (square b) m.0 (inside_within s a b m.0 w (inside_if s (square a) m.0 m.2)))

-- in one direction: the point lies in the first half or in the second
record Half (a b low high : ℕ) (t : Fraction) : Type 0 where
  above : Above a b low t
  below : Below a b high t

halves : (a b low h : ℕ) (t : Fraction) → Above a b low t → Below a b (low + 2 * h) t → Half a b low (low + h) t ⊎ Half a b (low + h) (low + h + h) t
halves a b low h t above below =
    let l = above.fact in
    let r = below.fact in
    ⊎_elim
    (λ lt. inl (record { above = above; below = record { fact = omega arith } }))
    (λ ge. inr (record { above = record { fact = ge }; below = record { fact = omega arith } }))
    (cases_lt (a * t.den + b * t.num) ((low + h) * t.den + a * t.num))

-- Where a segment meets a block of more than one pixel it meets a quarter.
pub meets_quarter : (n : ℕ) (s : Seg) (b : Block) → IsBlock n b → 1 < b.side → meets s (square b) ≡ true → (q : Block) × Contains (quarters_of b) q
    × (meets s (square q) ≡ true)
meets_quarter n s b hb wide e =
    let m = (meets_law s (square b)).0 e in
    let t = m.0 in
    let i = inside_if s (square b) t m.2 in
    let h = b.side / 2 in
    let v = halved n b hb wide in
    let p2 = pow-suc 2 v.0 in
    let full = v.2 in
    let half = v.3 in
    let twice : b.side ≡ 2 * h = omega arith in
    let right = λ (c d low : ℕ) (k : Below c d (low + b.side) t). subst (λ (z : ℕ). Below c d (low + z) t) twice k in
    let x = halves s.x1 s.x2 b.x h t i.left (right s.x1 s.x2 b.x i.right) in
    let y = halves s.y1 s.y2 b.y h t i.top (right s.y1 s.y2 b.y i.bottom) in
    let made = λ (k : ℕ) (q : Block) (c : Contains (quarters_of b) q) (hx : Half s.x1 s.x2 q.x (q.x + q.side) t) (hy : Half s.y1 s.y2 q.y (q.y + q.side) t).
    let met : meets s (square q) ≡ true =
    (meets_law s (square q)).1 (t, m.1, inside_then s (square q) t (record { left = hx.above; right = hx.below; top = hy.above; bottom = hy.below })) in
    let all : (q : Block) × Contains (quarters_of b) q × (meets s (square q) ≡ true) = (q, c, met) in all in
    let one = λ (px py : ℕ). let q : Block = record { x = px; y = py; side = h } in q in
    ⊎_elim
    (λ hx. ⊎_elim
    (λ hy. made 0 (one b.x b.y) (0, omega arith, refl) hx hy)
    (λ hy. made 2 (one b.x (b.y + h)) (2, omega arith, refl) hx hy) y)
    (λ hx. ⊎_elim
    (λ hy. made 1 (one (b.x + h) b.y) (1, omega arith, refl) hx hy)
    (λ hy. made 3 (one (b.x + h) (b.y + h)) (3, omega arith, refl) hx hy) y) x

-- The same the other way round: one of the quarters is met exactly where the block is.
pub meets_parts : (n : ℕ) (s : Seg) (b : Block) → IsBlock n b → 1 < b.side
    → (meets s (square b) ≡ true) ↔ ((q : Block) × Contains (quarters_of b) q × (meets s (square q) ≡ true))
meets_parts n s b hb wide = (
  λ e. meets_quarter n s b hb wide e,
  λ w. meets_within s w.0 b (quarters_are n b w.0 hb wide w.1).within w.2,
)

-- ---- ends
end_between : (a b low high : ℕ) → low ≤ a → a ≤ high → Above a b low (record { num = 0; den = 1 }) × Below a b high (record { num = 0; den = 1 })
end_between a b low high l h = (record { fact = omega arith }, record { fact = omega arith })

last_between : (a b low high : ℕ) → low ≤ b → b ≤ high → Above a b low (record { num = 1; den = 1 }) × Below a b high (record { num = 1; den = 1 })
last_between a b low high l h = (record { fact = omega arith }, record { fact = omega arith })

-- a segment meets each block that holds one of its ends
pub first_end : (s : Seg) (b : Block) → Holds b (record { x = s.x1; y = s.y1 }) → meets s (square b) ≡ true
first_end s b h =
    let l = h.left in
    let r = h.right in
    let u = h.top in
    let d = h.bottom in
    let t : Fraction = record { num = 0; den = 1 } in
    let x = end_between s.x1 s.x2 b.x (b.x + b.side) (omega arith) (omega arith) in
    let y = end_between s.y1 s.y2 b.y (b.y + b.side) (omega arith) (omega arith) in
    (meets_law s (square b)).1 (t, refl, inside_then s (square b) t (record { left = x.0; right = x.1; top = y.0; bottom = y.1 }))

pub last_end : (s : Seg) (b : Block) → Holds b (record { x = s.x2; y = s.y2 }) → meets s (square b) ≡ true
last_end s b h =
    let l = h.left in
    let r = h.right in
    let u = h.top in
    let d = h.bottom in
    let t : Fraction = record { num = 1; den = 1 } in
    let x = last_between s.x1 s.x2 b.x (b.x + b.side) (omega arith) (omega arith) in
    let y = last_between s.y1 s.y2 b.y (b.y + b.side) (omega arith) (omega arith) in
    (meets_law s (square b)).1 (t, refl, inside_then s (square b) t (record { left = x.0; right = x.1; top = y.0; bottom = y.1 }))
