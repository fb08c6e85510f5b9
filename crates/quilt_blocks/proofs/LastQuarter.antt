-- The last four blocks of a list, where the last is the lower right quarter of a block and the others have its side and its colour.
use Rattle.std.proofs.Common.{IsTrue, not, nat_eq, ◌≡◌, ℕ, zero, suc, ◌+◌, ◌-◌, ◌*◌, ◌/◌, ◌%◌, ◌^◌, ◌<◌, ◌≤◌, ◌⊎◌, List, ◌++◌, length, get_or, take, inl, inr}
use Rattle.std.proofs.Common.{⊎_elim, refl, sym, ◌∙◌, ap, ap₂, subst, arith, pow-suc}
use Rattle.std.specs.Int.RustNames.{bit_and}
use Rattle.std.proofs.lemmas.Bool.{cases_lt}
use Rattle.std.proofs.lemmas.Bool.Decides.{nat_tests}
use Rattle.std.proofs.lemmas.Nat.{mod-pow-add, mod-mul-add, div-add-mod'}
use Rattle.std.proofs.lemmas.Nat.Bits.{and_pow}
use Rattle.std.proofs.lemmas.List.Elements.{Contains-get_or}
use Rattle.quilt_types.specs.declared.plane.Block.{Block}
use Rattle.quilt_types.specs.Plane.{side, parent_of, corner, IsBlock}
use Rattle.quilt_types.specs.Codes.{code}
use Rattle.quilt_loc.specs.Codes.{code_from}
use Rattle.quilt_loc.proofs.Blocks.{side_most}
use Rattle.quilt_loc.proofs.CodeLaws.{code_alone}
use Rattle.quilt_loc.proofs.Intervals.{half_codes}
use Rattle.quilt_loc.proofs.Nesting.{IsBlock-parent_of, side_pos}
use Rattle.quilt_loc.proofs.Quartered.{halved}
use Rattle.quilt_blocks.specs.declared.leaf.Leaf.{Leaf}
use Rattle.quilt_blocks.specs.Cutting.{leaf_pair}
use Rattle.quilt_blocks.specs.Listing.{Follows, EndsInQuarters, leaf_pairs}
use Rattle.quilt_blocks.proofs.Chains.{Follows-member, Follows-next}
use Rattle.quilt_blocks.proofs.Places.{pair_at}
use Rattle.quilt_blocks.proofs.Merging.{siblings, at_the_end, last_four_are, four_same}

-- ---- a step of one width in the second half of one of twice the width, by a bit
step_bit : (k x : ℕ) → x % 2 ^ k ≡ 0 → x % (2 * 2 ^ k) ≡ bit_and x (2 ^ k)
step_bit k x on =
    let e : 2 * 2 ^ k ≡ 2 ^ (1 + k) = (let p = pow-suc 2 k in let q = ap (λ i. 2 ^ i) (let r : 1 + k ≡ suc k = omega arith in r) in omega arith) in
    let m = mod-pow-add x 1 k in
    let a = and_pow x k in
    ap (λ z. x % z) e ∙ omega arith

bit_cases : (k x : ℕ) → (bit_and x (2 ^ k) ≡ 0) ⊎ (bit_and x (2 ^ k) ≡ 2 ^ k)
bit_cases k x =
    let a = and_pow x k in
    let q = x / 2 ^ k % 2 in
    ⊎_elim
    (λ lt. let z : q ≡ 0 = omega arith in let m : q * 2 ^ k ≡ 0 * 2 ^ k = ap (λ i. i * 2 ^ k) z in inl (omega arith))
    (λ ge. let z : q ≡ 1 = omega arith in let m : q * 2 ^ k ≡ 1 * 2 ^ k = ap (λ i. i * 2 ^ k) z in inr (omega arith))
    (cases_lt q 1)

-- what the bit of its side says of a coordinate of a block's corner
pub record HasBit (x s : ℕ) : Type 0 where
  pub rest : x % (2 * s) ≡ bit_and x s
  pub either : (bit_and x s ≡ 0) ⊎ (bit_and x s ≡ s)

pub has_bit : (k x s : ℕ) → s ≡ 2 ^ k → x % s ≡ 0 → HasBit x s
has_bit k x s e on =
    subst (HasBit x) (sym e) (record { rest = step_bit k x (ap (λ z. x % z) (sym e) ∙ on); either = bit_cases k x })

pub bit_is : (x s : ℕ) → HasBit x s → (bit_and x s ≡ 0 → ⊥) → x % (2 * s) ≡ s
bit_is x s h n = ⊎_elim (λ z. absurd (n z)) (λ e. h.rest ∙ e) h.either

pub set_is : (x s : ℕ) → HasBit x s → IsTrue (not (nat_eq (bit_and x s) 0)) → x % (2 * s) ≡ s
set_is x s h t = ⊎_elim (λ z. absurd (grind (arith, nat_tests))) (λ e. h.rest ∙ e) h.either

pub is_set : (x s : ℕ) → 0 < s → HasBit x s → x % (2 * s) ≡ s → IsTrue (not (nat_eq (bit_and x s) 0))
is_set x s pos h e = let r = h.rest in let n : bit_and x s ≡ 0 → ⊥ = λ z. omega arith in grind (arith, nat_tests)

-- ---- the last four blocks
same_block : (a b : Block) → a.x < 4096 → a.y < 4096 → b.x < 4096 → b.y < 4096 → a.side ≡ b.side → code_from a ≡ code_from b → a ≡ b
same_block a b ax ay bx by' s e =
    let c : corner a ≡ corner b = code_alone (corner a) (corner b) ax ay bx by' e in
    λ j. record { x = (c j).x; y = (c j).y; side = s j }

rest_le : (x m : ℕ) → x % m ≤ x
rest_le x m = let d = div-add-mod' x m in omega arith

-- the last four have one side and one colour, and the last is the lower right quarter of a block
pub record IsAlike (es : List (Block × ℕ)) (d : Block × ℕ) (k : ℕ) : Type 0 where
  pub x : (get_or es (k + 3) d).0.x % (2 * (get_or es (k + 3) d).0.side) ≡ (get_or es (k + 3) d).0.side
  pub y : (get_or es (k + 3) d).0.y % (2 * (get_or es (k + 3) d).0.side) ≡ (get_or es (k + 3) d).0.side
  pub sides : (j : ℕ) → j < 3 → (get_or es (k + j) d).0.side ≡ (get_or es (k + 3) d).0.side
  pub colours : (j : ℕ) → j < 3 → (get_or es (k + j) d).1 ≡ (get_or es (k + 3) d).1

-- the block that the last four make
abbrev pub made_of : Block × ℕ → Block × ℕ
made_of e = let b : Block = record { x = e.0.x - e.0.side; y = e.0.y - e.0.side; side = 2 * e.0.side } in (b, e.1)

module _ (n : ℕ) (le : n ≤ 12) (es : List (Block × ℕ)) (d : Block × ℕ) (k : ℕ) (long : k + 4 ≡ length es) (h : Follows n 0 es) (a : IsAlike es d k) where
  abbrev last : Block
  last = (get_or es (k + 3) d).0

  block_at : (i : ℕ) → i < length es → IsBlock n (get_or es i d).0
  block_at i lt = (Follows-member n 0 es (get_or es i d) h (Contains-get_or es i d lt)).block

  hl : IsBlock n last
  hl = block_at (k + 3) (omega arith)

  small : last.side < side n
  small = let x = a.x in let r = rest_le last.x (2 * last.side) in let ix = (hl).in_x in omega arith

  abbrev whole' : Block
  whole' = (made_of (get_or es (k + 3) d)).0

  hw : IsBlock n whole'
  hw =
      let ex : last.x - last.x % (2 * last.side) ≡ last.x - last.side = ap (λ z. last.x - z) a.x in
      let ey : last.y - last.y % (2 * last.side) ≡ last.y - last.side = ap (λ z. last.y - z) a.y in
      let is : parent_of last ≡ whole' = λ j. record { x = ex j; y = ey j; side = 2 * last.side } in
      subst (IsBlock n) is (IsBlock-parent_of n last hl small)

pub ends_in : (n : ℕ) → n ≤ 12 → (es : List (Block × ℕ)) (d : Block × ℕ) (k : ℕ) → k + 4 ≡ length es → Follows n 0 es → IsAlike es d k
    → EndsInQuarters n es (made_of (get_or es (k + 3) d))
ends_in n le es d k long h a =
    let e3 = get_or es (k + 3) d in
    let last = e3.0 in
    let s = last.side in
    let at = λ (i : ℕ) (lt : i < length es). let r : IsBlock n (get_or es i d).0 =
    (Follows-member n 0 es (get_or es i d) h (Contains-get_or es i d lt)).block in r in
    let hl = at (k + 3) (omega arith) in
    let pos = side_pos n last hl in
    let w = (made_of e3).0 in
    let hb : IsBlock n w = hw n le es d k long h a in
    let wide : 1 < w.side = omega arith in
    let half : w.side / 2 ≡ s = omega arith in
    let codes = half_codes n w hb le wide in
    let square : w.side / 2 * (w.side / 2) ≡ s * s = ap (λ z. z * z) half in
    let rx = rest_le last.x (2 * s) in
    let ry = rest_le last.y (2 * s) in
    let ax = a.x in
    let ay = a.y in
    let m = side_most n le in
    let ix = hl.in_x in
    let iy = hl.in_y in
    let x1 : w.x + w.side / 2 ≡ last.x = omega arith in
    let y1 : w.y + w.side / 2 ≡ last.y = omega arith in
    let c1 = codes.right in
    let c2 = codes.below in
    let c3 = codes.across in
    let across : code_from last ≡ code (w.x + w.side / 2) (w.y + w.side / 2) = ap₂ code (sym x1) (sym y1) in
    let z : k + 0 ≡ k = omega arith in
    let i1 : suc k ≡ k + 1 = omega arith in
    let i2 : suc (k + 1) ≡ k + 2 = omega arith in
    let i3 : suc (k + 2) ≡ k + 3 = omega arith in
    let n0 = Follows-next n 0 es k d h (omega arith) ∙ ap (λ i. code_from (get_or es i d).0) i1 in
    let n1 = Follows-next n 0 es (k + 1) d h (omega arith) ∙ ap (λ i. code_from (get_or es i d).0) i2 in
    let n2 = Follows-next n 0 es (k + 2) d h (omega arith) ∙ ap (λ i. code_from (get_or es i d).0) i3 in
    let s0 : (get_or es k d).0.side ≡ s = ap (λ i. (get_or es i d).0.side) (sym z) ∙ a.sides 0 (omega arith) in
    let s1 = a.sides 1 (omega arith) in
    let s2 = a.sides 2 (omega arith) in
    let v0 : (get_or es k d).0.side * (get_or es k d).0.side ≡ s * s = ap (λ t. t * t) s0 in
    let v1 : (get_or es (k + 1) d).0.side * (get_or es (k + 1) d).0.side ≡ s * s = ap (λ t. t * t) s1 in
    let v2 : (get_or es (k + 2) d).0.side * (get_or es (k + 2) d).0.side ≡ s * s = ap (λ t. t * t) s2 in
    let t0 : (get_or es k d).1 ≡ e3.1 = ap (λ i. (get_or es i d).1) (sym z) ∙ a.colours 0 (omega arith) in
    let t1 = a.colours 1 (omega arith) in
    let t2 = a.colours 2 (omega arith) in
    let is =
    λ (i : ℕ) (lt : i < length es) (q : Block) (sq : (get_or es i d).0.side ≡ q.side) (qx : q.x < 4096) (qy : q.y < 4096)
    (e : code_from (get_or es i d).0 ≡ code_from q) (t : (get_or es i d).1 ≡ e3.1).
    let b = at i lt in
    let bx = b.in_x in
    let by' = b.in_y in
    let r : get_or es i d ≡ (q, e3.1) = (let p = same_block (get_or es i d).0 q (omega arith) (omega arith) qx qy sq e in λ j. (p j, t j)) in r in
    let q = λ (x y : ℕ). let r : Block = record { x = x; y = y; side = w.side / 2 } in r in
    record {
      block = hb;
      wide = wide;
      front = take k es;
      split = last_four_are es d k long
          ∙ ap (λ l. take k es ++ l) (four_same _ _ _ _ _ _ _ _
          (is k (omega arith) (q w.x w.y) (omega arith) (omega arith) (omega arith) (omega arith) t0)
          (is (k + 1) (omega arith) (q (w.x + w.side / 2) w.y) (omega arith) (omega arith) (omega arith) (omega arith) t1)
          (is (k + 2) (omega arith) (q w.x (w.y + w.side / 2)) (omega arith) (omega arith) (omega arith) (omega arith) t2)
          (is (k + 3) (omega arith) (q (w.x + w.side / 2) (w.y + w.side / 2)) (omega arith) (omega arith) (omega arith) across refl));
    }

-- siblings at the end are alike
half_rest : (a h : ℕ) → 0 < h → a % (2 * h) ≡ 0 → (a + h) % (2 * h) ≡ h
half_rest a h p on =
    let dv = div-add-mod' a (2 * h) in
    let e : a + h ≡ a / (2 * h) * (2 * h) + h = omega arith in
    ap (λ z. z % (2 * h)) e ∙ mod-mul-add (a / (2 * h)) (2 * h) h (omega arith)

pub is_alike : (n : ℕ) (es : List (Block × ℕ)) (w d : Block × ℕ) (k : ℕ) → k + 4 ≡ length es → EndsInQuarters n es w → IsAlike es d k
is_alike n es w d k long q =
    let at = at_the_end n es w d k long q in
    let e = q.block.size in
    let wide = q.wide in
    let v = halved n w.0 q.block wide in
    let s = w.0.side / 2 in
    let p2 = pow-suc 2 v.0 in
    let v2 = v.2 in
    let v3 = v.3 in
    let twice : 2 * s ≡ w.0.side = omega arith in
    let f3 = at 3 (omega arith) in
    let x3 : (get_or es (k + 3) d).0.x ≡ w.0.x + s = ap (λ (z : Block × ℕ). z.0.x) f3 in
    let y3 : (get_or es (k + 3) d).0.y ≡ w.0.y + s = ap (λ (z : Block × ℕ). z.0.y) f3 in
    let s3 : (get_or es (k + 3) d).0.side ≡ s = ap (λ (z : Block × ℕ). z.0.side) f3 in
    let hx = half_rest w.0.x s (omega arith) (ap (λ z. w.0.x % z) twice ∙ q.block.on_x) in
    let hy = half_rest w.0.y s (omega arith) (ap (λ z. w.0.y % z) twice ∙ q.block.on_y) in
    record {
      x = ap₂ (λ u v. u % (2 * v)) x3 s3 ∙ hx ∙ sym s3;
      y = ap₂ (λ u v. u % (2 * v)) y3 s3 ∙ hy ∙ sym s3;
      sides = λ j lt. ap (λ (z : Block × ℕ). z.0.side) (at j (omega arith)) ∙ quarter_side j lt ∙ sym s3;
      colours = λ j lt. ap (λ (z : Block × ℕ). z.1) (at j (omega arith)) ∙ quarter_colour j lt ∙ sym (ap (λ (z : Block × ℕ). z.1) f3);
    }
  where
    quarter_side : (j : ℕ) → j < 3 → (get_or (siblings w) j d).0.side ≡ w.0.side / 2
    quarter_side zero lt = refl
    quarter_side (suc zero) lt = refl
    quarter_side (suc (suc zero)) lt = refl
    quarter_side (suc (suc (suc j))) lt = absurd (omega arith)

    quarter_colour : (j : ℕ) → j < 3 → (get_or (siblings w) j d).1 ≡ w.1
    quarter_colour zero lt = refl
    quarter_colour (suc zero) lt = refl
    quarter_colour (suc (suc zero)) lt = refl
    quarter_colour (suc (suc (suc j))) lt = absurd (omega arith)

-- ---- the same of leaves
module _ (items : List Leaf) (d : Leaf) where
  -- the leaf j places from the end has the side and the colour of the last one
  abbrev pub HasSame : ℕ → Type 0
  HasSame j = ((get_or items (length items - j) d).block.side ≡ (get_or items (length items - 1) d).block.side)
      × ((get_or items (length items - j) d).colour.0 ≡ (get_or items (length items - 1) d).colour.0)

  abbrev pub IsLast : Type 0
  IsLast =
      ((get_or items (length items - 1) d).block.x % (2 * (get_or items (length items - 1) d).block.side)
      ≡ (get_or items (length items - 1) d).block.side)
      × ((get_or items (length items - 1) d).block.y % (2 * (get_or items (length items - 1) d).block.side) ≡ (get_or items (length items - 1) d).block.side)

  module _ (long : 4 ≤ length items) where
    pub place : (j i : ℕ) → i < 4 → j + i ≡ 4 → get_or (leaf_pairs items) (length items - 4 + i) (leaf_pair d) ≡ leaf_pair (get_or items (length items - j) d)
    place j i lt e =
        let same : length items - 4 + i ≡ length items - j = omega arith in
        ap (λ z. get_or (leaf_pairs items) z (leaf_pair d)) same ∙ pair_at items (length items - j) d (omega arith)

    pub alike_from : IsLast → HasSame 2 → HasSame 3 → HasSame 4 → IsAlike (leaf_pairs items) (leaf_pair d) (length items - 4)
    alike_from l a b c =
        let p0 = place 4 0 (omega arith) refl in
        let p1 = place 3 1 (omega arith) refl in
        let p2 = place 2 2 (omega arith) refl in
        let p3 = place 1 3 (omega arith) refl in
        record {
          x = subst (λ (z : Block × ℕ). z.0.x % (2 * z.0.side) ≡ z.0.side) (sym p3) l.0;
          y = subst (λ (z : Block × ℕ). z.0.y % (2 * z.0.side) ≡ z.0.side) (sym p3) l.1;
          sides = sides p0 p1 p2 p3;
          colours = colours p0 p1 p2 p3;
        }
      where
        sides : get_or (leaf_pairs items) (length items - 4 + 0) (leaf_pair d) ≡ leaf_pair (get_or items (length items - 4) d)
            → get_or (leaf_pairs items) (length items - 4 + 1) (leaf_pair d) ≡ leaf_pair (get_or items (length items - 3) d)
            → get_or (leaf_pairs items) (length items - 4 + 2) (leaf_pair d) ≡ leaf_pair (get_or items (length items - 2) d)
            → get_or (leaf_pairs items) (length items - 4 + 3) (leaf_pair d) ≡ leaf_pair (get_or items (length items - 1) d)
            → (j : ℕ) → j < 3 → (get_or (leaf_pairs items) (length items - 4 + j) (leaf_pair d)).0.side
            ≡ (get_or (leaf_pairs items) (length items - 4 + 3) (leaf_pair d)).0.side
        sides p0 p1 p2 p3 zero lt = ap (λ (z : Block × ℕ). z.0.side) p0 ∙ c.0 ∙ sym (ap (λ (z : Block × ℕ). z.0.side) p3)
        sides p0 p1 p2 p3 (suc zero) lt = ap (λ (z : Block × ℕ). z.0.side) p1 ∙ b.0 ∙ sym (ap (λ (z : Block × ℕ). z.0.side) p3)
        sides p0 p1 p2 p3 (suc (suc zero)) lt = ap (λ (z : Block × ℕ). z.0.side) p2 ∙ a.0 ∙ sym (ap (λ (z : Block × ℕ). z.0.side) p3)
        sides p0 p1 p2 p3 (suc (suc (suc j))) lt = absurd (omega arith)

        colours : get_or (leaf_pairs items) (length items - 4 + 0) (leaf_pair d) ≡ leaf_pair (get_or items (length items - 4) d)
            → get_or (leaf_pairs items) (length items - 4 + 1) (leaf_pair d) ≡ leaf_pair (get_or items (length items - 3) d)
            → get_or (leaf_pairs items) (length items - 4 + 2) (leaf_pair d) ≡ leaf_pair (get_or items (length items - 2) d)
            → get_or (leaf_pairs items) (length items - 4 + 3) (leaf_pair d) ≡ leaf_pair (get_or items (length items - 1) d)
            → (j : ℕ) → j < 3 → (get_or (leaf_pairs items) (length items - 4 + j) (leaf_pair d)).1 ≡ (get_or (leaf_pairs items) (length items - 4 + 3) (leaf_pair d)).1
        colours p0 p1 p2 p3 zero lt = ap (λ (z : Block × ℕ). z.1) p0 ∙ c.1 ∙ sym (ap (λ (z : Block × ℕ). z.1) p3)
        colours p0 p1 p2 p3 (suc zero) lt = ap (λ (z : Block × ℕ). z.1) p1 ∙ b.1 ∙ sym (ap (λ (z : Block × ℕ). z.1) p3)
        colours p0 p1 p2 p3 (suc (suc zero)) lt = ap (λ (z : Block × ℕ). z.1) p2 ∙ a.1 ∙ sym (ap (λ (z : Block × ℕ). z.1) p3)
        colours p0 p1 p2 p3 (suc (suc (suc j))) lt = absurd (omega arith)

    pub last_from : IsAlike (leaf_pairs items) (leaf_pair d) (length items - 4) → IsLast
    last_from a =
        let p3 = place 1 3 (omega arith) refl in (
          subst (λ (z : Block × ℕ). z.0.x % (2 * z.0.side) ≡ z.0.side) p3 a.x,
          subst (λ (z : Block × ℕ). z.0.y % (2 * z.0.side) ≡ z.0.side) p3 a.y,
        )

    pub same_from : (j i : ℕ) → i < 3 → j + i ≡ 4 → IsAlike (leaf_pairs items) (leaf_pair d) (length items - 4) → HasSame j
    same_from j i lt e a =
        let p = place j i (omega arith) e in
        let p3 = place 1 3 (omega arith) refl in (
          sym (ap (λ (z : Block × ℕ). z.0.side) p) ∙ a.sides i lt ∙ ap (λ (z : Block × ℕ). z.0.side) p3,
          sym (ap (λ (z : Block × ℕ). z.1) p) ∙ a.colours i lt ∙ ap (λ (z : Block × ℕ). z.1) p3,
        )
