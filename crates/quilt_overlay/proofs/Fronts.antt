-- The last leaves of two walks that have one code: the smaller one lies in the larger.
use Rattle.std.proofs.Common.{◌≡◌, ℕ, ◌^◌, ◌<◌, ◌≤◌, ◌⊎◌, inl, inr, ⊎_elim, Option, Some, None, refl, sym, ◌∙◌, ap, subst, arith}
use Rattle.std.specs.Option.{option_zip}
use Rattle.quilt_types.specs.declared.plane.Pixel.{Pixel}
use Rattle.quilt_types.specs.declared.plane.Block.{Block}
use Rattle.quilt_types.specs.Plane.{Holds, IsBlock}
use Rattle.quilt_types.specs.Layers.{Grid, colour_at}
use Rattle.quilt_types.specs.Algebra.{grid_of}
use Rattle.quilt_loc.specs.Codes.{code_from, code_to}
use Rattle.quilt_blocks.specs.declared.leaf.Leaf.{Leaf}
use Rattle.quilt_blocks.specs.Mosaic.{HasColour}
use Rattle.quilt_blocks.specs.Walk.{LeafWalk}
use Rattle.quilt_blocks.proofs.Inside.{smaller_inside, codes_inside}
use Rattle.quilt_blocks.proofs.Paired.{zip_some, zip_none}
use Rattle.quilt_overlay.specs.declared.operation.Op.{Op}
use Rattle.quilt_overlay.specs.declared.operation.Op.TheVariants.{Union, Inter, Diff}
use Rattle.quilt_overlay.specs.Combining.{combined, overlaid}
use Rattle.quilt_overlay.specs.Fronts.{HasCode, StandsAtCode, IsPassed}

-- it begins at the code where one of the two does
pub smaller_begins : (n : ℕ) (a b : Block) (at : ℕ) → n ≤ 12 → IsBlock n a → IsBlock n b → a.side ≤ b.side → code_from a ≤ at → at < code_to a
    → code_from b ≤ at → at < code_to b
    → (code_from a ≡ at) ⊎ (code_from b ≡ at) → code_from a ≡ at
smaller_begins n a b at le ha hb small af at' bf bt start =
    let r = smaller_inside n a b at le ha hb small af at' bf bt in
    let low = r.0 in
    ⊎_elim (λ e. e) (λ e. omega arith) start

colour_in : (w : LeafWalk) (n : ℕ) (g : Grid) {code next : ℕ} (l : Leaf) → w.level ≡ n → w.grid ≡ g → HasCode n g code next l
    → HasColour w.level w.grid l.block l.colour.0
colour_in w n g l el eg h =
    subst (λ (i : Grid). HasColour w.level i l.block l.colour.0) (sym eg) (subst (λ (k : ℕ). HasColour k g l.block l.colour.0) (sym el) h.colour)

-- the block that the walks pass next: it begins at the code, lies in both leaves and ends where one of them does
pub record IsStep (n at : ℕ) (a b s : Block) : Type 0 where
  pub block : IsBlock n s
  pub begins : code_from s ≡ at
  pub more : at < code_to s
  pub in_first : code_to s ≤ code_to a
  pub in_second : code_to s ≤ code_to b
  pub ends : (code_to a ≡ code_to s) ⊎ (code_to b ≡ code_to s)

module _ (n : ℕ) (at : ℕ) (a b : Block) (le : n ≤ 12) (ha : IsBlock n a) (hb : IsBlock n b) (af : code_from a ≤ at) (at' : at < code_to a)
    (bf : code_from b ≤ at) (bt : at < code_to b) (start : (code_from a ≡ at) ⊎ (code_from b ≡ at)) where
  first_is : a.side ≤ b.side → IsStep n at a b a
  first_is small =
      let r = smaller_inside n a b at le ha hb small af at' bf bt in
      record {
        block = ha;
        begins = smaller_begins n a b at le ha hb small af at' bf bt start;
        more = at';
        in_first = omega arith;
        in_second = r.1;
        ends = inl refl;
      }

  second_is : b.side ≤ a.side → IsStep n at a b b
  second_is small =
      let r = smaller_inside n b a at le hb ha small bf bt af at' in
      record {
        block = hb;
        begins = smaller_begins n b a at le hb ha small bf bt af at' (⊎_elim (λ e. inr e) (λ e. inl e) start);
        more = bt;
        in_first = r.1;
        in_second = omega arith;
        ends = inr refl;
      }

  pub step_is : (s : Block) → (s ≡ a) ⊎ (s ≡ b) → s.side ≤ a.side → s.side ≤ b.side → IsStep n at a b s
  step_is s one small_a small_b =
      ⊎_elim
      (λ e. let k = ap (λ (z : Block). z.side) e in subst (IsStep n at a b) (sym e) (first_is (omega arith)))
      (λ e. let k = ap (λ (z : Block). z.side) e in subst (IsStep n at a b) (sym e) (second_is (omega arith))) one

-- what a step of the walks over two grids is
module _ (n : ℕ) (ga gb : Grid) (at : ℕ) (first second : Option Leaf) (wa wb : LeafWalk) (le : n ≤ 12) (fa : StandsAtCode n ga at first wa)
    (fb : StandsAtCode n gb at second wb)
    (starts : (p q : Leaf) → first ≡ Some p → second ≡ Some q → (code_from p.block ≡ at) ⊎ (code_from q.block ≡ at)) where
  module _ (p q : Leaf) (z : option_zip first second ≡ Some (p, q)) where
    pub at_first : HasCode n ga at wa.at p
    at_first = fa.here p (zip_some first second p q z).0

    pub at_second : HasCode n gb at wb.at q
    at_second = fb.here q (zip_some first second p q z).1

    pub step_of : (s : Block) → (s ≡ p.block) ⊎ (s ≡ q.block) → s.side ≤ p.block.side → s.side ≤ q.block.side → IsStep n at p.block q.block s
    step_of s one small_a small_b =
        let e = zip_some first second p q z in
        let a = at_first in
        let b = at_second in
        step_is n at p.block q.block le a.block b.block a.from a.to b.from b.to (starts p q e.0 e.1) s one small_a small_b

    -- the colour of each pixel of the block
    pub colour_of : (op : Op) (s : Block) (c : ℕ) → IsStep n at p.block q.block s → c ≡ combined op p.colour.0 q.colour.0 → (x : Pixel) → Holds s x
        → combined op (colour_at n ga x) (colour_at n gb x) ≡ c
    colour_of op s c st e x held =
        let a = at_first in
        let b = at_second in
        let begins = st.begins in
        let af = a.from in
        let bf = b.from in
        let ea = a.colour.each x (codes_inside n s p.block x le st.block a.block (omega arith) st.in_first held) in
        let eb = b.colour.each x (codes_inside n s q.block x le st.block b.block (omega arith) st.in_second held) in
        ap (λ i. combined op i (colour_at n gb x)) ea ∙ ap (combined op p.colour.0) eb ∙ sym e

    pub passed_first : (s : Block) (code : ℕ) → code ≡ code_to s → IsStep n at p.block q.block s → IsPassed wa code p
    passed_first s code e st =
        let a = at_first in
        let more = st.more in
        let inside = st.in_first in
        let af = a.from in
        let l = fa.level in
        record {
          most = omega arith;
          block = subst (λ (k : ℕ). IsBlock k p.block) (sym l) a.block;
          from = omega arith;
          to = omega arith;
          last = a.last;
          colour = colour_in wa n ga p l fa.grid a;
        }

    pub passed_second : (s : Block) (code : ℕ) → code ≡ code_to s → IsStep n at p.block q.block s → IsPassed wb code q
    passed_second s code e st =
        let b = at_second in
        let more = st.more in
        let inside = st.in_second in
        let bf = b.from in
        let l = fb.level in
        record {
          most = omega arith;
          block = subst (λ (k : ℕ). IsBlock k q.block) (sym l) b.block;
          from = omega arith;
          to = omega arith;
          last = b.last;
          colour = colour_in wb n gb q l fb.grid b;
        }

  pub both_over : option_zip first second ≡ None → at ≡ 4 ^ n
  both_over z = ⊎_elim fa.over fb.over (zip_none first second z)

-- the same with equal numbers
pub IsFront-at : (n m : ℕ) (g h : Grid) (k j : ℕ) (leaf : Option Leaf) (w : LeafWalk) → n ≡ m → g ≡ h → k ≡ j → StandsAtCode n g k leaf w → StandsAtCode m h j leaf w
IsFront-at n m g h k j leaf w en eg ek f =
    subst (λ (i : ℕ). StandsAtCode m h i leaf w) ek (subst (λ (i : Grid). StandsAtCode m i k leaf w) eg (subst (λ (i : ℕ). StandsAtCode i g k leaf w) en f))

-- the grid pixel by pixel
pub overlaid_is : (op : Op) (n : ℕ) (a b : Grid) → grid_of n (λ p. combined op (colour_at n a p) (colour_at n b p)) ≡ overlaid op n a b
overlaid_is Union n a b = refl
overlaid_is Inter n a b = refl
overlaid_is Diff n a b = refl
