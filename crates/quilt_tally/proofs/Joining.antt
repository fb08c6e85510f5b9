-- The leaves of a block by those of its quarters.
use Rattle.std.proofs.Common.{◌≡◌, ℕ, zero, suc, ◌+◌, ◌/◌, ◌^◌, ◌<◌, ◌≤◌, Bool, true, false, cond, ⊎_elim, List, [], ◌∷◌, ◌++◌, length, flat_map, Contains, refl, sym, ◌∙◌, ap, subst, arith, length-append, pow-suc}
use Rattle.std.proofs.lemmas.Bool.{cases_lt, true≢false, false_from_ne_true}
use Rattle.std.proofs.lemmas.List.{length-map}
use Rattle.quilt_types.proofs.CodeLaws.{pow_same}
use Rattle.quilt_types.specs.declared.plane.Block.{Block}
use Rattle.quilt_types.specs.declared.plane.Colour.{Colour}
use Rattle.quilt_types.specs.Plane.{side, corner, whole, quarters_of, IsBlock, Within}
use Rattle.quilt_types.specs.Layers.{Grid, colour_at}
use Rattle.quilt_types.specs.Quadtrees.{is_uniform, coloured}
use Rattle.quilt_loc.proofs.Quartered.{IsQuarter, IsBlock-whole, quarters_are, halved}
use Rattle.quilt_loc.proofs.Members.{Contains-nil, Contains-cons_cases}
use Rattle.quilt_blocks.specs.Cutting.{cut, leaves_by_code}
use Rattle.quilt_blocks.specs.Mosaic.{HasColour}
use Rattle.quilt_blocks.proofs.Colours.{HasColour-from_uniform, uniform-from_HasColour, HasColour-within, colour_is}
use Rattle.quilt_tally.specs.declared.tally.Tally.{Tally}
use Rattle.quilt_tally.specs.declared.tally.Tally.TheVariants.{One, Many}
use Rattle.quilt_tally.specs.Tallies.{size_of, HasLeaves, IsTally, AreTallies}

-- a part of a block of one colour is one leaf of it
part_of_one : (n : ℕ) (g : Grid) (b q : Block) (t : Tally) → IsBlock n q → Within q b → is_uniform n g b ≡ true → IsTally n g q t
    → t ≡ One (record { 0 = colour_at n g (corner b) })
part_of_one n g b q (One c) hq w u is =
    let a = colour_is n g q c.0 hq is in
    let d = colour_is n g q (colour_at n g (corner b)) hq (HasColour-within n g q b (colour_at n g (corner b)) w (HasColour-from_uniform n g b u)) in
    let e : c.0 ≡ colour_at n g (corner b) = sym a ∙ d in
    λ i. One (record { 0 = e i })
part_of_one n g b q (Many k) hq w u is =
    absurd (true≢false (sym (uniform-from_HasColour n g q (colour_at n g (corner b)) hq
    (HasColour-within n g q b (colour_at n g (corner b)) w (HasColour-from_uniform n g b u))) ∙ is.mixed))

-- how many blocks the cuts of a part give
cuts_of_one : (n : ℕ) (g : Grid) (q : Block) (k : ℕ) → is_uniform n g q ≡ true → length (cut (is_uniform n g) k q) ≡ 1
cuts_of_one n g q zero u = refl
cuts_of_one n g q (suc k) u = ap (λ t. length (cond t (q ∷ []) (flat_map (cut (is_uniform n g) k) (quarters_of q)))) u

pub cuts_of : (n : ℕ) (g : Grid) (q : Block) (t : Tally) (k : ℕ) → IsBlock n q → q.side ≡ side k → IsTally n g q t
    → length (cut (is_uniform n g) k q) ≡ size_of t
cuts_of n g q (One c) k hq s is = cuts_of_one n g q k (uniform-from_HasColour n g q c.0 hq is)
cuts_of n g q (Many m) k hq s is = is.leaves.cut_into k s

pub four_lengths : (us vs ws xs : List Block) → length (us ++ (vs ++ (ws ++ (xs ++ [])))) ≡ length us + length vs + length ws + length xs
four_lengths us vs ws xs =
    let a = length-append us (vs ++ (ws ++ (xs ++ []))) in
    let b = length-append vs (ws ++ (xs ++ [])) in
    let c = length-append ws (xs ++ []) in
    let d = length-append {A = Block} xs [] in
    let none : length {A = Block} [] ≡ 0 = refl in
    omega arith

module _ (n : ℕ) (g : Grid) (b : Block) (hb : IsBlock n b) (wide : 1 < b.side) (first second third last : Tally)
    (ts : AreTallies n g b first second third last) where
  quarter : (j : ℕ) (q : Block) → Contains (quarters_of b) q → IsQuarter n b q
  quarter j q c = quarters_are n b q hb wide c

  -- four leaves of one colour
  pub joined_one : (c : Colour) → first ≡ One c → second ≡ One c → third ≡ One c → last ≡ One c → HasColour n g b c.0
  joined_one c e0 e1 e2 e3 =
      let h = b.side / 2 in
      let half = (quarter 0 (record { x = b.x; y = b.y; side = b.side / 2 }) (0, omega arith, refl)).half in
      let h0 : HasColour n g (record { x = b.x; y = b.y; side = b.side / 2 }) c.0 = subst (IsTally n g _) e0 ts.upper_left in
      let h1 : HasColour n g (record { x = b.x + b.side / 2; y = b.y; side = b.side / 2 }) c.0 = subst (IsTally n g _) e1 ts.upper_right in
      let h2 : HasColour n g (record { x = b.x; y = b.y + b.side / 2; side = b.side / 2 }) c.0 = subst (IsTally n g _) e2 ts.lower_left in
      let h3 : HasColour n g (record { x = b.x + b.side / 2; y = b.y + b.side / 2; side = b.side / 2 }) c.0 = subst (IsTally n g _) e3 ts.lower_right in
      record {
        each = λ p m.
            let l = m.left in
            let r = m.right in
            let t = m.top in
            let d = m.bottom in
            ⊎_elim
            (λ above. ⊎_elim (λ left. h0.each p (record { left = omega arith; right = omega arith; top = omega arith; bottom = omega arith }))
            (λ right. h1.each p (record { left = omega arith; right = omega arith; top = omega arith; bottom = omega arith })) (cases_lt p.x (b.x + b.side / 2)))
            (λ below. ⊎_elim (λ left. h2.each p (record { left = omega arith; right = omega arith; top = omega arith; bottom = omega arith }))
            (λ right. h3.each p (record { left = omega arith; right = omega arith; top = omega arith; bottom = omega arith })) (cases_lt p.x (b.x + b.side / 2)))
            (cases_lt p.y (b.y + b.side / 2));
      }

  -- any others
  pub joined_mixed : ((c : Colour) → first ≡ One c → second ≡ One c → third ≡ One c → last ≡ One c → ⊥) → is_uniform n g b ≡ false
  joined_mixed differ =
      let i0 = quarter 0 (record { x = b.x; y = b.y; side = b.side / 2 }) (0, omega arith, refl) in
      let i1 = quarter 1 (record { x = b.x + b.side / 2; y = b.y; side = b.side / 2 }) (1, omega arith, refl) in
      let i2 = quarter 2 (record { x = b.x; y = b.y + b.side / 2; side = b.side / 2 }) (2, omega arith, refl) in
      let i3 = quarter 3 (record { x = b.x + b.side / 2; y = b.y + b.side / 2; side = b.side / 2 }) (3, omega arith, refl) in
      false_from_ne_true (is_uniform n g b) (λ u.
      differ (record { 0 = colour_at n g (corner b) })
      (part_of_one n g b (record { x = b.x; y = b.y; side = b.side / 2 }) first i0.block i0.within u ts.upper_left)
      (part_of_one n g b (record { x = b.x + b.side / 2; y = b.y; side = b.side / 2 }) second i1.block i1.within u ts.upper_right)
      (part_of_one n g b (record { x = b.x; y = b.y + b.side / 2; side = b.side / 2 }) third i2.block i2.within u ts.lower_left)
      (part_of_one n g b (record { x = b.x + b.side / 2; y = b.y + b.side / 2; side = b.side / 2 }) last i3.block i3.within u ts.lower_right))

  sum_at : (k : ℕ) → b.side / 2 ≡ 2 ^ k → is_uniform n g b ≡ false
      → length (cut (is_uniform n g) (suc k) b) ≡ size_of first + size_of second + size_of third + size_of last
  sum_at k half mixed =
      let f = cut (is_uniform n g) k in
      let i0 = quarter 0 (record { x = b.x; y = b.y; side = b.side / 2 }) (0, omega arith, refl) in
      let i1 = quarter 1 (record { x = b.x + b.side / 2; y = b.y; side = b.side / 2 }) (1, omega arith, refl) in
      let i2 = quarter 2 (record { x = b.x; y = b.y + b.side / 2; side = b.side / 2 }) (2, omega arith, refl) in
      let i3 = quarter 3 (record { x = b.x + b.side / 2; y = b.y + b.side / 2; side = b.side / 2 }) (3, omega arith, refl) in
      let c0 = cuts_of n g (record { x = b.x; y = b.y; side = b.side / 2 }) first k i0.block half ts.upper_left in
      let c1 = cuts_of n g (record { x = b.x + b.side / 2; y = b.y; side = b.side / 2 }) second k i1.block half ts.upper_right in
      let c2 = cuts_of n g (record { x = b.x; y = b.y + b.side / 2; side = b.side / 2 }) third k i2.block half ts.lower_left in
      let c3 = cuts_of n g (record { x = b.x + b.side / 2; y = b.y + b.side / 2; side = b.side / 2 }) last k i3.block half ts.lower_right in
      ap (λ t. length (cond t (b ∷ []) (flat_map f (quarters_of b)))) mixed
      ∙ four_lengths (f (record { x = b.x; y = b.y; side = b.side / 2 })) (f (record { x = b.x + b.side / 2; y = b.y; side = b.side / 2 }))
      (f (record { x = b.x; y = b.y + b.side / 2; side = b.side / 2 })) (f (record { x = b.x + b.side / 2; y = b.y + b.side / 2; side = b.side / 2 }))
      ∙ (let z : length (f (record { x = b.x; y = b.y; side = b.side / 2 })) + length (f (record { x = b.x + b.side / 2; y = b.y; side = b.side / 2 }))
      + length (f (record { x = b.x; y = b.y + b.side / 2; side = b.side / 2 }))
      + length (f (record { x = b.x + b.side / 2; y = b.y + b.side / 2; side = b.side / 2 }))
      ≡ size_of first + size_of second + size_of third + size_of last = omega arith in z)

  pub joined_leaves : is_uniform n g b ≡ false → HasLeaves n g b (size_of first + size_of second + size_of third + size_of last)
  joined_leaves mixed = record { cut_into = go }
    where
      go : (j : ℕ) → b.side ≡ 2 ^ j → length (cut (is_uniform n g) j b) ≡ size_of first + size_of second + size_of third + size_of last
      go zero s = absurd (omega arith)
      go (suc k) s =
          let p = pow-suc 2 k in
          let half : b.side / 2 ≡ 2 ^ k = omega arith in
          sum_at k half mixed

  -- the number of leaves is one alone
  pub joined_count : (k : ℕ) → is_uniform n g b ≡ false → HasLeaves n g b k → k ≡ size_of first + size_of second + size_of third + size_of last
  joined_count k mixed has = sym (has.cut_into hb.level hb.size) ∙ (joined_leaves mixed).cut_into hb.level hb.size

-- a part has no more leaves than the whole
le_flat : (f : Block → List Block) (bs : List Block) (q : Block) → Contains bs q → length (f q) ≤ length (flat_map f bs)
le_flat f [] q c = absurd (Contains-nil q c)
le_flat f (b ∷ bs) q c =
    let sum = length-append (f b) (flat_map f bs) in
    ⊎_elim (λ is. let same = ap (λ r. length (f r)) is in omega arith) (λ more. let le = le_flat f bs q more in omega arith) (Contains-cons_cases b bs q c)

cuts_most : (n : ℕ) (g : Grid) (b q : Block) (k : ℕ) → IsBlock n b → IsBlock n q → Within q b → Contains (quarters_of b) q
    → length (cut (is_uniform n g) k q) ≤ length (cut (is_uniform n g) (suc k) b)
cuts_most n g b q k hb hq w c = go (is_uniform n g b) refl
  where
    go : (t : Bool) → is_uniform n g b ≡ t
        → length (cut (is_uniform n g) k q) ≤ length (cond t (b ∷ []) (flat_map (cut (is_uniform n g) k) (quarters_of b)))
    go true u =
        let one = cuts_of_one n g q k (uniform-from_HasColour n g q (colour_at n g (corner b)) hq
        (HasColour-within n g q b (colour_at n g (corner b)) w (HasColour-from_uniform n g b u))) in
        let whole : length (b ∷ []) ≡ 1 = refl in
        omega arith
    go false u = le_flat (cut (is_uniform n g) k) (quarters_of b) q c

pub part_over : (n : ℕ) (g : Grid) (b q : Block) (most : ℕ) → IsBlock n b → 1 < b.side → Contains (quarters_of b) q
    → ((k : ℕ) → HasLeaves n g q k → most < k) → (k : ℕ) → HasLeaves n g b k → most < k
part_over n g b q most hb wide c over k has =
    let v = halved n b hb wide in
    let i = quarters_are n b q hb wide c in
    let half = i.half in
    let p = pow-suc 2 v.0 in
    let e = v.2 in
    let size : q.side ≡ 2 ^ v.0 = omega arith in
    let leaves : HasLeaves n g q (length (cut (is_uniform n g) v.0 q)) = record {
      cut_into = λ j s. ap (λ l. length (cut (is_uniform n g) l q)) (pow_same j v.0 (sym s ∙ size));
    } in
    let lt = over (length (cut (is_uniform n g) v.0 q)) leaves in
    let le = cuts_most n g b q v.0 hb i.block i.within c in
    let all = has.cut_into (suc v.0) v.2 in
    omega arith

-- a block of one colour is one leaf
pub one_leaf : (n : ℕ) (g : Grid) (b : Block) (c k : ℕ) → IsBlock n b → HasColour n g b c → HasLeaves n g b k → k ≡ 1
one_leaf n g b c k hb h has = sym (has.cut_into hb.level hb.size) ∙ cuts_of_one n g b hb.level (uniform-from_HasColour n g b c hb h)

-- the leaves of the whole square are those of the list
pub list_leaves : (n : ℕ) (g : Grid) → HasLeaves n g (whole n) (length (leaves_by_code n g))
unfolding leaves_by_code
list_leaves n g = record {
  cut_into = λ j s. ap (λ l. length (cut (is_uniform n g) l (whole n))) (pow_same j n (sym s))
      ∙ sym (length-map (cut (is_uniform n g) n (whole n)) (coloured n g));
}

pub tally_leaves : (n : ℕ) (g : Grid) (t : Tally) → IsTally n g (whole n) t → size_of t ≡ length (leaves_by_code n g)
tally_leaves n g (One c) is = sym (one_leaf n g (whole n) c.0 (length (leaves_by_code n g)) (IsBlock-whole n) is (list_leaves n g))
tally_leaves n g (Many k) is = sym (is.leaves.cut_into n refl) ∙ (list_leaves n g).cut_into n refl
