-- Pixels that are marked: the parity of the ones right of them changes.
use Rattle.std.proofs.Common.{◌≡◌, ℕ, ◌+◌, ◌-◌, ◌*◌, ◌%◌, ◌<◌, ◌≤◌, Bool, true, false, ◌&&◌, cond, eqb, ltb, ⊎_elim, List, refl, sym, ◌∙◌, ap, subst, arith}
use Rattle.std.proofs.lemmas.Bool.{eqb-true, eqb-false, ltb-true, ltb-false, and_parts, and_cases}
use Rattle.quilt_types.specs.declared.plane.Pixel.{Pixel}
use Rattle.quilt_poly.specs.Bits.{strips, bit_in, sum_from, ones_right, IsMarked}
use Rattle.quilt_poly.proofs.Sums.{sum_from-odd, sum_from-flipped}

-- the first pixels of a row, where the bit of the last of them is changed
module _ (s y x column : ℕ) (old new : List ℕ) (hx : x < s) (there : bit_in new s y x ≡ (bit_in old s y x + 1) % 2)
    (elsewhere : (j i : ℕ) → j < s → i < 64 * strips s → (j ≡ y → i ≡ x → ⊥) → bit_in new s j i ≡ bit_in old s j i)
    (to : (k : ℕ) → k < s → k < column → k ≤ x) (from : (k : ℕ) → k ≤ x → k < column) where
  row_marked : (p : Pixel) → p.x < s → p.y < s → (t : Bool) → (eqb p.y y && ltb p.x column) ≡ t
      → ones_right new s p.y p.x % 2 ≡ (ones_right old s p.y p.x + cond t 1 0) % 2
  unfolding ones_right
  row_marked p px py true is =
      let both = and_parts (eqb p.y y) (ltb p.x column) is in
      let row = eqb-true p.y y both.0 in
      let le = to p.x px (ltb-true p.x column both.1) in
      let f = bit_in old s p.y in
      let g = bit_in new s p.y in
      let at : bit_in new s p.y x % 2 ≡ (bit_in old s p.y x + 1) % 2 =
      subst (λ r. bit_in new s r x % 2 ≡ (bit_in old s r x + 1) % 2) (sym row)
      (let z : bit_in new s y x % 2 ≡ (bit_in old s y x + 1) % 2 = omega arith in z) in
      sum_from-flipped f g x p.x (64 * strips s - p.x) at
      (λ a low high other. ap (λ b. b % 2) (elsewhere p.y a py (omega arith) (λ ey ex. other ex))) le (omega arith)
  row_marked p px py false is =
      let f = bit_in old s p.y in
      let g = bit_in new s p.y in
      let same = sum_from-odd g f p.x p.x (64 * strips s - p.x)
      (λ a b e low high. let at : a ≡ b = omega arith in
      ap (λ k. k % 2) (elsewhere p.y a py (omega arith) (λ ey ex.
      ⊎_elim (λ no. eqb-false p.y y no ey) (λ no. let k = ltb-false p.x column no in let lt = from p.x (omega arith) in absurd (omega arith))
      (and_cases (eqb p.y y) (ltb p.x column) is)))
      ∙ ap (λ k. bit_in old s p.y k % 2) at) in
      same ∙ (let z : sum_from f p.x (64 * strips s - p.x) % 2 ≡ (sum_from f p.x (64 * strips s - p.x) + 0) % 2 = omega arith in z)

  pub IsMarked-row : IsMarked s (λ p. eqb p.y y && ltb p.x column) old new
  IsMarked-row = record { each = λ p px py. row_marked p px py (eqb p.y y && ltb p.x column) refl }

-- none, where nothing is changed
pub IsMarked-none : (s : ℕ) (test : Pixel → Bool) (words : List ℕ) → ((p : Pixel) → p.y < s → test p ≡ false) → IsMarked s test words words
IsMarked-none s test words never = record {
  each = λ p px py.
      let z : ones_right words s p.y p.x % 2 ≡ (ones_right words s p.y p.x + 0) % 2 = omega arith in
      z ∙ ap (λ t. (ones_right words s p.y p.x + cond t 1 0) % 2) (sym (never p py));
}

-- pixels of two tests, of which none passes both
pub IsMarked-both : (s : ℕ) (f g h : Pixel → Bool) (old mid new : List ℕ) → IsMarked s f old mid → IsMarked s g mid new
    → ((p : Pixel) → cond {A = ℕ} (f p) 1 0 + cond {A = ℕ} (g p) 1 0 ≡ cond {A = ℕ} (h p) 1 0) → IsMarked s h old new
IsMarked-both s f g h old mid new first second parts = record {
  each = λ p px py.
      let a = first.each p px py in
      let b = second.each p px py in
      let e = parts p in
      omega arith;
}

-- a test that the same pixels pass
pub IsMarked-same : (s : ℕ) (f g : Pixel → Bool) (old new : List ℕ) → IsMarked s f old new → ((p : Pixel) → p.y < s → f p ≡ g p) → IsMarked s g old new
IsMarked-same s f g old new marked same = record {
  each = λ p px py. marked.each p px py ∙ ap (λ t. (ones_right old s p.y p.x + cond t 1 0) % 2) (same p py);
}
