-- Bits of pixels after one of them is changed.
use Rattle.std.proofs.Common.{◌≡◌, ℕ, ◌+◌, ◌*◌, ◌/◌, ◌%◌, ◌^◌, ◌<◌, ◌≤◌, ⊎_elim, List, length, get_or, set, sym, ◌∙◌, ap, arith}
use Rattle.std.specs.Int.{bit_at}
use Rattle.std.specs.Int.Bits.{bit_xor}
use Rattle.std.proofs.lemmas.Bool.{cases_eq}
use Rattle.std.proofs.lemmas.List.{get_or-set_same, get_or-set_other}
use Rattle.std.proofs.lemmas.Nat.{one_shl, mul-add-lt, same_from_place}
use Rattle.std.proofs.lemmas.Nat.Bits.{bit_at_xor, bit_at-pow_same, bit_at-pow_other, bit_at-lt}
use Rattle.quilt_poly.specs.Bits.{strips, bit_in}

-- a word whose bit k is changed
pub flipped_same : (w k : ℕ) → k < 64 → bit_at (bit_xor w (1 * 2 ^ k % 18446744073709551616)) k ≡ (bit_at w k + 1) % 2
flipped_same w k lt =
    ap (λ m. bit_at (bit_xor w m) k) (one_shl k 64 lt) ∙ bit_at_xor w (2 ^ k) k ∙ ap (λ b. (bit_at w k + b) % 2) (bit_at-pow_same k)

pub flipped_other : (w k i : ℕ) → k < 64 → (i ≡ k → ⊥) → bit_at (bit_xor w (1 * 2 ^ k % 18446744073709551616)) i ≡ bit_at w i
flipped_other w k i lt other =
    let l = bit_at-lt w i in
    ap (λ m. bit_at (bit_xor w m) i) (one_shl k 64 lt) ∙ bit_at_xor w (2 ^ k) i ∙ ap (λ b. (bit_at w i + b) % 2) (bit_at-pow_other k i other)
    ∙ (let z : (bit_at w i + 0) % 2 ≡ bit_at w i = omega arith in z)

-- the place of a word of a square
pub word_inside : (s y x : ℕ) → y < s → x < 64 * strips s → x / 64 * s + y < strips s * s
word_inside s y x hy hx = let m = mul-add-lt (x / 64) s y (strips s) (omega arith) hy in omega arith

pub wide_enough : (s : ℕ) → s ≤ 64 * strips s
wide_enough s = omega arith

module _ (words : List ℕ) (s y x : ℕ) (room : length words ≡ strips s * s) (hy : y < s) (hx : x < s) where
  place : ℕ
  place = x / 64 * s + y

  pub bit_in-flipped : bit_in (set words (x / 64 * s + y) (bit_xor (get_or words (x / 64 * s + y) 0) (1 * 2 ^ (x % 64) % 18446744073709551616))) s y x
      ≡ (bit_in words s y x + 1) % 2
  unfolding bit_in
  bit_in-flipped =
      let at = word_inside s y x hy (omega arith) in
      let k : x / 64 * s + y < length words = omega arith in
      ap (λ w. bit_at w (x % 64)) (get_or-set_same words (x / 64 * s + y) _ 0 k)
      ∙ flipped_same (get_or words (x / 64 * s + y) 0) (x % 64) (omega arith)

  pub bit_in-others : (j i : ℕ) → j < s → (j ≡ y → i ≡ x → ⊥)
      → bit_in (set words (x / 64 * s + y) (bit_xor (get_or words (x / 64 * s + y) 0) (1 * 2 ^ (x % 64) % 18446744073709551616))) s j i
      ≡ bit_in words s j i
  unfolding bit_in
  bit_in-others j i hj other =
      let at = word_inside s y x hy (omega arith) in
      let k : x / 64 * s + y < length words = omega arith in
      ⊎_elim
      (λ same.
      let both = same_from_place (i / 64) j (x / 64) y s hj hy same in
      let column = both.0 in
      let row = both.1 in
      ap (λ p. bit_at (get_or (set words (x / 64 * s + y) (bit_xor (get_or words (x / 64 * s + y) 0) (1 * 2 ^ (x % 64) % 18446744073709551616))) p 0) (i % 64)) same
      ∙ ap (λ w. bit_at w (i % 64)) (get_or-set_same words (x / 64 * s + y) _ 0 k)
      ∙ flipped_other (get_or words (x / 64 * s + y) 0) (x % 64) (i % 64) (omega arith) (λ e. other row (omega arith))
      ∙ ap (λ p. bit_at (get_or words p 0) (i % 64)) (sym same))
      (λ apart. ap (λ w. bit_at w (i % 64)) (get_or-set_other words (x / 64 * s + y) (i / 64 * s + j) _ 0 apart)) (cases_eq (i / 64 * s + j) (x / 64 * s + y))
