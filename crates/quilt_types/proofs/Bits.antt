-- The bits of bytes: one that is set or cleared, and those of zeros.
use Rattle.std.proofs.Common.{◌≡◌, ◌≢◌, inl, inr, ℕ, ◌*◌, ◌/◌, ◌%◌, ◌^◌, ◌<◌, Bool, true, false, cond, eqb, List, length, get_or, set}
use Rattle.std.proofs.Common.{replicate, sym, ◌∙◌, ap, arith, get_or-set_same, get_or-set_other, w8}
use Rattle.std.specs.Int.RustNames.{bit_or, bit_and}
use Rattle.std.specs.Int.{bit_not}
use Rattle.std.proofs.Math.Nat.{zero-div}
use Rattle.std.proofs.lemmas.Bool.{cases_eq, eq-eqb, ne_eqb}
use Rattle.std.proofs.lemmas.Nat.Bits.{bit_at_set_same, bit_at_set_other, bit_at_clear_same, bit_at_clear_other}
use Rattle.quilt_types.specs.Bits.{has_bit}
use Rattle.quilt_types.proofs.Lists.{zeros_read}

apart : (i j : ℕ) → i / 8 ≡ j / 8 → i % 8 ≡ j % 8 → i ≡ j
apart i j q r = omega arith

-- one byte replaced, in which one bit is new
bit_replaced : (b : Bool) (bytes : List ℕ) (i j new : ℕ) → i / 8 < length bytes → eqb (new / 2 ^ (i % 8) % 2) 1 ≡ b
    → ((k : ℕ) → k < 8 → k ≢ i % 8 → eqb (new / 2 ^ k % 2) 1 ≡ eqb (get_or bytes (i / 8) 0 / 2 ^ k % 2) 1)
    → has_bit (set bytes (i / 8) new) j ≡ cond (eqb j i) b (has_bit bytes j)
bit_replaced b bytes i j new within here others = elim (cases_eq (j / 8) (i / 8)) [
  | inr other ↦
      let ne : j ≢ i = λ e. other (ap (λ k. k / 8) e) in
      ap (λ x. eqb (x / 2 ^ (j % 8) % 2) 1) (get_or-set_other bytes (i / 8) (j / 8) new 0 other) ∙ sym (ap (λ t. cond t b (has_bit bytes j)) (ne_eqb j i ne))
  | inl same ↦
      let read : get_or (set bytes (i / 8) new) (j / 8) 0 ≡ new =
      ap (λ k. get_or (set bytes (i / 8) new) k 0) same ∙ get_or-set_same bytes (i / 8) new 0 within in
      ap (λ x. eqb (x / 2 ^ (j % 8) % 2) 1) read ∙ elim (cases_eq (j % 8) (i % 8)) [
        | inl at ↦
            ap (λ k. eqb (new / 2 ^ k % 2) 1) at ∙ here ∙ sym (ap (λ t. cond t b (has_bit bytes j)) (eq-eqb j i (apart j i same at)))
        | inr ne ↦
            let apart_too : j ≢ i = λ e. ne (ap (λ k. k % 8) e) in
            others (j % 8) (omega arith) ne
            ∙ ap (λ k. eqb (get_or bytes k 0 / 2 ^ (j % 8) % 2) 1) (sym same)
            ∙ sym (ap (λ t. cond t b (has_bit bytes j)) (ne_eqb j i apart_too))
      ]
]

pub bit_listed : (bytes : List ℕ) (i j : ℕ) → i / 8 < length bytes
    → has_bit (set bytes (i / 8) (bit_or (get_or bytes (i / 8) 0) (1 * 2 ^ (i % 8) % 2 ^ 8))) j ≡ cond (eqb j i) true (has_bit bytes j)
bit_listed bytes i j within =
    bit_replaced true bytes i j (bit_or (get_or bytes (i / 8) 0) (1 * 2 ^ (i % 8) % 2 ^ 8)) within
    (ap (λ x. eqb x 1) (bit_at_set_same w8 (get_or bytes (i / 8) 0) (i % 8) (omega arith)))
    (λ k lt ne. ap (λ x. eqb x 1) (bit_at_set_other w8 (get_or bytes (i / 8) 0) (i % 8) (omega arith) k ne))

pub bit_cleared : (bytes : List ℕ) (i j : ℕ) → i / 8 < length bytes
    → has_bit (set bytes (i / 8) (bit_and (get_or bytes (i / 8) 0) (bit_not w8 (1 * 2 ^ (i % 8) % 2 ^ 8)))) j ≡ cond (eqb j i) false (has_bit bytes j)
bit_cleared bytes i j within =
    bit_replaced false bytes i j (bit_and (get_or bytes (i / 8) 0) (bit_not w8 (1 * 2 ^ (i % 8) % 2 ^ 8))) within
    (ap (λ x. eqb x 1) (bit_at_clear_same w8 (get_or bytes (i / 8) 0) (i % 8) (omega arith)))
    (λ k lt ne. ap (λ x. eqb x 1) (bit_at_clear_other w8 (get_or bytes (i / 8) 0) (i % 8) (omega arith) k lt ne))

-- ---- zeros

pub no_bit_of_zero : (bytes : List ℕ) → ((k : ℕ) → get_or bytes k 0 ≡ 0) → (i : ℕ) → has_bit bytes i ≡ false
no_bit_of_zero bytes zeros i =
    ap (λ x. eqb (x / 2 ^ (i % 8) % 2) 1) (zeros (i / 8)) ∙ ap (λ x. eqb (x % 2) 1) (zero-div (2 ^ (i % 8)))

pub no_bit_below : (n i : ℕ) → has_bit (replicate n 0) i ≡ false
no_bit_below n i = no_bit_of_zero (replicate n 0) (zeros_read n) i
