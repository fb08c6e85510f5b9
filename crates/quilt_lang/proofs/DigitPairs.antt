-- Pairs of digits read into the bytes that they spell.
use Rattle.std.proofs.Common.{◌≡◌, ℕ, ◌+◌, ◌*◌, ◌<◌, ◌≤◌, max, nat_le, List, [], ◌∷◌, ◌++◌, length, take, drop, get_or, set, unwrap_or}
use Rattle.std.proofs.Common.{Option, Some, None, option_map, cond, refl, sym, ◌∙◌, ap, arith, append-nil, inl, inr}
use Rattle.std.proofs.lemmas.List.{take_all, drop_all, take_more_set}
use Rattle.std.proofs.lemmas.Bool.{leb-true, leb-false, cases_Bool}
use Rattle.quilt_words.specs.Items.{colour_bytes}
use Rattle.quilt_words.specs.Spelling.{hex_digit, row}
use Rattle.quilt_lang.specs.Spelled.{with_byte}
use Rattle.quilt_lang.proofs.Digits.{two_digits, no_digits}
use Rattle.quilt_lang.proofs.Joins.{BytesSoFar, WideSoFar, bytes_none, bytes_more, bytes_at, wide_more, wide_at}

-- so far these bytes were read, or one that is no digit
pub record PairsSoFar (line : List ℕ) (i most : ℕ) (bytes : List ℕ) : Type 0 where
  pub digits : most ≤ 15 → BytesSoFar line (2 * i) (take i bytes)
  pub others : 15 < most → row line ≡ None

pub pairs_first : (line bytes : List ℕ) → PairsSoFar line 0 0 bytes
pairs_first line bytes = record {
  digits = λ low. bytes_none line;
  others = λ high. absurd (omega (arith, high));
}

no_byte : (r : Option (List ℕ)) → with_byte None r ≡ None
no_byte None = refl
no_byte (Some rest) = refl

pub pairs_next : (line bytes : List ℕ) (i most high low byte new : ℕ) → length line ≡ 2 * length bytes → i < length bytes → PairsSoFar line i most bytes
    → high ≡ unwrap_or (hex_digit (get_or line (2 * i) 0)) 16 → low ≡ unwrap_or (hex_digit (get_or line (2 * i + 1) 0)) 16
    → (high ≤ 15 → low ≤ 15 → byte ≡ 16 * high + low) → new ≡ max (max most high) low → PairsSoFar line (i + 1) new (set bytes i byte)
pairs_next line bytes i most high low byte new size within so is_high is_low spelled most_is =
    let got : List ℕ = take i bytes in
    let next : 2 * (i + 1) ≡ 2 * i + 2 = omega arith in
    record {
      digits = λ few.
          let low_most : most ≤ 15 = omega (arith, few, most_is) in
          let both : max high low ≤ 15 = omega (arith, few, most_is) in
          let is : byte ≡ 16 * high + low = spelled (omega (arith, both)) (omega (arith, both)) in
          rw (take_more_set bytes i byte within, next)
          (bytes_more line (2 * i) byte got (omega (arith, size, within)) (so.digits low_most)
          (λ rest. two_digits (get_or line (2 * i) 0) (get_or line (2 * i + 1) 0) high low rest is_high is_low both
          ∙ ap (λ (b : ℕ). with_byte (Some b) (row rest)) (sym is)));
      others = λ many. elim (cases_Bool (nat_le most 15)) [
        | inl few ↦
            let low_most : most ≤ 15 = leb-true most 15 few in
            bytes_at line (2 * i) (2 * i + 1) (2 * i + 2) None got (omega arith) (omega arith) (omega (arith, size, within)) (so.digits low_most)
            (λ rest. no_digits (get_or line (2 * i) 0) (get_or line (2 * i + 1) 0) high low rest is_high is_low (omega (arith, many, most_is, low_most)))
            ∙ ap (option_map (λ x. got ++ x)) (no_byte (row (drop (2 * i + 2) line)))
        | inr over ↦ so.others (omega (arith, leb-false most 15 over))
      ];
    }

pub pairs_end : (line bytes : List ℕ) (i most : ℕ) → length line ≡ 2 * length bytes → length bytes ≤ i → PairsSoFar line i most bytes
    → cond (nat_le most 15) (Some bytes) None ≡ row line
pairs_end line bytes i most size past so = elim (cases_Bool (nat_le most 15)) [
  | inl few ↦ rw few
      (sym (so.digits (leb-true most 15 few) ∙ ap (λ l. option_map (λ r. take i bytes ++ r) (row l)) (drop_all (2 * i) line (omega (arith, size, past)))
      ∙ ap Some (append-nil (take i bytes) ∙ take_all i bytes past)))
  | inr over ↦ rw over (sym (so.others (omega (arith, leb-false most 15 over))))
]

-- the same, each behind a byte of 0
pub record WidePairsSoFar (line : List ℕ) (i most : ℕ) (bytes : List ℕ) : Type 0 where
  pub digits : most ≤ 15 → WideSoFar line i (take i bytes)
  pub others : 15 < most → option_map (colour_bytes 1) (row line) ≡ None

pub wide_pairs_first : (line : List ℕ) (i : ℕ) (bytes : List ℕ) → WideSoFar line i (take i bytes) → WidePairsSoFar line i 0 bytes
wide_pairs_first line i bytes so = record {
  digits = λ low. so;
  others = λ high. absurd (omega (arith, high));
}

pub wide_pairs_next : (line bytes : List ℕ) (i most high low byte new : ℕ) → i + 1 < length line → i + 1 < length bytes → WidePairsSoFar line i most bytes
    → high ≡ unwrap_or (hex_digit (get_or line i 0)) 16 → low ≡ unwrap_or (hex_digit (get_or line (i + 1) 0)) 16
    → (high ≤ 15 → low ≤ 15 → byte ≡ 16 * high + low) → new ≡ max (max most high) low → i + 1 < length (set bytes i 0) →
    WidePairsSoFar line (i + 2) new (set (set bytes i 0) (i + 1) byte)
wide_pairs_next line bytes i most high low byte new size within so is_high is_low spelled most_is inside =
    let got : List ℕ = take i bytes in
    let next : i + 2 ≡ (i + 1) + 1 = omega arith in
    let put : take (i + 2) (set (set bytes i 0) (i + 1) byte) ≡ (got ++ 0 ∷ []) ++ byte ∷ [] =
    ap (λ (k : ℕ). take k (set (set bytes i 0) (i + 1) byte)) next ∙ take_more_set (set bytes i 0) (i + 1) byte inside
    ∙ ap (λ (l : List ℕ). l ++ byte ∷ []) (take_more_set bytes i 0 (omega (arith, within))) in
    record {
      digits = λ few.
          let low_most : most ≤ 15 = omega (arith, few, most_is) in
          let both : max high low ≤ 15 = omega (arith, few, most_is) in
          let is : byte ≡ 16 * high + low = spelled (omega (arith, both)) (omega (arith, both)) in
          rw put
          (wide_more line i byte got size (so.digits low_most)
          (λ rest. two_digits (get_or line i 0) (get_or line (i + 1) 0) high low rest is_high is_low both
          ∙ ap (λ (b : ℕ). with_byte (Some b) (row rest)) (sym is)));
      others = λ many. elim (cases_Bool (nat_le most 15)) [
        | inl few ↦
            let low_most : most ≤ 15 = leb-true most 15 few in
            wide_at line i (i + 1) (i + 2) None got (omega arith) (omega arith) size (so.digits low_most)
            (λ rest. no_digits (get_or line i 0) (get_or line (i + 1) 0) high low rest is_high is_low (omega (arith, many, most_is, low_most)))
            ∙ ap (λ (o : Option (List ℕ)). option_map (λ x. got ++ x) (option_map (colour_bytes 1) o)) (no_byte (row (drop (i + 2) line)))
        | inr over ↦ so.others (omega (arith, leb-false most 15 over))
      ];
    }

pub wide_pairs_end : (line bytes : List ℕ) (i most : ℕ) → length line ≡ length bytes → length bytes ≤ i → WidePairsSoFar line i most bytes
    → cond (nat_le most 15) (Some bytes) None ≡ option_map (colour_bytes 1) (row line)
wide_pairs_end line bytes i most size past so = elim (cases_Bool (nat_le most 15)) [
  | inl few ↦ rw few
      (sym (so.digits (leb-true most 15 few)
      ∙ ap (λ l. option_map (λ r. take i bytes ++ r) (option_map (colour_bytes 1) (row l))) (drop_all i line (omega (arith, size, past)))
      ∙ ap Some (append-nil (take i bytes) ∙ take_all i bytes past)))
  | inr over ↦ rw over (sym (so.others (omega (arith, leb-false most 15 over))))
]
