-- Where the first newline stands.
use Rattle.std.proofs.Common.{◌≡◌, inl, inr, ℕ, ◌+◌, ◌<◌, true, false, ◌==◌, List, ◌∷◌, ◌++◌, length, take, drop, get_or}
use Rattle.std.proofs.Common.{Option, Some, None, sym, ◌∙◌, ap, arith, length-take}
use Rattle.std.proofs.lemmas.List.{get_or-take, get_or_default, take-append-drop, drop_more}
use Rattle.std.proofs.lemmas.Bool.{eqb-true, cases_Bool}
use Rattle.memchr.specs.Find.{IsFirstByte, is_byte}
use Rattle.quilt_lang.specs.Reading.{IsNewlineFound}

-- no byte passes where none is found
not_newline : (bytes : List ℕ) (j d : ℕ) → j < length bytes → ((get_or bytes j 0 == 10) ≡ true → ⊥) → (get_or bytes j d == 10) ≡ false
not_newline bytes j d below none = elim (cases_Bool (get_or bytes j d == 10)) [
  | inl is ↦ absurd (none (ap (λ (c : ℕ). c == 10) (get_or_default bytes j 0 d below) ∙ is))
  | inr other ↦ other
]

split_at : (bytes : List ℕ) (k : ℕ) → k < length bytes → (get_or bytes k 0 == 10) ≡ true → bytes ≡ take k bytes ++ 10 ∷ drop (k + 1) bytes
split_at bytes k within is =
    sym (take-append-drop k bytes) ∙ ap (λ (l : List ℕ). take k bytes ++ l) (drop_more bytes k 0 within)
    ∙ ap (λ (c : ℕ). take k bytes ++ c ∷ drop (k + 1) bytes) (eqb-true (get_or bytes k 0) 10 is)

pub cut : (bytes : List ℕ) (r : Option ℕ) → IsFirstByte (is_byte 10) bytes r → IsNewlineFound bytes r
cut bytes None none = λ j d below. not_newline bytes j d below (none j (omega arith) below)
cut bytes (Some k) at = record {
  within = at.0.high;
  before = λ j d below.
      let less : j < k = omega (arith, below, length-take k bytes) in
      rw (get_or-take k bytes j d less) (not_newline bytes j d (omega (arith, less, at.0.high)) (at.0.before j (omega arith) less));
  is = split_at bytes k at.0.high at.1;
}
