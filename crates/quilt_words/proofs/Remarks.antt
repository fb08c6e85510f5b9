-- The first byte of a line other than a space.
use Rattle.std.proofs.Common.{◌≡◌, inl, inr, ℕ, ◌+◌, Bool, true, false, ◌==◌, not, List, [], ◌∷◌, length, filter, Option, Some, None, refl, ap, arith, find}
use Rattle.std.specs.List.{slice_split, onto_first}
use Rattle.std.proofs.lemmas.List.Splits.{length-slice_split}
use Rattle.std.proofs.lemmas.Bool.{ne_eqb, cases_Bool}
use Rattle.quilt_words.specs.Items.{is_empty, words_of, is_remark}

-- no byte, or a `#`
abbrev pub is_hash : Option ℕ → Bool
is_hash None = true
is_hash (Some c) = c == 35

onto_word : (c : ℕ) (ps : List (List ℕ)) (k : ℕ) → length ps ≡ k + 1 → is_remark (filter (λ w. not (is_empty w)) (onto_first c ps)) ≡ (c == 35)
onto_word c [] k size = absurd (omega (arith, size))
onto_word c (l ∷ ls) k size = refl

pub remark_is : (line : List ℕ) → is_remark (words_of line) ≡ is_hash (find (λ c. not (c == 32)) line)
unfolding words_of
remark_is [] = refl
remark_is (c ∷ cs) = elim (cases_Bool (c == 32)) [
  | inl space ↦ rw space (remark_is cs)
  | inr other ↦ rw other (onto_word c (slice_split (λ x. x == 32) cs) _ (length-slice_split (λ x. x == 32) cs))
]

same_filter : (ps : List (List ℕ)) → filter (λ w. not (is_empty w)) ps ≡ filter (λ w. not (length w == 0)) ps
same_filter [] = refl
same_filter ([] ∷ ps) = same_filter ps
same_filter ((c ∷ cs) ∷ ps) =
    let some : (length (c ∷ cs) == 0) ≡ false = ne_eqb (length (c ∷ cs)) 0 (λ e. omega (arith, e)) in
    rw some (ap (λ (l : List (List ℕ)). (c ∷ cs) ∷ l) (same_filter ps))

-- words are the pieces that have a byte
pub words_are : (line : List ℕ) → words_of line ≡ filter (λ w. not (length w == 0)) (slice_split (λ c. c == 32) line)
unfolding words_of
words_are line = same_filter (slice_split (λ c. c == 32) line)
