-- The first word of a line, and the words behind it.
use Rattle.std.proofs.Common.{◌≡◌, inl, inr, ℕ, suc, ◌+◌, ◌<◌, ◌≤◌, Bool, true, false, cond, ◌==◌, not, nat_lt}
use Rattle.std.proofs.Common.{List, [], ◌∷◌, length, take, drop, filter, position, Some, None, refl, sym, ◌∙◌, ap, arith}
use Rattle.std.specs.List.{slice_split, position_or_len}
use Rattle.std.proofs.lemmas.Bool.{ltb-false, cases_Bool}
use Rattle.std.proofs.lemmas.List.Sums.{prefix_len-le-length}
use Rattle.quilt_words.specs.Items.{is_empty, words_of}

abbrev is_space : ℕ → Bool
is_space c = c == 32

abbrev is_other : ℕ → Bool
is_other c = not (c == 32)

-- the first index at which a test passes, and the length where it passes at none
pub found_at : (p : ℕ → Bool) (xs : List ℕ) (k : ℕ) → Some k ≡ position p xs → k ≡ position_or_len p xs
found_at p xs k is = elim (cases_Bool (nat_lt (position_or_len p xs) (length xs))) [
  | inl within ↦ let e : Some k ≡ Some (position_or_len p xs) = rw within at is in cc
  | inr past ↦ let e : Some k ≡ None = rw past at is in absurd (cc)
]

pub none_at : (p : ℕ → Bool) (xs : List ℕ) → None ≡ position p xs → length xs ≡ position_or_len p xs
none_at p xs is = elim (cases_Bool (nat_lt (position_or_len p xs) (length xs))) [
  | inl within ↦ let e : None ≡ Some (position_or_len p xs) = rw within at is in absurd (cc)
  | inr past ↦ omega (arith, ltb-false (position_or_len p xs) (length xs) past, prefix_len-le-length (λ x. not (p x)) xs)
]

-- a line without the spaces that it begins with
abbrev pub trimmed : List ℕ → List ℕ
trimmed [] = []
trimmed (c ∷ cs) = cond (c == 32) (trimmed cs) (c ∷ cs)

-- the bytes before the first space, and the others
abbrev pub before_space : List ℕ → List ℕ
before_space [] = []
before_space (c ∷ cs) = cond (c == 32) [] (c ∷ before_space cs)

abbrev pub from_space : List ℕ → List ℕ
from_space [] = []
from_space (c ∷ cs) = cond (c == 32) (c ∷ cs) (from_space cs)

one_more : (n : ℕ) → 1 + n ≡ suc n
one_more n = omega arith

pub trims : (line : List ℕ) → drop (position_or_len is_other line) line ≡ trimmed line
trims [] = refl
trims (c ∷ cs) = elim (cases_Bool (c == 32)) [
  | inl space ↦ rw space (ap (λ (m : ℕ). drop m (c ∷ cs)) (one_more (position_or_len is_other cs)) ∙ trims cs)
  | inr other ↦ rw other refl
]

pub takes : (line : List ℕ) → take (position_or_len is_space line) line ≡ before_space line
takes [] = refl
takes (c ∷ cs) = elim (cases_Bool (c == 32)) [
  | inl space ↦ rw space refl
  | inr other ↦ rw other (ap (λ (m : ℕ). take m (c ∷ cs)) (one_more (position_or_len is_space cs)) ∙ ap (λ (l : List ℕ). c ∷ l) (takes cs))
]

pub drops : (line : List ℕ) → drop (position_or_len is_space line) line ≡ from_space line
drops [] = refl
drops (c ∷ cs) = elim (cases_Bool (c == 32)) [
  | inl space ↦ rw space refl
  | inr other ↦ rw other (ap (λ (m : ℕ). drop m (c ∷ cs)) (one_more (position_or_len is_space cs)) ∙ drops cs)
]

-- the bytes before the first space are the first part, and those behind it have the other parts
record FirstPart (line : List ℕ) : Type 0 where
  others : List (List ℕ)
  parts : slice_split is_space line ≡ before_space line ∷ others
  words : filter (λ w. not (is_empty w)) others ≡ words_of (from_space line)

skips_space : (c : ℕ) (cs : List ℕ) → (c == 32) ≡ true → words_of (c ∷ cs) ≡ words_of cs
unfolding words_of
skips_space c cs space = rw space refl

words_apart : (line : List ℕ) → filter (λ w. not (is_empty w)) (slice_split is_space line) ≡ words_of line
unfolding words_of
words_apart line = refl

no_words : words_of [] ≡ []
unfolding words_of
no_words = refl

first_part : (line : List ℕ) → FirstPart line
first_part [] = record { others = []; parts = refl; words = sym no_words }
first_part (c ∷ cs) = elim (cases_Bool (c == 32)) [
  | inl space ↦ record { others = slice_split is_space cs; parts = rw space refl; words = rw space (words_apart cs ∙ sym (skips_space c cs space)) }
  | inr other ↦ let rest = first_part cs in record { others = rest.others; parts = rw (other, rest.parts) refl; words = rw other rest.words }
]

-- a line that begins with a word
begins : (c : ℕ) (cs : List ℕ) → (c == 32) ≡ false → words_of (c ∷ cs) ≡ before_space (c ∷ cs) ∷ words_of (from_space (c ∷ cs))
begins c cs other =
    let rest = first_part cs in
    sym (words_apart (c ∷ cs)) ∙ rw (other, rest.parts) (ap (λ (ws : List (List ℕ)). (c ∷ before_space cs) ∷ ws) rest.words)

-- a line of spaces alone, and one that has a word
pub no_word : (line : List ℕ) → length (trimmed line) ≡ 0 → words_of line ≡ []
no_word [] none = no_words
no_word (c ∷ cs) none = elim (cases_Bool (c == 32)) [
  | inl space ↦ skips_space c cs space ∙ no_word cs (rw space at none)
  | inr other ↦ absurd (omega (arith, rw other at none))
]

pub some_word : (line : List ℕ) → 0 < length (trimmed line) → words_of line ≡ before_space (trimmed line) ∷ words_of (from_space (trimmed line))
some_word [] some = absurd (omega (arith, some))
some_word (c ∷ cs) some = elim (cases_Bool (c == 32)) [
  | inl space ↦ skips_space c cs space ∙ rw space (some_word cs (rw space at some))
  | inr other ↦ rw other (begins c cs other)
]

shorter_from : (line : List ℕ) → length (from_space line) ≤ length line
shorter_from [] = omega arith
shorter_from (c ∷ cs) = elim (cases_Bool (c == 32)) [
  | inl space ↦ rw space (omega arith)
  | inr other ↦ rw other (omega (arith, shorter_from cs))
]

-- fewer bytes stand behind the first word
pub shorter : (line : List ℕ) → 0 < length (trimmed line) → length (from_space (trimmed line)) < length line
shorter [] some = absurd (omega (arith, some))
shorter (c ∷ cs) some = elim (cases_Bool (c == 32)) [
  | inl space ↦ rw space (omega (arith, shorter cs (rw space at some)))
  | inr other ↦ rw other (rw other (omega (arith, shorter_from cs)))
]
