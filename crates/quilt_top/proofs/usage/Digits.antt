-- Numbers in decimal digits.
use Rattle.std.proofs.Common.{◌≡◌, ◌≢◌, ◌<◌, ◌≤◌, cond, nat_le, Option, Some, None, ◌+◌, ◌-◌, ◌*◌, ℕ, Bool, true, false, ◌&&◌, not, List, [], ◌∷◌, length}
use Rattle.std.proofs.Common.{get_or, take, drop, fold, refl, sym, ◌∙◌, ap, arith, take-append-drop}
use Rattle.std.specs.List.{list_all}
use Rattle.std.proofs.lemmas.Bool.{ne_eqb, leb-false}
use Rattle.std.proofs.lemmas.List.Sums.{fold-append}
use Rattle.quilt_words.specs.Spelling.{is_digit, is_spelled, value_of}

and_one : (b : Bool) → b ≡ (b && true)
and_one true = refl
and_one false = refl

-- with no zero in front, digits alone decide
pub is_spelled_by_digits : (w : List ℕ) → 1 ≤ length w → get_or w 0 0 ≢ 48 → is_spelled w ≡ list_all is_digit w
is_spelled_by_digits [] some ne = absurd (omega arith)
is_spelled_by_digits (c ∷ []) some ne = and_one (is_digit c)
is_spelled_by_digits (c ∷ d ∷ cs) some ne = ap (λ b. not b && list_all is_digit (c ∷ d ∷ cs)) (ne_eqb c 48 ne)

-- a number that is not within a bound
pub not_within : (n high : ℕ) → None ≡ cond {A = Option ℕ} (nat_le n high) (Some n) None → high < n
not_within n high is = leb-false n high (by (nat_le n high) is)
  where
    by : (b : Bool) → None ≡ cond {A = Option ℕ} b (Some n) None → b ≡ false
    by true e = absurd (let f : ◌≡◌ {A = Option ℕ} None (Some n) = e in cc)
    by false e = refl

-- one digit more
abbrev pub shifted : ℕ → ℕ → ℕ
shifted v c = 10 * v + (c - 48)

fold_grows : (v : ℕ) (cs : List ℕ) → v ≤ fold shifted v cs
fold_grows v [] = omega arith
fold_grows v (c ∷ cs) = omega (arith, fold_grows (shifted v c) cs)

pub value_of-take : (k : ℕ) (cs : List ℕ) → value_of (take k cs) ≤ value_of cs
value_of-take k cs =
    let whole : value_of cs ≡ fold shifted (value_of (take k cs)) (drop k cs) =
    sym (ap (fold shifted 0) (take-append-drop k cs)) ∙ fold-append shifted 0 (take k cs) (drop k cs) in
    omega (arith, whole, fold_grows (value_of (take k cs)) (drop k cs))
