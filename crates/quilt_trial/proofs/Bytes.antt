-- The bytes of a command's line.
use Rattle.std.proofs.Common.{◌≡◌, ℕ, ◌+◌, ◌%◌, ◌^◌, ◌<◌, ◌==◌, ◌&&◌, not, Bool, true, false, List, [], ◌∷◌, ◌++◌, map, flat_map, sym, ◌∙◌, ap, arith}
use Rattle.std.proofs.Common.{append_assoc, append-nil}
use Rattle.std.specs.Fmt.{decimal}
use Rattle.std.proofs.lemmas.Bool.{ne_eqb, and_from}
use Rattle.std.proofs.lemmas.Fmt.{decimal_by_steps}
use Rattle.std.proofs.lemmas.List.Folds.{list_all-append}
use Rattle.quilt_lang.specs.Trials.{spaced}
use Rattle.quilt_trial.specs.Drawing.{command_text, has_no_newline}

-- bytes with no newline behind others
pub plain_joined : (a b : List ℕ) → has_no_newline a ≡ true → has_no_newline b ≡ true → has_no_newline (a ++ b) ≡ true
plain_joined a b first second = list_all-append (λ (c : ℕ). not (c == 10)) a b ∙ and_from (has_no_newline a) (has_no_newline b) first second

plain_digit : (d : ℕ) → has_no_newline ((48 + d) ∷ []) ≡ true
plain_digit d = ap (λ (b : Bool). not b && true) (ne_eqb (48 + d) 10 (λ e. omega (arith, e)))

pub plain_number : (n : ℕ) → n < 2 ^ 64 → has_no_newline (decimal n) ≡ true
plain_number n small =
    decimal_by_steps (λ (m : ℕ) (ds : List ℕ). has_no_newline ds ≡ true) (λ m few. plain_digit m)
    (λ m ds many before. plain_joined ds ((48 + m % 10) ∷ []) before (plain_digit (m % 10))) n small

-- numbers, each behind a space
abbrev pub numbers_text : List ℕ → List ℕ
numbers_text ns = flat_map (λ n. 32 ∷ decimal n) ns

spaced_numbers : (w : List ℕ) (ns : List ℕ) → spaced (w ∷ map decimal ns) ≡ w ++ numbers_text ns
spaced_numbers w [] = sym (append-nil w)
spaced_numbers w (n ∷ ns) = ap (λ (l : List ℕ). w ++ 32 ∷ l) (spaced_numbers (decimal n) ns)

-- a word, a layer and numbers, and a newline
pub command_is : (word layer : List ℕ) (ns : List ℕ) (bytes : List ℕ) → bytes ≡ (word ++ 32 ∷ layer) ++ numbers_text ns
    → bytes ++ 10 ∷ [] ≡ command_text word layer ns
command_is word layer ns bytes is =
    ap (λ (l : List ℕ). l ++ 10 ∷ [])
    (is ∙ append_assoc word (32 ∷ layer) (numbers_text ns) ∙ ap (λ (l : List ℕ). word ++ 32 ∷ l) (sym (spaced_numbers layer ns)))
