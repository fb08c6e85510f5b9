-- Pairs of colours, each as two words spell it.
use Rattle.std.specs.Prelude.{◌≡◌, ℕ, ◌-◌, List, [], ◌∷◌, Result, Ok, Err}
use Rattle.quilt_types.specs.declared.plane.Colour.{Colour}
use Rattle.quilt_types.specs.declared.code.Code.{Code}
use Rattle.quilt_types.specs.declared.code.Code.TheVariants as codes_of
use Rattle.quilt_types.specs.Layers.{colours}
use Rattle.quilt_words.specs.Forms.{or_err, ◌>>=◌}
use Rattle.quilt_words.specs.Spelling.{number}

-- the colour that a word spells in a format, as a number; else the refusal `number`
abbrev pub colour_number_in : ℕ → List ℕ → Result ℕ Code
colour_number_in f word = or_err codes_of.Number (number 0 (colours f - 1) word)

-- the pairs of a format that these words spell, or the code of the first that is ill-spelled
abbrev pub pairs_in : ℕ → List (List ℕ) → Result (List (Colour × Colour)) Code
pairs_in f [] = Ok []
pairs_in f (o ∷ []) = Ok []
pairs_in f (o ∷ n ∷ ws) =
    colour_number_in f o >>= λ a. colour_number_in f n >>= λ b. pairs_in f ws >>= λ ps. Ok ((record { 0 = a }, record { 0 = b }) ∷ ps)

-- what one pair says of the words that begin with it
abbrev pub ReadsPair : ℕ → Result (Colour × Colour) Code → List ℕ → List ℕ → Type 0
ReadsPair f (Ok pair) o n = (ws : List (List ℕ)) → pairs_in f (o ∷ n ∷ ws) ≡ (pairs_in f ws >>= λ ps. Ok (pair ∷ ps))
ReadsPair f (Err code) o n = (ws : List (List ℕ)) → pairs_in f (o ∷ n ∷ ws) ≡ Err code
