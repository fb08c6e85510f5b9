-- Lines as they are drawn.
use Rattle.std.specs.Prelude.{◌≡◌, ℕ, Bool, true, ◌==◌, not, List, [], ◌∷◌, ◌++◌, decimal, map}
use Rattle.std.specs.List.{list_all}
use Rattle.quilt_lang.specs.Trials.{Drawn, line}

-- this text is drawn, and the state behind it is this one
pub record IsDrawn (bytes : List ℕ) (behind : ℕ) (drawn : Drawn) : Type 0 where
  pub text : bytes ≡ drawn.text
  pub state : behind ≡ drawn.state

-- a command's line: its word, a layer and numbers
abbrev pub command_text : List ℕ → List ℕ → List ℕ → List ℕ
command_text word layer numbers = line (word ∷ layer ∷ map decimal numbers)

-- no byte is a newline
abbrev pub has_no_newline : List ℕ → Bool
has_no_newline bytes = list_all (λ c. not (c == 10)) bytes

-- bytes with no newline, and then one
pub record IsTextLine (text : List ℕ) : Type 0 where
  pub bytes : List ℕ
  pub is : text ≡ bytes ++ 10 ∷ []
  pub none : has_no_newline bytes ≡ true
