-- What is left of the text of a trial.
use Rattle.std.specs.Prelude.{◌≡◌, ℕ, ◌==◌, List, [], ◌∷◌, ◌++◌, codes, ◌<◌, count_by}
use Rattle.quilt_lang.specs.Trials.{line, lines_from}
use Rattle.quilt_trial.specs.declared.trial.Stage.{Stage}
use Rattle.quilt_trial.specs.declared.trial.Stage.TheVariants as stages
use Rattle.quilt_trial.specs.declared.trial.Next.{Next}
use Rattle.quilt_trial.specs.declared.trial.Next.TheVariants as nexts
use Rattle.quilt_trial.specs.Drawing.{IsTextLine}

-- how many lines of a text end with a newline
abbrev pub newlines : List ℕ → ℕ
newlines text = count_by (λ c. c == 10) text

-- the line that publishes the map
abbrev pub publish_line : List ℕ
publish_line = line (codes "publish" ∷ [])

-- what is left, where so many lines are still to be drawn, the next is number i, the side is s and the state is x
abbrev pub rest_at : Stage → ℕ → ℕ → ℕ → ℕ → List ℕ
rest_at stages.First left i s x =
    line (codes "region" ∷ codes "ta" ∷ codes "0" ∷ []) ++ line (codes "region" ∷ codes "tb" ∷ codes "0" ∷ []) ++ line (codes "points" ∷ codes "tp" ∷ [])
    ++ line (codes "lines" ∷ codes "tl" ∷ codes "4" ∷ []) ++ lines_from left i s x
rest_at stages.Second left i s x =
    line (codes "region" ∷ codes "tb" ∷ codes "0" ∷ []) ++ line (codes "points" ∷ codes "tp" ∷ [])
    ++ line (codes "lines" ∷ codes "tl" ∷ codes "4" ∷ []) ++ lines_from left i s x
rest_at stages.Third left i s x = line (codes "points" ∷ codes "tp" ∷ []) ++ line (codes "lines" ∷ codes "tl" ∷ codes "4" ∷ []) ++ lines_from left i s x
rest_at stages.Fourth left i s x = line (codes "lines" ∷ codes "tl" ∷ codes "4" ∷ []) ++ lines_from left i s x
rest_at stages.Drawing left i s x = lines_from left i s x
rest_at stages.Publishing left i s x = publish_line ++ lines_from left i s x
rest_at stages.Ended left i s x = []

-- what comes next, where so many lines are still to be drawn: a line and the stage behind it, a line that is drawn, or nothing
abbrev pub IsNext : Stage → ℕ → Next → Type 0
IsNext stage left (nexts.Fixed text behind) = ((i s x : ℕ) → rest_at stage left i s x ≡ text.now ++ rest_at behind left i s x) × IsTextLine text.now
IsNext stage left nexts.Drawn = (0 < left) × ((i s x : ℕ) → rest_at stage left i s x ≡ lines_from left i s x)
IsNext stage left nexts.Ended = (i s x : ℕ) → rest_at stage left i s x ≡ []
