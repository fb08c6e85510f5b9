-- What is left of the text behind a line.
use Rattle.std.proofs.Common.{◌≡◌, ℕ, suc, ◌+◌, ◌%◌, ◌==◌, List, [], ◌++◌, if◌then◌else◌, sym, ◌∙◌, ap, append_assoc}
use Rattle.quilt_lang.specs.Trials.{draw, drawn_line, lines_from}
use Rattle.quilt_trial.specs.declared.trial.Stage.{Stage}
use Rattle.quilt_trial.specs.Drawing.{IsDrawn}
use Rattle.quilt_trial.specs.Rest.{publish_line, rest_at}

-- what is left behind a line that is drawn
pub rest_drawn : (stage : Stage) (left less i s x state : ℕ) (old text : List ℕ) → left ≡ suc less → old ≡ lines_from left i s x
    → IsDrawn text state (draw 10 x (drawn_line s)) →
    ((m j t y : ℕ) → rest_at stage m j t y ≡ (if i % 64 == 0 then publish_line else []) ++ lines_from m j t y)
    → old ≡ text ++ rest_at stage less (i + 1) s state
rest_drawn stage left less i s x state old text size is drawn behind =
    let next = draw 10 x (drawn_line s) in
    is ∙ ap (λ (k : ℕ). lines_from k i s x) size
    ∙ ap (λ (l : List ℕ). l ++ (if i % 64 == 0 then publish_line else []) ++ lines_from less (i + 1) s next.state) (sym drawn.text)
    ∙ ap (λ (y : ℕ). text ++ (if i % 64 == 0 then publish_line else []) ++ lines_from less (i + 1) s y) (sym drawn.state)
    ∙ append_assoc text (if i % 64 == 0 then publish_line else []) (lines_from less (i + 1) s state)
    ∙ ap (λ (l : List ℕ). text ++ l) (sym (behind less (i + 1) s state))
