use Rattle.std.proofs.Common.{◌≡◌, ℕ, List, [], ◌∷◌, ◌++◌, OnOk, sym, ◌∙◌, ap₂, subst}
use Rattle.quilt_raster.proofs.Written.{two_digits, four_digits}
use Rattle.quilt_raster.proofs.picture.push_colour.Goals as goal

pub returns-then-format-eq1 : goal.returns-then-format-eq1
returns-then-format-eq1 c =
    subst (λ (digits : List ℕ). OnOk c.push.result (c.push.new.self ≡ c.args.text.now ++ digits))
    (ap₂ (λ a b. a ∷ b ∷ []) c.digit_of.ensures c.digit_of-then-format-eq1.ensures ∙ sym (two_digits c.args.format c.args.colour.0 c.if-format-eq1.true))
    c.push.ensures.ok

pub returns-else-format-eq1 : goal.returns-else-format-eq1
returns-else-format-eq1 c =
    subst (λ (digits : List ℕ). OnOk c.push-else-format-eq1.result (c.push-else-format-eq1.new.self ≡ c.args.text.now ++ digits))
    (ap₂ ◌++◌ (ap₂ (λ a b. a ∷ b ∷ []) c.digit_of-else-format-eq1.ensures c.digit_of-else-format-eq1-2.ensures)
    (ap₂ (λ a b. a ∷ b ∷ []) c.digit_of-else-format-eq1-3.ensures c.digit_of-else-format-eq1-4.ensures)
    ∙ sym (four_digits c.args.format c.args.colour.0 c.if-format-eq1.false))
    c.push-else-format-eq1.ensures.ok
