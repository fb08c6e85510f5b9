use Rattle.std.proofs.Common.{◌≡◌, ◌∙◌, ◌<◌, sym, ap, List, ℕ, ◌∷◌, length, arith}
use Rattle.std.proofs.lemmas.Bool.{eqb-true, eqb-false}
use Rattle.quilt_words.specs.Items.{words_of}
use Rattle.quilt_words.proofs.FirstWords.{trimmed, before_space, from_space, trims, takes, drops, no_word, some_word, shorter}
use Rattle.quilt_words.proofs.words.first_word.Goals as goal

pub returns-then-is_empty-clause-is : goal.returns-then-is_empty-clause-is
returns-then-is_empty-clause-is c =
    let line : List ℕ = c.args.line.now in
    let same : c.trimmed-rest.result.now ≡ trimmed line = c.trimmed-rest.ensures ∙ trims line in
    no_word line (ap length (sym same) ∙ eqb-true (length c.trimmed-rest.result.now) 0 (sym c.is_empty.ensures ∙ c.if-is_empty.true))

pub returns-clause-is : goal.returns-clause-is
returns-clause-is c =
    let line : List ℕ = c.args.line.now in
    let rest : List ℕ = c.trimmed-rest.result.now in
    let same : rest ≡ trimmed line = c.trimmed-rest.ensures ∙ trims line in
    let other = eqb-false (length rest) 0 (sym c.is_empty.ensures ∙ c.if-is_empty.false) in
    let some : 0 < length (trimmed line) = omega (arith, ap length same, other) in
    some_word line some ∙ ap (λ (l : List ℕ). before_space l ∷ words_of (from_space l)) (sym same)
    ∙ ap (λ (l : List ℕ). l ∷ words_of (from_space rest)) (sym (c.split_at_space.ensures.front ∙ takes rest))
    ∙ ap (λ (l : List ℕ). c.split_at_space.result.0.now ∷ words_of l) (sym (c.split_at_space.ensures.back ∙ drops rest))

pub returns-clause-shorter : goal.returns-clause-shorter
returns-clause-shorter c =
    let line : List ℕ = c.args.line.now in
    let rest : List ℕ = c.trimmed-rest.result.now in
    let same : rest ≡ trimmed line = c.trimmed-rest.ensures ∙ trims line in
    let other = eqb-false (length rest) 0 (sym c.is_empty.ensures ∙ c.if-is_empty.false) in
    let some : 0 < length (trimmed line) = omega (arith, ap length same, other) in
    omega (arith, shorter line some, ap length (c.split_at_space.ensures.back ∙ drops rest ∙ ap from_space same))
