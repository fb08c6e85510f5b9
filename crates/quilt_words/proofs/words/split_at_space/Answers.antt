use Rattle.std.proofs.Common.{◌∙◌, sym, ap, List, ℕ, ◌==◌, take, drop}
use Rattle.quilt_words.proofs.FirstWords.{found_at, none_at}
use Rattle.quilt_words.proofs.words.split_at_space.Goals as goal

pub returns-in-Some-clause-front : goal.returns-in-Some-clause-front
returns-in-Some-clause-front c =
    let line : List ℕ = c.args.line.now in
    c.split_at.ensures.front ∙ ap (λ (m : ℕ). take m line) (found_at (λ x. x == 32) line c.in-Some.k (sym c.in-Some.is ∙ c.first_space.ensures))

pub returns-in-Some-clause-back : goal.returns-in-Some-clause-back
returns-in-Some-clause-back c =
    let line : List ℕ = c.args.line.now in
    c.split_at.ensures.back ∙ ap (λ (m : ℕ). drop m line) (found_at (λ x. x == 32) line c.in-Some.k (sym c.in-Some.is ∙ c.first_space.ensures))

pub returns-in-None-clause-front : goal.returns-in-None-clause-front
returns-in-None-clause-front c =
    let line : List ℕ = c.args.line.now in
    c.split_at-in-None.ensures.front ∙ ap (λ (m : ℕ). take m line) (none_at (λ x. x == 32) line (sym c.in-None.is ∙ c.first_space.ensures))

pub returns-in-None-clause-back : goal.returns-in-None-clause-back
returns-in-None-clause-back c =
    let line : List ℕ = c.args.line.now in
    c.split_at-in-None.ensures.back ∙ ap (λ (m : ℕ). drop m line) (none_at (λ x. x == 32) line (sym c.in-None.is ∙ c.first_space.ensures))
