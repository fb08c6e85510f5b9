use Rattle.std.proofs.Common.{◌∙◌, sym, ap, List, ℕ, ◌==◌, drop, not, length}
use Rattle.quilt_words.proofs.FirstWords.{found_at, none_at}
use Rattle.quilt_words.proofs.Slices.{behind}
use Rattle.quilt_words.proofs.words.trimmed.Goals as goal

pub returns-in-Some : goal.returns-in-Some
returns-in-Some c =
    let line : List ℕ = c.args.line.now in
    behind c.in-Some.k line ∙ ap (λ (m : ℕ). drop m line) (found_at (λ x. not (x == 32)) line c.in-Some.k (sym c.in-Some.is ∙ c.first_other.ensures))

pub returns-in-None : goal.returns-in-None
returns-in-None c =
    let line : List ℕ = c.args.line.now in
    behind (length line) line ∙ ap (λ (m : ℕ). drop m line) (none_at (λ x. not (x == 32)) line (sym c.in-None.is ∙ c.first_other.ensures))
