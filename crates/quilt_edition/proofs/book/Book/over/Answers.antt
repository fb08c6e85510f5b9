use Rattle.std.proofs.Common.{◌∙◌, refl, replicate}
use Rattle.quilt_edition.specs.Keeping.{is_free, is_left_out}
use Rattle.quilt_edition.proofs.Frees.{none_free}
use Rattle.quilt_edition.proofs.Tallying.{tally_none, left_complement}
use Rattle.quilt_edition.proofs.book.Book.over.Goals as goal

pub invariant_of-result-clause-counted : goal.invariant_of-result-clause-counted
invariant_of-result-clause-counted g c =
    let n = c.args.journal.pages in
    tally_none n (is_free n (replicate 3750 0)) (record { count = 0; first = 1 }) refl refl (none_free n)

pub invariant_of-result-clause-last_counted : goal.invariant_of-result-clause-last_counted
invariant_of-result-clause-last_counted g c =
    let n = c.args.journal.pages in
    tally_none n (is_left_out n c.complement_of-used.result) (record { count = 0; first = 1 }) refl refl
    (λ i. left_complement n c.requires.range.1 (replicate 3750 0) c.complement_of-used.result c.complement_of-used.ensures i ∙ none_free n i)

pub returns-clause-used : goal.returns-clause-used
returns-clause-used g c = λ page.
    let n = c.args.journal.pages in
    left_complement n c.requires.range.1 (replicate 3750 0) c.complement_of-used.result c.complement_of-used.ensures page ∙ none_free n page
