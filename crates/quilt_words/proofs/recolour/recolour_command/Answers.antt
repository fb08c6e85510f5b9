use Rattle.std.proofs.Common.{rules, sym, ◌∙◌}
use Rattle.quilt_words.proofs.Slices.{behind}
use Rattle.quilt_words.proofs.Recolours.{recolour_ok, recolour_err}
use Rattle.quilt_words.proofs.recolour.recolour_command.Goals as goal

pub returns-in_err-pairs : goal.returns-in_err-pairs
returns-in_err-pairs c = λ more.
    let third = rw (behind 2 c.args.words.now) at c.in_err-pairs.ensures in
    let fact = recolour_err c.args.format more (λ w. w.now) c.args.words.now _ _ _ _
    (sym c.is_number_of_words.ensures ∙ c.if-not-is_number_of_words.false) c.in_ok-a.ensures c.in_ok-c.ensures third in
    search (rules, fact)

pub returns : goal.returns
returns c = λ more.
    let third = rw (behind 2 c.args.words.now) at c.in_ok-pairs.ensures in
    recolour_ok c.args.format more (λ w. w.now) c.args.words.now _ _ _ _ (sym c.is_number_of_words.ensures ∙ c.if-not-is_number_of_words.false)
    c.in_ok-a.ensures c.in_ok-c.ensures third
