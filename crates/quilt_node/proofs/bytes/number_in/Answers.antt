use Rattle.std.proofs.Common.{◌+◌, ◌≤◌, ◌∙◌, subst, sym}
use Rattle.quilt_node.proofs.Numbers.{number_at, fields_fit}
use Rattle.quilt_node.proofs.bytes.number_in.Goals as goal

pub returns-clause-number : goal.returns-clause-number
returns-clause-number c =
    number_at c.args.bytes.now c.args.at c.from.result c.from-2.result (subst (λ n. c.args.at + 12 ≤ n) (sym c.told-bytes) c.requires)
    (c.from.ensures ∙ c.long_in.ensures) (c.from-2.ensures ∙ c.word_in.ensures)

pub returns-clause-fits : goal.returns-clause-fits
returns-clause-fits c = fields_fit c.args.bytes.now c.args.at c.fits-bytes (subst (λ n. c.args.at + 12 ≤ n) (sym c.told-bytes) c.requires)
