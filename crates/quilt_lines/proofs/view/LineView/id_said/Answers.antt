use Rattle.std.proofs.Common.{◌≡◌, [], sym, ◌∙◌, ap}
use Rattle.std.proofs.lemmas.Bool.{both_ways}
use Rattle.quilt_record.specs.declared.record.Record.{Record}
use Rattle.quilt_lines.specs.Reads.{pair_of}
use Rattle.quilt_lines.proofs.view.LineView.id_said.Goals as goal

pub returns-then-is_same-clause-some : goal.returns-then-is_same-clause-some
returns-then-is_same-clause-some c = c.is_same.ensures.yes c.if-is_same.true ∙ c.pair_record-pair.ensures.written []

pub returns-clause-none : goal.returns-clause-none
returns-clause-none c = λ _ id e.
    let item : c.args.r.now.key.item ≡ id = ap (λ (z : Record). z.key.item) e in
    both_ways c.is_same.result c.if-is_same.false
    (c.is_same.ensures.no (e ∙ ap (pair_of c.args.self.now.level c.args.self.now.layer c.args.b) (sym item) ∙ sym (c.pair_record-pair.ensures.written [])))
