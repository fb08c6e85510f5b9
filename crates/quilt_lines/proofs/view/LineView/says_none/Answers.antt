use Rattle.std.proofs.Common.{[], sym, ◌∙◌}
use Rattle.quilt_lines.proofs.Listed.{only_one, first_of}
use Rattle.quilt_lines.proofs.view.LineView.says_none.Goals as goal

pub returns-clause-yes : goal.returns-clause-yes
returns-clause-yes c = λ e. only_one c.args.records.now _ _ c.if-records-ne1.false (c.is_same.ensures.yes e ∙ c.pair_record-none.ensures.written [])

pub returns-clause-no : goal.returns-clause-no
returns-clause-no c = λ e. c.is_same.ensures.no (first_of c.args.records.now _ _ e ∙ sym (c.pair_record-none.ensures.written []))
