use Rattle.std.proofs.Common.{◌∙◌, arith}
use Rattle.quilt_edits.proofs.Ascents.{step_before, step_more, ascending_from, ascending_at}
use Rattle.quilt_edits.proofs.edits.is_in_order.Goals as goal

pub loop-i-init : goal.loop-i-init
loop-i-init c = λ k d lt. absurd (omega arith)

pub returns-then-not-is_before-clause-no : goal.returns-then-not-is_before-clause-no
returns-then-not-is_before-clause-no c up =
    c.if-not-is_before.ensures ∙ step_before c.args.records.now c.loop-i.i _ c.loop-i.auto.i c.loop-i-test.true (ascending_at c.args.records.now up)

pub loop-i-preserved : goal.loop-i-preserved
loop-i-preserved c = step_more c.args.records.now c.loop-i.i _ c.loop-i.auto.i c.loop-i-test.true c.if-not-is_before.ensures c.loop-i.invariant

pub returns-clause-yes : goal.returns-clause-yes
returns-clause-yes c _ = ascending_from c.args.records.now (λ k d lt. let end = c.loop-i-test.false in c.loop-i.invariant k d (omega arith))
