use Rattle.quilt_btree.proofs.batches.Plans.{IsPlanned}
use Rattle.quilt_btree.proofs.edit.planned.Given as goal

abbrev pub invariant-loop-i : goal.invariant-loop-i
invariant-loop-i l = IsPlanned l.high l.run l.n l.least l.i l.best l.count
