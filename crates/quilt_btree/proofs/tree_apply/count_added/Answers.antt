use Rattle.std.proofs.Common.{arith}
use Rattle.quilt_btree.proofs.batches.Whole.{more_next}
use Rattle.quilt_btree.proofs.tree_apply.count_added.Goals as goal

pub loop-i-preserved : goal.loop-i-preserved
loop-i-preserved c = record {
  number = let e = more_next c.args.run.now c.loop-i.i c.loop-i-test.true in let h = c.loop-i.invariant.number in let n = c.comes-come.ensures.number in omega arith;
  few = let h = c.loop-i.invariant.few in let n = c.comes-come.ensures.most in omega arith;
}
