use Rattle.std.proofs.Common.{◌≡◌, ◌≤◌, take}
use Rattle.quilt_btree.specs.Batches.{fewer}
use Rattle.quilt_btree.proofs.tree_apply.records_taken.Given as goal

abbrev pub invariant-loop-i : goal.invariant-loop-i
invariant-loop-i l = record {
  number : l.gone ≡ fewer (take l.i l.run);
  few : l.gone ≤ l.i;
}
