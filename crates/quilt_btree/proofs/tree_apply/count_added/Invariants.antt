use Rattle.std.proofs.Common.{◌≡◌, ◌≤◌, take}
use Rattle.quilt_btree.specs.Batches.{more}
use Rattle.quilt_btree.proofs.tree_apply.count_added.Given as goal

abbrev pub invariant-loop-i : goal.invariant-loop-i
invariant-loop-i l = record {
  number : l.come ≡ more (take l.i l.run);
  few : l.come ≤ l.i;
}
