use Rattle.std.proofs.Common.{◌≡◌, ◌+◌, ◌≤◌, true, length}
use Rattle.quilt_node.specs.Pages.{is_ascending}
use Rattle.quilt_btree.specs.Batches.{edit_keys}
use Rattle.quilt_batch.specs.Merges.{StartsMerge}
use Rattle.quilt_batch.proofs.Goings.{HasMerged}
use Rattle.quilt_batch.proofs.merge.first_edits.Given as goal

abbrev pub decreases-loop-edit : goal.decreases-loop-edit
decreases-loop-edit l = length l.goes + length l.comes

abbrev pub invariant-loop-edit : goal.invariant-loop-edit
invariant-loop-edit l = record {
  merged : HasMerged l.removed l.added l.batch l.goes l.comes;
  starts : StartsMerge l.removed l.added l.batch l.goes l.comes;
  ascends : is_ascending (edit_keys l.batch) ≡ true;
  few : length l.batch ≤ l.most;
}
