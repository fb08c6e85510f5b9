use Rattle.std.proofs.Common.{◌≡◌, ◌^◌, take}
use Rattle.quilt_join.specs.Buckets.{AreFilled}
use Rattle.quilt_join.proofs.buckets.Buckets.of.Given as goal

abbrev pub invariant-loop-id : goal.invariant-loop-id
invariant-loop-id l = record {
  shift : l.buckets.shift ≡ l.shift;
  columns : l.buckets.columns ≡ l.columns;
  filled : AreFilled (2 ^ l.shift) l.columns l.buckets.lists.items (take l.id-index l.list);
}
