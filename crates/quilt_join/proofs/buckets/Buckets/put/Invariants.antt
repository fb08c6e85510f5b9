use Rattle.std.proofs.Common.{◌≡◌, ◌^◌}
use Rattle.quilt_join.specs.Boxes.{span_at}
use Rattle.quilt_join.specs.Buckets.{HasBucketed}
use Rattle.quilt_join.proofs.buckets.Buckets.put.Given as goal

abbrev pub invariant-loop-place : goal.invariant-loop-place
invariant-loop-place l = record {
  shift : l.self.shift ≡ l.fn.self.shift;
  columns : l.self.columns ≡ l.fn.self.columns;
  put : HasBucketed (span_at (2 ^ l.fn.self.shift) l.s) l.fn.self.columns l.place l.fn.self.lists.items l.self.lists.items (l.id, l.s);
}
