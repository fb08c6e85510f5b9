use Rattle.std.proofs.Common.{◌≡◌, ℕ, [], length}
use Rattle.quilt_join.specs.Buckets.{bucket_at}
use Rattle.quilt_join.proofs.buckets.empty.Given as goal

abbrev pub invariant-loop-place : goal.invariant-loop-place
invariant-loop-place l = record {
  size : length l.lists.items ≡ l._place;
  empty : (n : ℕ) → bucket_at l.lists.items n ≡ [];
}
