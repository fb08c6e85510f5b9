use Rattle.std.proofs.Common.{◌≡◌, ◌^◌}
use Rattle.quilt_join.specs.Boxes.{span_at}
use Rattle.quilt_join.specs.Buckets.{ids_over}
use Rattle.quilt_join.proofs.rows.found.Given as goal

abbrev pub invariant-loop-place : goal.invariant-loop-place
invariant-loop-place l = l.ids.items ≡ ids_over l.s (span_at (2 ^ l.buckets.shift) l.s) l.buckets.columns l.buckets.lists.items l.place
