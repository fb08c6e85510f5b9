use Rattle.std.proofs.Common.{◌≡◌, ◌++◌, drop}
use Rattle.quilt_join.specs.Pairs.{ids_sharing}
use Rattle.quilt_join.proofs.rows.add_sharing.Given as goal

abbrev pub invariant-loop-id : goal.invariant-loop-id
invariant-loop-id l = l.ids.items ++ ids_sharing l.s (drop l.id-index l.bucket) ≡ l.fn.ids.items ++ ids_sharing l.s l.bucket
