use Rattle.std.proofs.Common.{ℕ, ◌+◌, ◌<◌}
use Rattle.std.specs.Prelude.{slice_index_or}
use Rattle.quilt_types.specs.declared.plane.Seg.{Seg}
use Rattle.quilt_join_tests.proofs.drawing.ids_rise.Given as goal

abbrev pub invariant-loop-place : goal.invariant-loop-place
invariant-loop-place l = (k : ℕ) (d : ℕ × Seg) → k + 1 < l.place → (slice_index_or l.list k d).0 < (slice_index_or l.list (k + 1) d).0
