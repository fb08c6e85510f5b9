use Rattle.std.proofs.Common.{◌≡◌, ℕ, ◌<◌, true}
use Rattle.std.specs.Prelude.{slice_index_or}
use Rattle.quilt_types.specs.declared.plane.Seg.{Seg}
use Rattle.quilt_types.specs.Layers.{is_in_square}
use Rattle.quilt_plain.proofs.squares.are_in_square.Given as goal

abbrev pub invariant-loop-s : goal.invariant-loop-s
invariant-loop-s l = (k : ℕ) (d : ℕ × Seg) → k < l.s-index → is_in_square l.level (slice_index_or l.list k d).1 ≡ true
