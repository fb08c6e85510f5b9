use Rattle.std.proofs.Common.{ℕ, ◌<◌}
use Rattle.quilt_join.specs.Costs.{bucket_cost, room}
use Rattle.quilt_join.proofs.shift.shift_for.Given as goal

abbrev pub invariant-loop-shift : goal.invariant-loop-shift
invariant-loop-shift l = (k : ℕ) → k < l.shift → room l.a l.b < bucket_cost l.level k l.a l.b
