use Rattle.std.proofs.Common.{◌+◌, ◌-◌, length}
use Rattle.quilt_edits.proofs.Ascents.{AreAhead}
use Rattle.quilt_edits.proofs.edits.are_apart.Given as goal

abbrev pub decreases-loop-i : goal.decreases-loop-i
decreases-loop-i l = (length l.a - l.i) + (length l.b - l.j)

abbrev pub invariant-loop-i : goal.invariant-loop-i
invariant-loop-i l = AreAhead l.a l.b l.i l.j
