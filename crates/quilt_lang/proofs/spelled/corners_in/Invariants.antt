use Rattle.std.proofs.Common.{◌≡◌, ◌≤◌, ◌*◌, ◌-◌, length}
use Rattle.quilt_lang.proofs.Joins.{CornersSoFar}
use Rattle.quilt_lang.proofs.spelled.corners_in.Given as goal

abbrev pub invariant-loop-i : goal.invariant-loop-i
invariant-loop-i l =
    record { number : 2 * length l.corners.items ≡ l.i; within : l.i ≤ length l.words; is : CornersSoFar (λ w. w.now) l.words l.i l.corners.items }

abbrev pub decreases-loop-i : goal.decreases-loop-i
decreases-loop-i l = length l.words - l.i
