use Rattle.std.proofs.Common.{◌≡◌, take}
use Rattle.quilt_words.proofs.further.copy_points.Given as goal

abbrev pub invariant-loop-p : goal.invariant-loop-p
invariant-loop-p l = l.copy ≡ take l.p-index l.p-items
