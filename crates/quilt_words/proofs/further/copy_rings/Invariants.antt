use Rattle.std.proofs.Common.{◌≡◌, take}
use Rattle.quilt_words.proofs.further.copy_rings.Given as goal

abbrev pub invariant-loop-i : goal.invariant-loop-i
invariant-loop-i l = l.copy ≡ take l.i l.rings
