use Rattle.std.proofs.Common.{◌≡◌, take, ◌++◌, ◌∷◌, []}
use Rattle.quilt_words.proofs.further.push_ring.Given as goal

abbrev pub invariant-loop-c : goal.invariant-loop-c
invariant-loop-c l = l.rings ≡ l.fn.rings ++ take l.c-index l.corners ∷ []
