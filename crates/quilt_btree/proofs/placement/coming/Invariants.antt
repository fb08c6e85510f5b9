use Rattle.quilt_btree.proofs.batches.Puts.{AreComing}
use Rattle.quilt_btree.proofs.placement.coming.Given as goal

abbrev pub invariant-loop-n : goal.invariant-loop-n
invariant-loop-n l = AreComing l.high l.run l.n
