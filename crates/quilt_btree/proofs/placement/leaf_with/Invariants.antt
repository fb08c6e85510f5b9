use Rattle.std.proofs.Common.{◌≡◌, ◌∷◌, take}
use Rattle.quilt_btree.specs.Batches.{records_put}
use Rattle.quilt_btree.proofs.placement.leaf_with.Given as goal

abbrev pub invariant-loop-e : goal.invariant-loop-e
invariant-loop-e l = l.leaf ≡ l.r ∷ records_put (take l.e-index l.run)
