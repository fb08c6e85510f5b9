-- A spot of the tree stays good behind calls that only read.
use Rattle.std.proofs.Common.{◌≡◌, ℕ, List, Option, sym, subst}
use Rattle.quilt_btree.specs.declared.spot.Spot.{Spot}
use Rattle.quilt_btree.specs.declared.tree.Tree.{Tree}
use Rattle.quilt_btree.specs.Spots.{IsSpotIf}

pub spot_along : (old new : Option (List (List ℕ))) (t : Tree) (o : Option Spot) → new ≡ old → IsSpotIf old t o → IsSpotIf new t o
spot_along old new t o e h = subst (λ (told : Option (List (List ℕ))). IsSpotIf told t o) (sym e) h
