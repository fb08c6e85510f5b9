use Rattle.quilt_btree.proofs.Spots.{floor_of_spot}
use Rattle.quilt_btree.proofs.ways.Forks.{are_of}
use Rattle.quilt_btree.proofs.tree.Tree.floor_here.Goals as goal

pub returns-in-Ok-clause-floor : goal.returns-in-Ok-clause-floor
returns-in-Ok-clause-floor g c =
    let leaf = c.in-Ok.ensures in
    floor_of_spot c.args.k.now c.floor_in.result leaf.spot leaf.key.3 (are_of _ _ _ leaf.bytes) c.floor_in.ensures
