use Rattle.quilt_btree.proofs.cursors.Fingers.{leaf_of_finger}
use Rattle.quilt_btree.proofs.tree.Tree.put_finger.Goals as goal

pub returns-in-Ok-clause-finger : goal.returns-in-Ok-clause-finger
returns-in-Ok-clause-finger g c = λ rs is. leaf_of_finger c.in-Ok.ensures.arrives c.requires.some is
