use Rattle.quilt_btree.proofs.step.+leaf_at.Given as goal

abbrev pub decreases-leaf_at : goal.decreases-leaf_at
decreases-leaf_at g l = l.height
