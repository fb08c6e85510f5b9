use Rattle.quilt_btree.proofs.removal.+remove_under.Given as goal

abbrev pub decreases-remove_under : goal.decreases-remove_under
decreases-remove_under g l = l.height
