use Rattle.quilt_btree.proofs.lower.+lower_under.Given as goal

abbrev pub decreases-lower_under : goal.decreases-lower_under
decreases-lower_under g l = l.height
