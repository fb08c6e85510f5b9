use Rattle.quilt_btree.proofs.placement.+place_under.Given as goal

abbrev pub decreases-place_under : goal.decreases-place_under
decreases-place_under g l = l.height
