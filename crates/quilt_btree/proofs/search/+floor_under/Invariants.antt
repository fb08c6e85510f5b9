use Rattle.quilt_btree.proofs.search.+floor_under.Given as goal

abbrev pub decreases-floor_under : goal.decreases-floor_under
decreases-floor_under g l = l.height
