use Rattle.quilt_btree.proofs.search.+last_under.Given as goal

abbrev pub decreases-last_under : goal.decreases-last_under
decreases-last_under g l = l.height
