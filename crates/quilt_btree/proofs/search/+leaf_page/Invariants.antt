use Rattle.quilt_btree.proofs.search.+leaf_page.Given as goal

abbrev pub decreases-leaf_page : goal.decreases-leaf_page
decreases-leaf_page g l = l.height
