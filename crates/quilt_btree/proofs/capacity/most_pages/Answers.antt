use Rattle.std.proofs.Common.{◌≤◌, length, sym, subst}
use Rattle.quilt_btree.proofs.subtrees.Heights.{walk_low, walk_pages}
use Rattle.quilt_btree.proofs.capacity.most_pages.Goals as goal

pub returns-clause-pages : goal.returns-clause-pages
returns-clause-pages c pages root height rs visited w few =
    walk_pages pages root height c.from.result rs visited w (subst (λ n. length rs ≤ n) (sym c.from.ensures) few)

pub returns-clause-height : goal.returns-clause-height
returns-clause-height c pages root height rs visited w = walk_low pages root height rs visited w
