use Rattle.std.proofs.Common.{◌<◌, All, sym, subst}
use Rattle.quilt_rank.specs.Opened.{IsSmallPart}
use Rattle.quilt_rank.proofs.search.take_part.Goals as goal

pub rank_all-requires-clause-ends : goal.rank_all-requires-clause-ends
rank_all-requires-clause-ends c =
    subst (All (λ e. (e.1.x1 < 8192) × (e.1.y1 < 8192) × (e.1.x2 < 8192) × (e.1.y2 < 8192))) (sym c.items.ensures)
    (subst (IsSmallPart c.args.b) c.in-Leaf.is c.requires.small)
