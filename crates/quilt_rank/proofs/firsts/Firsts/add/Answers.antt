use Rattle.std.proofs.Common.{◌∙◌, List, map, ap}
use Rattle.quilt_rank.specs.Ranks.{added}
use Rattle.quilt_rank.proofs.Orders.{Rank}
use Rattle.quilt_rank.proofs.Adding.{turned, turned_added}
use Rattle.quilt_rank.proofs.firsts.Firsts.add.Goals as goal

pub returns : goal.returns
returns c =
    ap (map turned) c.in_ok-insert.ensures.keys ∙ turned_added c.self.inside.ranks.keys c.args.rank
    ∙ ap (λ (t : List Rank). added t (turned c.args.rank)) c.self.view_is
