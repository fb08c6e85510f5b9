use Rattle.std.proofs.Common.{◌∙◌, sym}
use Rattle.quilt_rank.proofs.Adding.{past_law}
use Rattle.quilt_rank.proofs.firsts.Firsts.is_past.Goals as goal

pub returns-in-Some : goal.returns-in-Some
returns-in-Some c =
    past_law c.args.k c.self.inside.ranks.keys c.args.self.now c.in-Some.field-0.now c.args.distance c.is_below.result c.self.view_is
    (sym c.len.ensures.len ∙ c.if-len-k.false) c.in-Some.ensures.last c.is_below.ensures
