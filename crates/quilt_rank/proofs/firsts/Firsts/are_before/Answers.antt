use Rattle.std.proofs.Common.{◌≡◌, ◌∙◌, false, ap}
use Rattle.std.specs.Ordering.{is_lt, is_ge}
use Rattle.quilt_near.proofs.Reached.{All-at}
use Rattle.quilt_rank.proofs.Adding.{Key, key_cmp, before_law}
use Rattle.quilt_rank.proofs.firsts.Firsts.are_before.Goals as goal

pub returns-in-Some : goal.returns-in-Some
returns-in-Some c =
    before_law c.self.inside.ranks.keys c.args.self.now c.args.rank.now c.in-Some.last.now c.is_ge.result c.self.view_is
    (c.is_ge.ensures ∙ ap is_ge c.cmp.ensures)
    (λ q m. All-at (λ (z : Key). is_lt (key_cmp c.in-Some.last.now z) ≡ false) c.self.inside.ranks.keys q c.in-Some.ensures.all_up_to m)
