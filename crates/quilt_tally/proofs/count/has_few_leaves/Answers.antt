use Rattle.std.proofs.Common.{refl, arith}
use Rattle.quilt_tally.proofs.Quarters.{whole_leaves, whole_over}
use Rattle.quilt_tally.proofs.count.has_few_leaves.Goals as goal

pub returns-in-Some : goal.returns-in-Some
returns-in-Some g c =
    let n = c.args.level in
    let grid = g.P.Pixels.grid c.args.pixels.now n in
    let all = whole_leaves n grid c.whole_square.result c.in-Some.t c.whole_square.ensures c.in-Some.ensures.some in
    (λ is. let le = c.is_few.ensures.0 is in omega arith, λ le. c.is_few.ensures.1 (omega arith))

pub returns-in-None : goal.returns-in-None
returns-in-None g c =
    let n = c.args.level in
    let grid = g.P.Pixels.grid c.args.pixels.now n in
    let over = whole_over n grid c.whole_square.result c.args.most c.whole_square.ensures (c.in-None.ensures.none refl) in
    (λ is. cc, λ le. absurd (omega arith))
