use Rattle.std.proofs.Common.{refl, arith}
use Rattle.quilt_types.specs.Plane.{whole}
use Rattle.quilt_loc.proofs.Quartered.{IsBlock-whole, wide_side}
use Rattle.quilt_tally.proofs.Quarters.{whole_leaves, past_list}
use Rattle.quilt_par.proofs.join.are_few.Goals as goal

pub returns-in-Some : goal.returns-in-Some
returns-in-Some c n g some high ts =
    let tally = c.in-Some.ensures.some n g (whole n) high (IsBlock-whole n) (wide_side n some) ts in
    let all = whole_leaves n g (whole n) c.in-Some.t refl tally in
    (λ is. let le = c.is_few.ensures.0 is in omega arith, λ le. c.is_few.ensures.1 (omega arith))

pub returns-in-None : goal.returns-in-None
returns-in-None c n g some high ts =
    let over = past_list n g (whole n) c.args.most refl (c.in-None.ensures.none n g (whole n) high (IsBlock-whole n) (wide_side n some) ts refl) in
    (λ is. cc, λ le. absurd (omega arith))
