use Rattle.std.proofs.Common.{◌≡◌, ◌*◌, subst, rules}
use Rattle.std.specs.Ordering.{nat_cmp}
use Rattle.quilt_clip.specs.Fractions.{IsReduced}
use Rattle.quilt_clip.proofs.Lowest.{cmp_law}
use Rattle.quilt_clip.proofs.frac.cmp.Goals as goal

pub returns-clause-equal : goal.returns-clause-equal
returns-clause-equal c =
    let a = c.args.a in
    let b = c.args.b in
    let value : c.cmp.result ≡ nat_cmp (a.num * b.den) (b.num * a.den) = search rules in
    cmp_law a b c.cmp.result (subst IsReduced c.a.view_is c.a.invariant) (subst IsReduced c.b.view_is c.b.invariant) value
