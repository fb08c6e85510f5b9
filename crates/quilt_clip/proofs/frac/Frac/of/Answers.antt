use Rattle.quilt_clip.proofs.Lowest.{gcd_positive, by_gcd-lowest, lowest_by_gcd, lowest_reduced}
use Rattle.quilt_clip.proofs.frac.Frac.of.Goals as goal

pub nonzero_div-result : goal.nonzero_div-result
nonzero_div-result c = gcd_positive c.args.num c.args.den _ c.requires c.gcd-common.ensures

pub nonzero_div-result-2 : goal.nonzero_div-result-2
nonzero_div-result-2 c = gcd_positive c.args.num c.args.den _ c.requires c.gcd-common.ensures

pub returns-clause-value : goal.returns-clause-value
returns-clause-value c = by_gcd-lowest c.args.num c.args.den c.gcd-common.result c.requires c.gcd-common.ensures

pub invariant_of-result : goal.invariant_of-result
invariant_of-result c =
    let some = gcd_positive c.args.num c.args.den _ c.requires c.gcd-common.ensures in
    lowest_reduced c.args.num c.args.den _ c.requires (lowest_by_gcd c.args.num c.args.den _ c.requires some c.gcd-common.ensures)

pub returns-clause-lowest : goal.returns-clause-lowest
returns-clause-lowest c =
    let some = gcd_positive c.args.num c.args.den _ c.requires c.gcd-common.ensures in
    lowest_by_gcd c.args.num c.args.den _ c.requires some c.gcd-common.ensures
