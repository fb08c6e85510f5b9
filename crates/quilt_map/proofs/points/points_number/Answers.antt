use Rattle.quilt_map.proofs.plans.PointPlans.{points_under}
use Rattle.quilt_map.proofs.points.points_number.Goals as goal

pub returns-in-Some-default-Points-clause-found : goal.returns-in-Some-default-Points-clause-found
returns-in-Some-default-Points-clause-found c = λ layers numbers catalog.
    let at = c.in-Some-default-Points in
    points_under layers numbers c.args.name.now at.number at.field-0-1 at.bucket (at.ensures.some layers numbers catalog) at.field-0-1-is
