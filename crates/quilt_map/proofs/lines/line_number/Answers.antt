use Rattle.quilt_map.proofs.plans.LinePlans.{lines_under}
use Rattle.quilt_map.proofs.lines.line_number.Goals as goal

pub returns-in-Some-default-Lines-clause-found : goal.returns-in-Some-default-Lines-clause-found
returns-in-Some-default-Lines-clause-found c = λ layers numbers catalog.
    let at = c.in-Some-default-Lines in
    lines_under layers numbers c.args.name.now at.number at.field-0-1 at.threshold (at.ensures.some layers numbers catalog) at.field-0-1-is
