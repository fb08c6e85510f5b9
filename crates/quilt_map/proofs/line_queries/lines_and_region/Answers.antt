use Rattle.quilt_map.proofs.plans.LinePlans.{lines_under}
use Rattle.quilt_map.proofs.line_queries.lines_and_region.Goals as goal

pub returns-in-Region-clause-lines : goal.returns-in-Region-clause-lines
returns-in-Region-clause-lines c = λ layers numbers catalog.
    lines_under layers numbers c.args.l.now c.in-Some.first c.in-Some.one c.in-Lines.threshold (c.in-Some.ensures.some layers numbers catalog) c.in-Lines.is
