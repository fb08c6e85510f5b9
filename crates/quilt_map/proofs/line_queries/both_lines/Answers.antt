use Rattle.quilt_map.proofs.plans.LinePlans.{lines_under}
use Rattle.quilt_map.proofs.line_queries.both_lines.Goals as goal

pub returns-in-Lines-other-clause-first : goal.returns-in-Lines-other-clause-first
returns-in-Lines-other-clause-first c = λ layers numbers catalog.
    lines_under layers numbers c.args.l.now c.in-Some.first c.in-Some.one c.in-Lines.threshold (c.in-Some.ensures.some layers numbers catalog) c.in-Lines.is

pub returns-in-Lines-other-clause-second : goal.returns-in-Lines-other-clause-second
returns-in-Lines-other-clause-second c = λ layers numbers catalog.
    let at = c.in-Some-layer_under in
    lines_under layers numbers c.args.m.now at.second at.other c.in-Lines-other.most (at.ensures.some layers numbers catalog) c.in-Lines-other.is
