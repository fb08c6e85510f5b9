use Rattle.quilt_audit.proofs.runs.FourLeaves.{siblings_four, four_siblings}
use Rattle.quilt_audit.proofs.points.are_four.Goals as goal

pub returns-clause-yes : goal.returns-clause-yes
returns-clause-yes c t =
    let w = c.are_siblings.ensures.yes t in (
      w.0.0,
      siblings_four c.args.level c.args.a c.args.b c.args.c c.args.d c.plain.result c.plain-2.result c.plain-3.result c.plain-4.result
          c.plain.ensures c.plain-2.ensures c.plain-3.ensures c.plain-4.ensures w.0 w.1,
    )

pub returns-clause-no : goal.returns-clause-no
returns-clause-no c f w four =
    c.are_siblings.ensures.no f (w, 0)
    (four_siblings c.args.level c.args.a c.args.b c.args.c c.args.d c.plain.result c.plain-2.result c.plain-3.result c.plain-4.result
    c.plain.ensures c.plain-2.ensures c.plain-3.ensures c.plain-4.ensures w four)
