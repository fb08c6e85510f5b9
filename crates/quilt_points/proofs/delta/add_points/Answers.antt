use Rattle.std.proofs.Common.{[], arith}
use Rattle.quilt_points.proofs.plans.Deltas.{rows_next, rows_all}
use Rattle.quilt_points.proofs.delta.add_points.Goals as goal

pub loop-p-preserved : goal.loop-p-preserved
loop-p-preserved c =
    rows_next c.args.layer.level c.args.layer.bucket c.args.layer.number c.args.b c.args.records.now.items c.loop-p.records.items
    c.push.new.self.items c.args.points.now c.loop-p.p-index _ c.point_record.result c.loop-p.invariant c.in_ok-push.ensures.items c.loop-p-test.true
    (c.point_record.ensures.written [])

pub returns : goal.returns
returns c = rows_all c.args.layer.level c.args.layer.bucket c.args.layer.number c.args.b c.args.records.now.items c.loop-p.records.items
    c.args.points.now c.loop-p.p-index c.loop-p.invariant (omega arith)
