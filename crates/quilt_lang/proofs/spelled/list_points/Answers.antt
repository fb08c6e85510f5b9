use Rattle.std.proofs.Common.{arith}
use Rattle.quilt_lang.proofs.Joins.{points_none, points_more, points_fail, points_end}
use Rattle.quilt_lang.proofs.spelled.list_points.Goals as goal

pub loop-line-init : goal.loop-line-init
loop-line-init c = rw c.new-points.ensures (points_none (λ w. w.now) c.args.lines.now)

pub loop-line-preserved : goal.loop-line-preserved
loop-line-preserved c =
    let is = rw c.in-Some.is at c.list_point.ensures in
    rw c.in_ok-push.ensures.ok
    (points_more (λ w. w.now) c.args.lines.now c.loop-line.line-index _ c.loop-line.points c.in-Some.p (omega arith) c.loop-line.invariant is)

pub returns-in_default : goal.returns-in_default
returns-in_default c =
    let is = rw c.in_default.is at c.list_point.ensures in
    points_fail (λ w. w.now) c.args.lines.now c.loop-line.line-index _ c.loop-line.points (omega arith) c.loop-line.invariant is

pub returns : goal.returns
returns c = points_end (λ w. w.now) c.args.lines.now c.loop-line.line-index c.loop-line.points (omega arith) c.loop-line.invariant
