use Rattle.quilt_points.specs.Coding.{decoded}
use Rattle.quilt_points.proofs.Codings.{mapped_next}
use Rattle.quilt_points.proofs.coded.points_in.Goals as goal

pub loop-c-preserved : goal.loop-c-preserved
loop-c-preserved c =
    mapped_next decoded c.loop-c.points.items c.push.new.self.items c.args.coded.now c.loop-c.c-index _ c.one_point.result c.in_ok-push.ensures.items
    c.loop-c.invariant c.loop-c-test.true c.one_point.ensures
