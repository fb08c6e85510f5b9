use Rattle.std.proofs.Common.{◌<◌, ◌^◌}
use Rattle.quilt_types.specs.declared.plane.Point.{Point}
use Rattle.quilt_points.specs.Coding.{coded}
use Rattle.quilt_points.proofs.Codings.{mapped_next, all_next}
use Rattle.quilt_points.proofs.coded.all_coded.Goals as goal

pub loop-p-preserved : goal.loop-p-preserved
loop-p-preserved c = record {
  coded = mapped_next coded c.loop-p.coded.items c.push.new.self.items c.args.points.now c.loop-p.p-index _ c.one_coded.result c.in_ok-push.ensures.items
      c.loop-p.invariant.coded c.loop-p-test.true c.one_coded.ensures.coded;
  labels =
      all_next (λ (p : Point). p.label < 2 ^ 32) c.args.points.now c.loop-p.p-index _ c.loop-p.invariant.labels c.loop-p-test.true c.one_coded.ensures.label;
}
