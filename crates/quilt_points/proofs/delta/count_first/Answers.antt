use Rattle.std.proofs.Common.{◌≡◌, ◌+◌, true, sym, ◌∙◌, ap}
use Rattle.std.proofs.lemmas.List.Elements.{All-more}
use Rattle.quilt_types.specs.declared.plane.Point.{Point}
use Rattle.quilt_types.specs.Plane.{in_block}
use Rattle.quilt_points.proofs.delta.count_first.Goals as goal

pub loop-p-preserved : goal.loop-p-preserved
loop-p-preserved c = record {
  count = ap (λ n. n + 1) c.loop-p.invariant.count;
  inside =
      All-more (λ (p : Point). in_block c.args.b p.at ≡ true) c.args.points.now c.loop-p.p-index _ c.loop-p-test.true c.loop-p.invariant.inside
      (sym c.covers.ensures ∙ c.if-not-covers.false);
}
