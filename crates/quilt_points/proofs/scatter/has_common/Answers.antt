use Rattle.std.proofs.Common.{List, sym, ◌∙◌, subst, arith, Contains}
use Rattle.std.proofs.lemmas.List.{take_all}
use Rattle.quilt_types.specs.declared.plane.Point.{Point}
use Rattle.quilt_points.proofs.Finds.{false_true}
use Rattle.quilt_points.proofs.plans.Scatters.{common_next}
use Rattle.quilt_points.proofs.scatter.has_common.Goals as goal

pub loop-p-preserved : goal.loop-p-preserved
loop-p-preserved c =
    common_next c.args.held.now c.args.news.now c.loop-p.p-index _ c.loop-p-test.true c.loop-p.invariant
    (λ q cq e. false_true (sym c.if-has_point.false ∙ c.has_point.ensures.no q cq e))

pub returns-clause-no : goal.returns-clause-no
returns-clause-no c _ p q cp cq e =
    c.loop-p.invariant p q (subst (λ (l : List Point). Contains l p) (sym (take_all c.loop-p.p-index c.args.news.now (omega arith))) cp) cq e
