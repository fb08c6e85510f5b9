use Rattle.std.proofs.Common.{◌≡◌, true, sym, subst, ◌+◌}
use Rattle.quilt_node.specs.Tree.{is_below}
use Rattle.quilt_btree.proofs.batches.Plans.{IsPlanned, planned_none, planned_best, planned_same}
use Rattle.quilt_btree.proofs.edit.planned.Goals.{then-least-count, else-least-count}
use Rattle.quilt_btree.proofs.edit.planned.Goals as goal

pub loop-i-init : goal.loop-i-init
loop-i-init c = planned_none c.args.high.now c.args.run.now c.args.n c.args.least c.requires

pub loop-i-preserved : goal.loop-i-preserved
loop-i-preserved c =
    elim c.if-least-count.branch [
      | then-least-count w ↦ subst (λ n. IsPlanned c.args.high.now c.args.run.now c.args.n c.args.least (c.loop-i.i + 1) n c.in-Some.m) (sym w.best-is)
          (planned_best c.args.high.now c.args.run.now c.args.n c.args.least c.loop-i.i c.loop-i.best c.loop-i.count c.in-Some.m c.loop-i-test.true
          c.loop-i.invariant (subst (λ k. is_below c.args.high.now k ≡ true) c.key.ensures (sym c.if-not-is_under.ensures)) c.in-Some.ensures.room
          c.in-Some.ensures.size c.in-Some.ensures.most w.if-least-count.true)
      | else-least-count w ↦ subst (λ n. IsPlanned c.args.high.now c.args.run.now c.args.n c.args.least (c.loop-i.i + 1) n c.in-Some.m) (sym w.best-is)
          (planned_same c.args.high.now c.args.run.now c.args.n c.args.least c.loop-i.i c.loop-i.best c.loop-i.count c.in-Some.m c.loop-i-test.true
          c.loop-i.invariant (subst (λ k. is_below c.args.high.now k ≡ true) c.key.ensures (sym c.if-not-is_under.ensures)) c.in-Some.ensures.room
          c.in-Some.ensures.size c.in-Some.ensures.most)
    ]
