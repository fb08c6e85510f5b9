use Rattle.std.proofs.Common.{List, sym, subst}
use Rattle.std.proofs.lemmas.Result.{IfOk-weaker, IfErr-weaker}
use Rattle.quilt_types.specs.declared.plane.Point.{Point}
use Rattle.quilt_store.proofs.Reading.{only_reads_free}
use Rattle.quilt_points.specs.Reads.{IsHeld}
use Rattle.quilt_points.proofs.Finds.{if_some_weaker}
use Rattle.quilt_points.proofs.Bounds.{if_ok_of}
use Rattle.quilt_btree.proofs.ways.Damage.{zero_named}
use Rattle.quilt_btree.proofs.Handed.{handed_on}
use Rattle.quilt_points.proofs.plan.plan_put.Goals as goal

pub returns-clause-plan : goal.returns-clause-plan
returns-clause-plan g c =
    IfOk-weaker c.put_into.result _ _
    (λ o f. if_some_weaker o _ _
    (λ edits k points h. k points h.spelled.valid
    (subst (λ (held : List Point). IsHeld c.args.level c.args.bucket points c.in_ok-leaf.leaf.block held) (sym c.deref.ensures.value)
    (c.in_ok-leaf.ensures.read points h)) c.in_ok-leaf.ensures.holds) f) c.put_into.ensures.plan

pub returns-clause-none : goal.returns-clause-none
returns-clause-none g c =
    IfOk-weaker c.put_into.result _ _
    (λ o f points h. f points (subst (λ (held : List Point). IsHeld c.args.level c.args.bucket points c.in_ok-leaf.leaf.block held)
    (sym c.deref.ensures.value) (c.in_ok-leaf.ensures.read points h)) c.in_ok-leaf.ensures.holds) c.put_into.ensures.none

pub returns-clause-sound : goal.returns-clause-sound
returns-clause-sound g c =
    IfErr-weaker c.put_into.result _ _
    (λ e f points h. f points h.spelled.valid
    (subst (λ (held : List Point). IsHeld c.args.level c.args.bucket points c.in_ok-leaf.leaf.block held) (sym c.deref.ensures.value)
    (c.in_ok-leaf.ensures.read points h)) c.in_ok-leaf.ensures.holds) c.put_into.ensures.sound

pub returns-clause-reads : goal.returns-clause-reads
returns-clause-reads g c = if_ok_of c.put_into.result c.in_ok-leaf.ensures.reads

pub returns-clause-zero : goal.returns-clause-zero
returns-clause-zero g c = IfErr-weaker c.put_into.result _ _ (λ e zero rs is. zero) c.put_into.ensures.zero

pub returns-clause-bad : goal.returns-clause-bad
returns-clause-bad g c = zero_named c.put_into.result _ _ _ c.put_into.ensures.zero

pub returns-clause-left : goal.returns-clause-left
returns-clause-left g c = only_reads_free _ c.put_into.result c.in_ok-leaf.ensures.left c.put_into.ensures.no_fault

pub returns-in_err-leaf-clause-sound : goal.returns-in_err-leaf-clause-sound
returns-in_err-leaf-clause-sound g c = rw (handed_on c.from_residual.result c.from_residual.ensures.1) c.in_err-leaf.ensures.sound

pub returns-in_err-leaf-clause-zero : goal.returns-in_err-leaf-clause-zero
returns-in_err-leaf-clause-zero g c = rw (handed_on c.from_residual.result c.from_residual.ensures.1) c.in_err-leaf.ensures.zero

pub returns-in_err-leaf-clause-bad : goal.returns-in_err-leaf-clause-bad
returns-in_err-leaf-clause-bad g c = rw (handed_on c.from_residual.result c.from_residual.ensures.1) c.in_err-leaf.ensures.bad
