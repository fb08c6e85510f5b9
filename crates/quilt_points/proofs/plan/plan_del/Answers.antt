use Rattle.std.proofs.Common.{◌+◌, ◌*◌, arith, List, refl, sym, ◌∙◌, ap, subst, Contains}
use Rattle.std.specs.FinMap as finmap
use Rattle.std.proofs.lemmas.Option.{none-some}
use Rattle.quilt_store.proofs.Reading.{only_reads_then, only_reads_err, only_reads_ok}
use Rattle.quilt_types.specs.declared.plane.Point.{Point}
use Rattle.quilt_types.specs.Plane.{in_block}
use Rattle.quilt_points.specs.Plans.{IsPointPlan}
use Rattle.quilt_points.proofs.Finds.{has_along, false_true}
use Rattle.quilt_points.proofs.plans.Puts.{free_from, held_point}
use Rattle.quilt_points.proofs.plans.Dels.{is_none_from, none_is}
use Rattle.quilt_world.proofs.ReadCounts.{reads_then, reads_more}
use Rattle.quilt_btree.proofs.Handed.{handed_on}
use Rattle.quilt_btree.proofs.Stops.{zero_handed, bad_handed}
use Rattle.quilt_points.proofs.plan.plan_del.Goals as goal

pub returns-in_default-clause-none : goal.returns-in_default-clause-none
returns-in_default-clause-none g c points h =
    let free = free_from c.args.level c.args.bucket points c.in_ok-leaf.leaf.block c.in_ok-leaf.leaf.points.items c.args.at
    (c.in_ok-leaf.ensures.read points h).are c.in_ok-leaf.ensures.holds
    (λ p m e. c.in_default.ensures.none refl p (subst (λ (l : List Point). Contains l p) (sym c.deref.ensures.value) m) e) in
    (λ _. is_none_from (finmap.get points c.args.at) free, λ _. refl)

pub returns-in_err-edits-clause-sound : goal.returns-in_err-edits-clause-sound
returns-in_err-edits-clause-sound g c =
    rw (handed_on c.from_residual-in_err-edits.result c.from_residual-in_err-edits.ensures.1) (λ points h. let read = c.in_ok-leaf.ensures.read points h in
    let found = c.in-Some.ensures.some in
    c.in_err-edits.ensures.sound points (has_along _ _ c.args.tree.now c.args.layer c.args.level c.args.bucket points c.in_ok-leaf.ensures.left.told h)
    read (ap (in_block c.in_ok-leaf.leaf.block) found.1 ∙ c.in_ok-leaf.ensures.holds)
    (held_point points c.in_ok-leaf.leaf.block c.in_ok-leaf.leaf.points.items c.in-Some.p read.are
    (subst (λ (l : List Point). Contains l c.in-Some.p) c.deref.ensures.value found.0)))

pub returns-clause-plan : goal.returns-clause-plan
returns-clause-plan g c points h =
    let read = c.in_ok-leaf.ensures.read points h in
    let found = c.in-Some.ensures.some in
    subst (λ (p : _). IsPointPlan c.args.level c.args.layer c.args.bucket points (finmap.remove points p) c.in_ok-edits.edits) found.1
    (c.in_ok-edits.ensures.plan points (has_along _ _ c.args.tree.now c.args.layer c.args.level c.args.bucket points c.in_ok-leaf.ensures.left.told h) read
    (ap (in_block c.in_ok-leaf.leaf.block) found.1 ∙ c.in_ok-leaf.ensures.holds)
    (held_point points c.in_ok-leaf.leaf.block c.in_ok-leaf.leaf.points.items c.in-Some.p read.are
    (subst (λ (l : List Point). Contains l c.in-Some.p) c.deref.ensures.value found.0)))

pub returns-clause-none : goal.returns-clause-none
returns-clause-none g c points h =
    let read = c.in_ok-leaf.ensures.read points h in
    let found = c.in-Some.ensures.some in
    let some = ap (finmap.get points) (sym found.1) ∙ held_point points c.in_ok-leaf.leaf.block c.in_ok-leaf.leaf.points.items c.in-Some.p read.are
    (subst (λ (l : List Point). Contains l c.in-Some.p) c.deref.ensures.value found.0) in
    (λ e. absurd (false_true (sym e)), λ n. absurd (none-some _ (sym (none_is (finmap.get points c.args.at) n) ∙ some)))

pub returns-in_err-edits-clause-left : goal.returns-in_err-edits-clause-left
returns-in_err-edits-clause-left g c =
    rw (handed_on c.from_residual-in_err-edits.result c.from_residual-in_err-edits.ensures.1)
    (only_reads_err _ (only_reads_then _ g.met.S.PageStore.goes_on _ _ _ c.in_ok-leaf.ensures.left c.in_err-edits.ensures.left))

pub returns-clause-left : goal.returns-clause-left
returns-clause-left g c = only_reads_ok _ (only_reads_then _ g.met.S.PageStore.goes_on _ _ _ c.in_ok-leaf.ensures.left c.in_ok-edits.ensures.left) _

pub returns-in_default-clause-reads : goal.returns-in_default-clause-reads
returns-in_default-clause-reads g c =
    let n = (18 + 9 * c.args.bucket) * c.args.level in
    reads_more (12 + 3 * c.args.bucket) (12 + 3 * c.args.bucket + n) _ _ (omega arith) c.in_ok-leaf.ensures.reads

pub returns-clause-reads : goal.returns-clause-reads
returns-clause-reads g c =
    let n = (18 + 9 * c.args.bucket) * c.args.level in
    reads_then (12 + 3 * c.args.bucket) n (12 + 3 * c.args.bucket + n) _ _ _ (omega arith) c.in_ok-leaf.ensures.reads c.in_ok-edits.ensures.reads

pub returns-in_err-edits-clause-zero : goal.returns-in_err-edits-clause-zero
returns-in_err-edits-clause-zero g c =
    zero_handed _ c.from_residual-in_err-edits.result c.from_residual-in_err-edits.ensures.1
    c.args.tree.now c.in_ok-leaf.ensures.left.told c.in_err-edits.ensures.zero

pub returns-in_err-edits-clause-bad : goal.returns-in_err-edits-clause-bad
returns-in_err-edits-clause-bad g c =
    bad_handed _ c.from_residual-in_err-edits.result c.from_residual-in_err-edits.ensures.1
    c.args.tree.now c.in_ok-leaf.ensures.left.told c.in_err-edits.ensures.bad

pub returns-in_err-leaf-clause-sound : goal.returns-in_err-leaf-clause-sound
returns-in_err-leaf-clause-sound g c = rw (handed_on c.from_residual.result c.from_residual.ensures.1) c.in_err-leaf.ensures.sound

pub returns-in_err-leaf-clause-zero : goal.returns-in_err-leaf-clause-zero
returns-in_err-leaf-clause-zero g c = rw (handed_on c.from_residual.result c.from_residual.ensures.1) c.in_err-leaf.ensures.zero

pub returns-in_err-leaf-clause-bad : goal.returns-in_err-leaf-clause-bad
returns-in_err-leaf-clause-bad g c = rw (handed_on c.from_residual.result c.from_residual.ensures.1) c.in_err-leaf.ensures.bad
