use Rattle.std.proofs.Common.{◌≡◌, ◌+◌, ◌*◌, ◌++◌, true, List, sym, ◌∙◌, ap, subst, All}
use Rattle.std.proofs.lemmas.Result.{IfOk-weaker, IfErr-weaker}
use Rattle.std.proofs.lemmas.Option.{MatchOption-at_none, MatchOption-at_some}
use Rattle.quilt_types.specs.declared.plane.Point.{Point}
use Rattle.quilt_types.specs.Plane.{is_pixel}
use Rattle.quilt_store.proofs.Reading.{only_reads_same}
use Rattle.quilt_points.proofs.Finds.{false_true, if_some_at}
use Rattle.quilt_points.proofs.plans.Adds.{added_all}
use Rattle.quilt_world.proofs.ReadCounts.{reads_none}
use Rattle.quilt_points.proofs.Bounds.{if_ok_of}
use Rattle.quilt_points.proofs.Results.{memory_zero, only_reads_memory}
use Rattle.quilt_btree.proofs.Handed.{handed_on}
use Rattle.quilt_points.proofs.climb.add_quarter.Goals as goal

pub returns-in-None-clause-other : goal.returns-in-None-clause-other
returns-in-None-clause-other g c _ = (
  λ e. false_true (sym c.if-is_same.false ∙ c.is_same.ensures.no e),
  λ points h. MatchOption-at_none _ _ c.in-None.is (c.in_ok-points_of.ensures.read points h),
)

pub returns-in-Some-clause-added : goal.returns-in-Some-clause-added
returns-in-Some-clause-added g c =
    IfOk-weaker c.add_all-in-Some.result _ _ (λ _ f other t. (
      c.in-Some.here.items,
      f.1 ∙ ap (λ (l : List Point). c.args.all.now.items ++ l) c.deref-in-Some.ensures.value,
      λ points h. (MatchOption-at_some _ _ c.in-Some.here c.in-Some.is (c.in_ok-points_of.ensures.read points h)).are,
    )) c.add_all-in-Some.ensures.added

pub returns-in-Some-clause-pixels : goal.returns-in-Some-clause-pixels
returns-in-Some-clause-pixels g c =
    added_all c.add_all-in-Some.result (λ p. is_pixel c.args.layer.level p.at ≡ true) c.args.all.now.items c.deref-in-Some.result.now _ c.requires.all
    (subst (All (λ (p : Point). is_pixel c.args.layer.level p.at ≡ true)) (sym c.deref-in-Some.ensures.value)
    (if_some_at c.in_ok-points_of.field-0 _ c.in-Some.here c.in-Some.is c.in_ok-points_of.ensures.pixels))
    c.add_all-in-Some.ensures.added

pub returns-then-is_same-clause-reads : goal.returns-then-is_same-clause-reads
returns-then-is_same-clause-reads g c = if_ok_of c.add_all.result (reads_none (6 + 3 * c.args.layer.bucket) (g.S.PageStore.reads c.args.store.now))

pub returns-in-Some-clause-reads : goal.returns-in-Some-clause-reads
returns-in-Some-clause-reads g c = if_ok_of c.add_all-in-Some.result c.in_ok-points_of.ensures.reads

-- the block is not the leaf's
pub returns-in_err-points_of-clause-known : goal.returns-in_err-points_of-clause-known
returns-in_err-points_of-clause-known g c e = absurd (false_true (sym c.if-is_same.false ∙ c.is_same.ensures.no e))

pub returns-in-None-clause-known : goal.returns-in-None-clause-known
returns-in-None-clause-known g c e = absurd (false_true (sym c.if-is_same.false ∙ c.is_same.ensures.no e))

pub returns-in-Some-clause-known : goal.returns-in-Some-clause-known
returns-in-Some-clause-known g c e = absurd (false_true (sym c.if-is_same.false ∙ c.is_same.ensures.no e))

pub returns-then-is_same-clause-zero : goal.returns-then-is_same-clause-zero
returns-then-is_same-clause-zero g c = IfErr-weaker c.add_all.result _ _ (λ e memory rs is. memory_zero e memory) c.add_all.ensures.memory

pub returns-in-Some-clause-zero : goal.returns-in-Some-clause-zero
returns-in-Some-clause-zero g c = IfErr-weaker c.add_all-in-Some.result _ _ (λ e memory rs is. memory_zero e memory) c.add_all-in-Some.ensures.memory

pub returns-then-is_same-clause-left : goal.returns-then-is_same-clause-left
returns-then-is_same-clause-left g c =
    only_reads_memory _ c.add_all.result c.add_all.ensures.memory (only_reads_same _ true _ (g.met.S.PageStore.same_time c.args.store.now))

pub returns-in-Some-clause-left : goal.returns-in-Some-clause-left
returns-in-Some-clause-left g c = only_reads_memory _ c.add_all-in-Some.result c.add_all-in-Some.ensures.memory c.in_ok-points_of.ensures.left

pub returns-in_err-points_of-clause-sound : goal.returns-in_err-points_of-clause-sound
returns-in_err-points_of-clause-sound g c = rw (handed_on c.from_residual.result c.from_residual.ensures.1) c.in_err-points_of.ensures.sound

pub returns-in_err-points_of-clause-zero : goal.returns-in_err-points_of-clause-zero
returns-in_err-points_of-clause-zero g c = rw (handed_on c.from_residual.result c.from_residual.ensures.1) c.in_err-points_of.ensures.zero

pub returns-in_err-points_of-clause-bad : goal.returns-in_err-points_of-clause-bad
returns-in_err-points_of-clause-bad g c = rw (handed_on c.from_residual.result c.from_residual.ensures.1) c.in_err-points_of.ensures.bad
