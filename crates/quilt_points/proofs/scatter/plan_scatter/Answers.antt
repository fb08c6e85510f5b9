use Rattle.std.proofs.Common.{◌≡◌, ℕ, ◌+◌, ◌*◌, ◌<◌, ◌≤◌, ◌^◌, ◌∙◌, ap, length, true, [], List, refl, sym, subst, arith, All, Contains}
use Rattle.std.specs.FinMap as finmap
use Rattle.std.specs.List.Sorted.{IsPermutation}
use Rattle.std.proofs.lemmas.List.Sorted.{All-permutation, length_permutation}
use Rattle.std.proofs.lemmas.Result.{err_from_is_err_and}
use Rattle.quilt_world.specs.Tale.{Goes}
use Rattle.quilt_world.proofs.ReadCounts.{reads_none}
use Rattle.quilt_types.specs.declared.plane.Point.{Point}
use Rattle.quilt_types.specs.Plane.{is_pixel}
use Rattle.quilt_edits.proofs.Ascents.{permuted}
use Rattle.quilt_points.specs.Scattering.{IsGrown}
use Rattle.quilt_points.proofs.Finds.{false_true, if_some_at}
use Rattle.quilt_points.proofs.plans.Puts.{not_some}
use Rattle.quilt_points.proofs.Results.{memory_sound}
use Rattle.quilt_points.proofs.plans.Scatters.{pixels_up, all_new, scatter_can, scatter_plan}
use Rattle.quilt_btree.proofs.Stops.{zero_page}
use Rattle.quilt_btree.proofs.ways.Damage.{zero_names}
use Rattle.quilt_btree.proofs.Handed.{handed_on}
use Rattle.quilt_points.proofs.scatter.plan_scatter.Goals as goal

pub in_order-requires : goal.in_order-requires
in_order-requires g c =
    subst (All (λ (p : Point). is_pixel 12 p.at ≡ true)) (sym c.items.ensures) (pixels_up c.args.level c.requires.level.1 c.args.points.now c.requires.pixels)

pub grown-requires-clause-pixels : goal.grown-requires-clause-pixels
grown-requires-clause-pixels g c =
    subst (All (λ (p : Point). is_pixel c.args.level p.at ≡ true)) (sym c.deref.ensures.value)
    (All-permutation (λ (p : Point). is_pixel c.args.level p.at ≡ true) c.args.points.now c.in-Ok-Some.news.items
    (subst (λ (l : List Point). IsPermutation l c.in-Ok-Some.news.items) c.items.ensures
    (if_some_at c.in-Ok-Some.field-0 _ c.in-Ok-Some.news c.in-Ok-Some.field-0-is c.in-Ok-Some.ensures.same)) c.requires.pixels)

pub returns-in_default-clause-none : goal.returns-in_default-clause-none
returns-in_default-clause-none g c old h = (
  λ _ new.
      let w = c.in_ok-delta.ensures.taken c.in_default.is old h in
      let perm =
      (subst (λ (l : List Point). IsPermutation l c.in-Ok-Some.news.items) c.items.ensures
      (if_some_at c.in-Ok-Some.field-0 _ c.in-Ok-Some.news c.in-Ok-Some.field-0-is c.in-Ok-Some.ensures.same)) in
      not_some (finmap.get old (w.0).at)
      (new.free w.0 ((permuted c.args.points.now c.in-Ok-Some.news.items perm w.0).1
      (subst (λ (l : List Point). Contains l w.0) c.deref.ensures.value w.1))) w.2,
  λ _. refl,
)

pub returns-in_err-edits-clause-sound : goal.returns-in_err-edits-clause-sound
returns-in_err-edits-clause-sound g c =
    let p = err_from_is_err_and c.from_residual-in_err-edits.result c.from_residual-in_err-edits.ensures.1 in
    rw (p.1, p.2) (λ old h. memory_sound c.in_err-edits.field-0.0 (c.in_err-edits.ensures.memory
    (scatter_can c.args.level c.args.bucket c.args.layer c.requires.level.1 c.requires.layer (let f = c.ranges.layer.fits in
    omega arith) old h.spelled.valid c.args.points.now c.in-Ok-Some.news.items
    (subst (λ (l : List Point). IsPermutation l c.in-Ok-Some.news.items) c.items.ensures
    (if_some_at c.in-Ok-Some.field-0 _ c.in-Ok-Some.news c.in-Ok-Some.field-0-is c.in-Ok-Some.ensures.same))
    (if_some_at c.in-Ok-Some.field-0 _ c.in-Ok-Some.news c.in-Ok-Some.field-0-is c.in-Ok-Some.ensures.order) c.requires.pixels
    (subst (All (λ (p : Point). p.label < 2 ^ 32)) c.items.ensures
    (if_some_at c.in-Ok-Some.field-0 _ c.in-Ok-Some.news c.in-Ok-Some.field-0-is c.in-Ok-Some.ensures.labels))
    c.in-Some.delta.without.items c.in-Some.delta.with.items
    (subst (λ (l : List Point). IsGrown c.args.level c.args.layer c.args.bucket old l
    [] c.in-Some.delta.without.items c.in-Some.delta.with.items) c.deref.ensures.value
    (if_some_at c.in_ok-delta.field-0 _ c.in-Some.delta c.in-Some.is c.in_ok-delta.ensures.grown old h)))))

pub returns-clause-plan : goal.returns-clause-plan
returns-clause-plan g c old h =
    scatter_plan c.args.level c.args.bucket c.args.layer c.requires.level.1 c.requires.layer (let f = c.ranges.layer.fits in
    omega arith) old h.spelled.valid c.args.points.now c.in-Ok-Some.news.items
    (subst (λ (l : List Point). IsPermutation l c.in-Ok-Some.news.items) c.items.ensures
    (if_some_at c.in-Ok-Some.field-0 _ c.in-Ok-Some.news c.in-Ok-Some.field-0-is c.in-Ok-Some.ensures.same))
    (if_some_at c.in-Ok-Some.field-0 _ c.in-Ok-Some.news c.in-Ok-Some.field-0-is c.in-Ok-Some.ensures.order) c.requires.pixels
    (subst (All (λ (p : Point). p.label < 2 ^ 32)) c.items.ensures
    (if_some_at c.in-Ok-Some.field-0 _ c.in-Ok-Some.news c.in-Ok-Some.field-0-is c.in-Ok-Some.ensures.labels))
    c.in-Some.delta.without.items c.in-Some.delta.with.items
    (subst (λ (l : List Point). IsGrown c.args.level c.args.layer c.args.bucket old l
    [] c.in-Some.delta.without.items c.in-Some.delta.with.items) c.deref.ensures.value
    (if_some_at c.in_ok-delta.field-0 _ c.in-Some.delta c.in-Some.is c.in_ok-delta.ensures.grown old h))
    c.in_ok-edits.edits c.in_ok-edits.ensures.remove c.in_ok-edits.ensures.add

pub returns-clause-none : goal.returns-clause-none
returns-clause-none g c old h = (
  λ e. absurd (false_true (sym e)),
  λ f. absurd (f (all_new c.args.level c.args.bucket c.args.layer c.requires.level.1 c.requires.layer (let f = c.ranges.layer.fits in
      omega arith) old h.spelled.valid c.args.points.now c.in-Ok-Some.news.items
      (subst (λ (l : List Point). IsPermutation l c.in-Ok-Some.news.items) c.items.ensures
      (if_some_at c.in-Ok-Some.field-0 _ c.in-Ok-Some.news c.in-Ok-Some.field-0-is c.in-Ok-Some.ensures.same))
      (if_some_at c.in-Ok-Some.field-0 _ c.in-Ok-Some.news c.in-Ok-Some.field-0-is c.in-Ok-Some.ensures.order) c.requires.pixels
      (subst (All (λ (p : Point). p.label < 2 ^ 32)) c.items.ensures
      (if_some_at c.in-Ok-Some.field-0 _ c.in-Ok-Some.news c.in-Ok-Some.field-0-is c.in-Ok-Some.ensures.labels))
      c.in-Some.delta.without.items c.in-Some.delta.with.items
      (subst (λ (l : List Point). IsGrown c.args.level c.args.layer c.args.bucket old l
      [] c.in-Some.delta.without.items c.in-Some.delta.with.items) c.deref.ensures.value
      (if_some_at c.in_ok-delta.field-0 _ c.in-Some.delta c.in-Some.is c.in_ok-delta.ensures.grown old h)))),
)

pub returns-in-Ok-None-clause-reads : goal.returns-in-Ok-None-clause-reads
returns-in-Ok-None-clause-reads g c = reads_none ((12 + 3 * c.args.bucket) * length c.args.points.now) (g.S.PageStore.reads c.args.store.now)

pub returns-in_default-clause-reads : goal.returns-in_default-clause-reads
returns-in_default-clause-reads g c =
    subst (λ (n : ℕ). Goes {A = ℕ} (λ old new. new ≤ old + (12 + 3 * c.args.bucket) * n) (g.S.PageStore.reads c.args.store.now)
    (g.S.PageStore.reads c.grown.new.store)) (ap length c.deref.ensures.value
    ∙ length_permutation _ _ (subst (λ (l : List Point). IsPermutation l c.in-Ok-Some.news.items) c.items.ensures
    (if_some_at c.in-Ok-Some.field-0 _ c.in-Ok-Some.news c.in-Ok-Some.field-0-is c.in-Ok-Some.ensures.same)))
    c.in_ok-delta.ensures.reads

pub returns-clause-reads : goal.returns-clause-reads
returns-clause-reads g c =
    subst (λ (n : ℕ). Goes {A = ℕ} (λ old new. new ≤ old + (12 + 3 * c.args.bucket) * n) (g.S.PageStore.reads c.args.store.now)
    (g.S.PageStore.reads c.grown.new.store)) (ap length c.deref.ensures.value
    ∙ length_permutation _ _ (subst (λ (l : List Point). IsPermutation l c.in-Ok-Some.news.items) c.items.ensures
    (if_some_at c.in-Ok-Some.field-0 _ c.in-Ok-Some.news c.in-Ok-Some.field-0-is c.in-Ok-Some.ensures.same)))
    c.in_ok-delta.ensures.reads

pub returns-in_err-edits-clause-zero : goal.returns-in_err-edits-clause-zero
returns-in_err-edits-clause-zero g c =
    let p = err_from_is_err_and c.from_residual-in_err-edits.result c.from_residual-in_err-edits.ensures.1 in
    rw (p.1, p.2) (λ rs is. zero_page _ c.in_err-edits.ensures.zero)

pub returns-in_err-edits-clause-bad : goal.returns-in_err-edits-clause-bad
returns-in_err-edits-clause-bad g c =
    let p = err_from_is_err_and c.from_residual-in_err-edits.result c.from_residual-in_err-edits.ensures.1 in
    rw (p.1, p.2) (zero_names _ _ _ _ (zero_page _ c.in_err-edits.ensures.zero))

pub returns-in_err-delta-clause-sound : goal.returns-in_err-delta-clause-sound
returns-in_err-delta-clause-sound g c = rw (handed_on c.from_residual.result c.from_residual.ensures.1) c.in_err-delta.ensures.sound

pub returns-in_err-delta-clause-zero : goal.returns-in_err-delta-clause-zero
returns-in_err-delta-clause-zero g c = rw (handed_on c.from_residual.result c.from_residual.ensures.1) c.in_err-delta.ensures.zero

pub returns-in_err-delta-clause-bad : goal.returns-in_err-delta-clause-bad
returns-in_err-delta-clause-bad g c = rw (handed_on c.from_residual.result c.from_residual.ensures.1) c.in_err-delta.ensures.bad
