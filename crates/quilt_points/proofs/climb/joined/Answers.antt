use Rattle.std.proofs.Common.{◌≡◌, ◌+◌, ◌*◌, ◌≤◌, true, [], length, ⊎_elim, get_or, sym, ◌∙◌, ap, subst, arith, Contains, List}
use Rattle.std.specs.FinMap as finmap
use Rattle.std.proofs.lemmas.Bool.{cases_lt}
use Rattle.std.proofs.lemmas.List.{get_or_default}
use Rattle.quilt_store.proofs.Reading.{only_reads_then, only_reads_same, read_on, only_reads_err, only_reads_ok}
use Rattle.quilt_types.specs.declared.plane.Block.{Block}
use Rattle.quilt_types.specs.declared.plane.Point.{Point}
use Rattle.quilt_types.specs.Plane.{quarters_of, IsBlock}
use Rattle.quilt_types.specs.Quadtrees.{holds_few}
use Rattle.quilt_loc.proofs.Blocks.{IsBlock-up}
use Rattle.quilt_loc.proofs.Nesting.{IsBlock-parent_of, side_pos}
use Rattle.quilt_points.proofs.Quarters.{quarter_at}
use Rattle.quilt_point_laws.specs.Laws.{AreIn}
use Rattle.quilt_points.specs.Layers.{point_entries}
use Rattle.quilt_points.proofs.Finds.{has_along}
use Rattle.quilt_points.proofs.Singles.{spot_along}
use Rattle.quilt_edits.proofs.Lists.{member_at}
use Rattle.quilt_points.proofs.Unions.{AreOfAll, all_none}
use Rattle.quilt_world.proofs.ReadCounts.{reads_none, reads_more}
use Rattle.quilt_points.proofs.Bounds.{times_next, spared_next, spares, spared_here, spared_end}
use Rattle.quilt_points.proofs.Ways.{way_next, way_all, way_fails, own_place}
use Rattle.quilt_btree.proofs.Handed.{handed_on}
use Rattle.quilt_btree.proofs.Stops.{zero_handed, bad_handed}
use Rattle.quilt_points.proofs.climb.joined.Goals as goal

pub quarters-q-items-requires-clause-valid : goal.quarters-q-items-requires-clause-valid
quarters-q-items-requires-clause-valid g c =
    IsBlock-up c.args.layer.level 12 c.args.up c.args.layer.has_level.1
    (subst (IsBlock c.args.layer.level) (sym c.requires.parent)
    (IsBlock-parent_of c.args.layer.level c.args.leaf.now.block c.requires.block c.requires.inner))

pub loop-q-init : goal.loop-q-init
loop-q-init g c = record {
  all = λ points p label h some way. subst (λ (l : List Point). AreOfAll (finmap.remove points p) (λ q. true) [] (point_entries l))
      (sym c.new-all.ensures.items) (all_none (finmap.remove points p) (λ q. true));
  pixels = λ k d lt. let none = ap length c.new-all.ensures.items in absurd (omega arith);
  few = omega arith;
  reads = reads_none ((6 + 3 * c.args.layer.bucket) * 0) _;
  spared = λ j d lt e. absurd (omega arith);
  spot = tt;
  left = only_reads_same _ tt _ (g.met.S.PageStore.same_time _);
}

pub add_quarter-requires-clause-spot : goal.add_quarter-requires-clause-spot
add_quarter-requires-clause-spot g c = spot_along _ _ c.args.tree.now c.loop-q.spot c.loop-q.invariant.left.told c.loop-q.invariant.spot

pub add_quarter-requires-clause-block : goal.add_quarter-requires-clause-block
add_quarter-requires-clause-block g c =
    let hb = subst (IsBlock c.args.layer.level) (sym c.requires.parent)
    (IsBlock-parent_of c.args.layer.level c.args.leaf.now.block c.requires.block c.requires.inner) in
    let pos = side_pos c.args.layer.level c.args.leaf.now.block c.requires.block in
    let twice = ap (λ (b : Block). b.side) c.requires.parent in
    (quarter_at c.args.layer.level c.args.up c.quarters-q-items.result c.loop-q.q-index (record { y = 0; x = 0; side = 0 }) hb
    (omega arith) c.quarters-q-items.ensures.value c.loop-q-test.true).block

pub returns-in_err-add_quarter-clause-sound : goal.returns-in_err-add_quarter-clause-sound
returns-in_err-add_quarter-clause-sound g c =
    rw (handed_on c.from_residual.result c.from_residual.ensures.1)
    (λ points h. c.in_err-add_quarter.ensures.sound points (has_along _ _ c.args.tree.now c.args.layer.number c.args.layer.level c.args.layer.bucket points
    c.loop-q.invariant.left.told h))

pub returns-then-not-branch-clause-none : goal.returns-then-not-branch-clause-none
returns-then-not-branch-clause-none g c _ points p label h some way =
    let o = c.in_ok-add_quarter.ensures.other c.if-not-branch.true in
    let are = c.quarters-q-items.ensures.value ∙ ap quarters_of c.requires.parent in
    let four = ap length are in
    let lt = c.loop-q-test.true in
    ap (holds_few c.args.layer.bucket (finmap.remove points p)) c.requires.parent
    ∙ way_fails c.args.layer.level c.args.layer.bucket points p label some c.args.leaf.now.block c.args.leaf.now.points.items way c.requires.inner
    (get_or c.quarters-q-items.result c.loop-q.q-index (record { y = 0; x = 0; side = 0 }))
    (subst (λ (l : List Block). Contains l (get_or c.quarters-q-items.result c.loop-q.q-index (record { y = 0; x = 0; side = 0 }))) are
    (member_at c.quarters-q-items.result c.loop-q.q-index (record { y = 0; x = 0; side = 0 }) (omega arith))) o.0
    (o.1 points (has_along _ _ c.args.tree.now c.args.layer.number c.args.layer.level c.args.layer.bucket points c.loop-q.invariant.left.told h))

pub loop-q-preserved : goal.loop-q-preserved
loop-q-preserved g c =
    let are = c.quarters-q-items.ensures.value ∙ ap quarters_of c.requires.parent in
    record {
      all = λ points p label h some way.
          way_next c.args.layer.level c.args.layer.bucket points p label some c.args.leaf.now.block c.args.leaf.now.points.items way c.requires.inner
          c.quarters-q-items.result are c.loop-q.q-index (record { y = 0; x = 0; side = 0 }) c.loop-q-test.true c.loop-q.all.items
          c.add_quarter.new.all.items
          (λ e. (c.in_ok-add_quarter.ensures.leaf e).1)
          (λ other. let a = c.in_ok-add_quarter.ensures.added other c.if-not-branch.false in (
            a.0,
            a.1,
            a.2 points (has_along _ _ c.args.tree.now c.args.layer.number c.args.layer.level c.args.layer.bucket points
                c.loop-q.invariant.left.told h),
          ))
          (c.loop-q.invariant.all points p label h some way);
      pixels = c.in_ok-add_quarter.ensures.pixels;
      reads = times_next (6 + 3 * c.args.layer.bucket) c.loop-q.q-index _ _ _ c.loop-q.invariant.reads c.in_ok-add_quarter.ensures.reads;
      spared = λ j d lt e.
          ⊎_elim (λ less. spared_next (6 + 3 * c.args.layer.bucket) c.loop-q.q-index _ _ _ (c.loop-q.invariant.spared j d less e) c.in_ok-add_quarter.ensures.reads)
          (λ ge.
          let at : j ≡ c.loop-q.q-index = omega arith in
          spares (6 + 3 * c.args.layer.bucket) c.loop-q.q-index _ _ _ c.loop-q.invariant.reads
          (c.in_ok-add_quarter.ensures.known (get_or_default c.quarters-q-items.result c.loop-q.q-index _ d (let four = ap length are in let lt = c.loop-q-test.true in omega arith)
          ∙ ap (λ i. get_or c.quarters-q-items.result i d) (sym at) ∙ e)))
          (cases_lt j c.loop-q.q-index);
      few = (let four = ap length are in let lt = c.loop-q-test.true in omega arith);
      spot = spot_along _ _ c.args.tree.now c.add_quarter.new.spot (sym c.loop-q.invariant.left.told) c.in_ok-add_quarter.ensures.spot;
      left = read_on _ g.met.S.PageStore.goes_on _ _ _ c.loop-q.invariant.left c.in_ok-add_quarter.ensures.left;
    }

pub returns-clause-all : goal.returns-clause-all
returns-clause-all g c points p label h some way =
    subst (λ (b : Block). AreIn (finmap.remove points p) b (point_entries c.loop-q.all.items)) (sym c.requires.parent)
    (way_all c.args.layer.level c.args.layer.bucket points p label some c.args.leaf.now.block c.args.leaf.now.points.items way c.requires.inner
    c.quarters-q-items.result (c.quarters-q-items.ensures.value ∙ ap quarters_of c.requires.parent) c.loop-q.q-index c.loop-q-test.false c.loop-q.all.items
    (c.loop-q.invariant.all points p label h some way))

pub returns-in_err-add_quarter-clause-left : goal.returns-in_err-add_quarter-clause-left
returns-in_err-add_quarter-clause-left g c =
    rw (handed_on c.from_residual.result c.from_residual.ensures.1)
    (only_reads_err _ (only_reads_then _ g.met.S.PageStore.goes_on _ _ _ c.loop-q.invariant.left c.in_err-add_quarter.ensures.left))

pub returns-then-not-branch-clause-left : goal.returns-then-not-branch-clause-left
returns-then-not-branch-clause-left g c = only_reads_ok _ (only_reads_then _ g.met.S.PageStore.goes_on _ _ _ c.loop-q.invariant.left c.in_ok-add_quarter.ensures.left) _

pub returns-then-not-branch-clause-reads : goal.returns-then-not-branch-clause-reads
returns-then-not-branch-clause-reads g c =
    let own = own_place c.args.layer.level c.args.leaf.now.block c.requires.block c.requires.inner (record { y = 0; x = 0; side = 0 }) in
    let are = c.quarters-q-items.ensures.value ∙ ap quarters_of c.requires.parent in
    let four = ap length are in
    let lt = c.loop-q-test.true in
    let is = ap (λ (l : List Block). get_or l own.0 (record { y = 0; x = 0; side = 0 })) are ∙ own.2 in
    reads_more ((6 + 3 * c.args.layer.bucket) * 3) (18 + 9 * c.args.layer.bucket) _ _ (omega arith)
    (spared_here (6 + 3 * c.args.layer.bucket) c.loop-q.q-index own.0 _ _ _ own.1 (omega arith) c.loop-q.invariant.reads
    (λ less. c.loop-q.invariant.spared own.0 _ less is) c.in_ok-add_quarter.ensures.reads
    (λ at. c.in_ok-add_quarter.ensures.known (ap (λ i. get_or c.quarters-q-items.result i (record { y = 0; x = 0; side = 0 })) (sym at) ∙ is)))

pub returns-clause-reads : goal.returns-clause-reads
returns-clause-reads g c =
    let own = own_place c.args.layer.level c.args.leaf.now.block c.requires.block c.requires.inner (record { y = 0; x = 0; side = 0 }) in
    let are = c.quarters-q-items.ensures.value ∙ ap quarters_of c.requires.parent in
    let four = ap length are in
    let over = c.loop-q-test.false in
    let is = ap (λ (l : List Block). get_or l own.0 (record { y = 0; x = 0; side = 0 })) are ∙ own.2 in
    let few : c.loop-q.q-index ≤ 4 = c.loop-q.invariant.few in
    let low = own.1 in
    reads_more ((6 + 3 * c.args.layer.bucket) * 3) (18 + 9 * c.args.layer.bucket) _ _ (omega arith)
    (spared_end (6 + 3 * c.args.layer.bucket) c.loop-q.q-index _ _ few
    (c.loop-q.invariant.spared own.0 _ (omega arith) is))

pub returns-in_err-add_quarter-clause-zero : goal.returns-in_err-add_quarter-clause-zero
returns-in_err-add_quarter-clause-zero g c =
    zero_handed _ c.from_residual.result c.from_residual.ensures.1 c.args.tree.now c.loop-q.invariant.left.told c.in_err-add_quarter.ensures.zero

pub returns-in_err-add_quarter-clause-bad : goal.returns-in_err-add_quarter-clause-bad
returns-in_err-add_quarter-clause-bad g c =
    bad_handed _ c.from_residual.result c.from_residual.ensures.1 c.args.tree.now c.loop-q.invariant.left.told c.in_err-add_quarter.ensures.bad
