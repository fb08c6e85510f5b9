use Rattle.std.proofs.Common.{ℕ, ◌+◌, ◌*◌, ◌^◌, ◌≤◌, Option, [], List, length, get_or, sym, ◌∙◌, ap, subst, arith, Contains}
use Rattle.std.proofs.lemmas.List.{append-nil}
use Rattle.quilt_store.proofs.Reading.{only_reads_then, read_on, only_reads_err, only_reads_ok}
use Rattle.quilt_types.specs.declared.plane.Block.{Block}
use Rattle.quilt_types.specs.Plane.{in_window}
use Rattle.quilt_loc.proofs.Blocks.{IsBlock-up}
use Rattle.quilt_points.proofs.Quarters.{quarter_at}
use Rattle.quilt_btree.specs.Trees.{IsRooted, IsTree}
use Rattle.quilt_points.proofs.Finds.{has_along}
use Rattle.quilt_edits.proofs.Lists.{member_at}
use Rattle.quilt_points.proofs.Unions.{all_none}
use Rattle.quilt_points.proofs.Windows.{none_of, open_pixel, open_quarter, found_next, found_all, quarter_pixel, covered_next}
use Rattle.quilt_points.proofs.Windows.{open_many, meets_none, window_sides, reads_once, reads_first, reads_next, reads_within, quarter_side, wide_power}
use Rattle.quilt_world.proofs.ReadCounts.{reads_none}
use Rattle.quilt_points.proofs.Singles.{search_along}
use Rattle.quilt_points.specs.Windows.{visited}
use Rattle.quilt_world.specs.Tale.{Goes}
use Rattle.quilt_loc.proofs.Nesting.{side_pos}
use Rattle.quilt_loc.proofs.Members.{Contains-nil}
use Rattle.quilt_btree.proofs.Handed.{handed_on}
use Rattle.quilt_btree.proofs.Stops.{zero_handed, bad_handed}
use Rattle.quilt_points.proofs.window.+add_within.Goals as goal

pub returns-then-not-meets-clause-found : goal.returns-then-not-meets-clause-found
returns-then-not-meets-clause-found g t c points h o =
    ([], sym (append-nil c.args.found.now.items), none_of points (in_window c.args.w) c.args.b (meets_none c.args.w c.args.b (sym c.meets.ensures ∙ c.if-not-meets.true)))

pub returns-in_err-visit-clause-sound : goal.returns-in_err-visit-clause-sound
returns-in_err-visit-clause-sound g t c =
    rw (handed_on c.from_residual.result c.from_residual.ensures.1) (λ points h o. c.in_err-visit.ensures.sound points h)

pub returns-then-b-le1-clause-sound : goal.returns-then-b-le1-clause-sound
returns-then-b-le1-clause-sound g t c points h o page e =
    open_pixel c.args.layer.level c.args.layer.bucket points c.args.b o
    ((c.in_ok-visit.ensures.none c.if-branch.false).1 points h) c.args.layer.has_bucket.0 c.if-b-le1.true

pub quarters-q-items-requires-clause-valid : goal.quarters-q-items-requires-clause-valid
quarters-q-items-requires-clause-valid g t c = IsBlock-up c.args.layer.level 12 c.args.b c.args.layer.has_level.1 c.requires.block

pub loop-q-init : goal.loop-q-init
loop-q-init g t c = record {
  found = λ points h o. ([], (c.in_ok-visit.ensures.none c.if-branch.false).0 ∙ sym (append-nil c.args.found.now.items), all_none points (in_window c.args.w));
  covered = λ rs p is inside q m on. absurd (Contains-nil q m);
  reads = λ points k h o e.
      reads_first c.args.layer.bucket points c.args.w (6 + 3 * c.args.layer.bucket) k c.quarters-q-items.result _ _ c.in_ok-visit.ensures.reads;
  left = only_reads_ok _ c.in_ok-visit.ensures.left tt;
  search = c.in_ok-visit.ensures.search;
}

pub add_within-requires : goal.add_within-requires
add_within-requires g t c κs within =
    let q = quarter_at c.args.layer.level c.args.b c.quarters-q-items.result c.loop-q.q-index
    (record { y = 0; x = 0; side = 0 }) c.requires.block c.if-b-le1.false c.quarters-q-items.ensures.value c.loop-q-test.true in
    let half = q.half in
    let rooted = subst (λ (s : ℕ). IsRooted s c.args.tree.now) (sym c.loop-q.invariant.left.size) c.requires.rooted in
    let search = search_along _ _ c.args.tree.now c.args.layer.level c.args.layer.bucket c.args.layer.number c.loop-q.search c.loop-q.invariant.left.told
    c.loop-q.invariant.search in
    (omega arith, (within, (rooted, (search, (c.requires.window, q.block)))))

pub returns-in_err-add_within-clause-sound : goal.returns-in_err-add_within-clause-sound
returns-in_err-add_within-clause-sound g t c =
    rw (handed_on c.from_residual-in_err-add_within.result c.from_residual-in_err-add_within.ensures.1) (λ points h o. c.in_err-add_within.ensures.sound points
    (has_along _ _ c.args.tree.now c.args.layer.number c.args.layer.level c.args.layer.bucket points c.loop-q.invariant.left.told h)
    (open_quarter c.args.layer.level c.args.layer.bucket points c.args.b o
    ((c.in_ok-visit.ensures.none c.if-branch.false).1 points h) c.if-b-le1.false
    (get_or c.quarters-q-items.result c.loop-q.q-index (record { y = 0; x = 0; side = 0 }))
    (subst (λ (l : List Block). Contains l (get_or c.quarters-q-items.result c.loop-q.q-index (record { y = 0; x = 0; side = 0 })))
    c.quarters-q-items.ensures.value
    (member_at c.quarters-q-items.result c.loop-q.q-index (record { y = 0; x = 0; side = 0 }) (let lt = c.loop-q-test.true in
    let four = ap length c.quarters-q-items.ensures.value in omega arith)))))

pub loop-q-preserved : goal.loop-q-preserved
loop-q-preserved g t c = record {
  found = λ points h o.
      found_next points (in_window c.args.w) c.args.layer.level c.args.b c.quarters-q-items.result c.loop-q.q-index
      (record { y = 0; x = 0; side = 0 }) c.requires.block c.if-b-le1.false c.quarters-q-items.ensures.value c.loop-q-test.true
      c.args.found.now.items c.loop-q.found.items c.add_within.new.found.items (c.loop-q.invariant.found points h o)
      (c.in_ok-add_within.ensures.found points (has_along _ _ c.args.tree.now c.args.layer.number c.args.layer.level c.args.layer.bucket points
      c.loop-q.invariant.left.told h)
      (open_quarter c.args.layer.level c.args.layer.bucket points c.args.b o
      ((c.in_ok-visit.ensures.none c.if-branch.false).1 points h) c.if-b-le1.false
      (get_or c.quarters-q-items.result c.loop-q.q-index (record { y = 0; x = 0; side = 0 }))
      (subst (λ (l : List Block). Contains l (get_or c.quarters-q-items.result c.loop-q.q-index (record { y = 0; x = 0; side = 0 })))
      c.quarters-q-items.ensures.value
      (member_at c.quarters-q-items.result c.loop-q.q-index (record { y = 0; x = 0; side = 0 }) (let lt = c.loop-q-test.true in
      let four = ap length c.quarters-q-items.ensures.value in omega arith)))));
  covered = λ rs p is inside.
      covered_next c.args.layer.level c.args.layer.bucket c.args.layer.number rs p c.quarters-q-items.result c.loop-q.q-index
      (record { y = 0; x = 0; side = 0 }) (let lt = c.loop-q-test.true in let four = ap length c.quarters-q-items.ensures.value in omega arith)
      (c.loop-q.invariant.covered rs p is inside)
      (c.in_ok-add_within.ensures.covered rs p (subst (λ (o : Option (List (List ℕ))). IsTree o c.args.tree.now rs) (sym c.loop-q.invariant.left.told) is) inside);
  reads = λ points k h o e.
      reads_next c.args.layer.bucket points c.args.w (6 + 3 * c.args.layer.bucket) k c.quarters-q-items.result c.loop-q.q-index
      (record { y = 0; x = 0; side = 0 }) _ _ _
      (let lt = c.loop-q-test.true in let four = ap length c.quarters-q-items.ensures.value in omega arith)
      (c.loop-q.invariant.reads points k h o e)
      (c.in_ok-add_within.ensures.reads points k
      (has_along _ _ c.args.tree.now c.args.layer.number c.args.layer.level c.args.layer.bucket points c.loop-q.invariant.left.told h)
      (open_quarter c.args.layer.level c.args.layer.bucket points c.args.b o
      ((c.in_ok-visit.ensures.none c.if-branch.false).1 points h) c.if-b-le1.false
      (get_or c.quarters-q-items.result c.loop-q.q-index (record { y = 0; x = 0; side = 0 }))
      (subst (λ (l : List Block). Contains l (get_or c.quarters-q-items.result c.loop-q.q-index (record { y = 0; x = 0; side = 0 })))
      c.quarters-q-items.ensures.value
      (member_at c.quarters-q-items.result c.loop-q.q-index (record { y = 0; x = 0; side = 0 }) (let lt = c.loop-q-test.true in
      let four = ap length c.quarters-q-items.ensures.value in omega arith))))
      (quarter_side k _ _ (quarter_at c.args.layer.level c.args.b c.quarters-q-items.result c.loop-q.q-index (record { y = 0; x = 0; side = 0 })
      c.requires.block c.if-b-le1.false c.quarters-q-items.ensures.value c.loop-q-test.true).half e));
  left = read_on _ g.met.S.PageStore.goes_on _ _ _ c.loop-q.invariant.left c.in_ok-add_within.ensures.left;
  search = search_along _ _ c.args.tree.now c.args.layer.level c.args.layer.bucket c.args.layer.number c.add_within.new.search
      (sym c.loop-q.invariant.left.told) c.in_ok-add_within.ensures.search;
}

pub returns-clause-found : goal.returns-clause-found
returns-clause-found g t c points h o =
    found_all points (in_window c.args.w) c.args.layer.level c.args.b c.quarters-q-items.result c.loop-q.q-index c.requires.block c.if-b-le1.false
    c.quarters-q-items.ensures.value c.loop-q-test.false
    c.args.found.now.items c.loop-q.found.items (c.loop-q.invariant.found points h o)

pub returns-in_err-add_within-clause-left : goal.returns-in_err-add_within-clause-left
returns-in_err-add_within-clause-left g t c =
    rw (handed_on c.from_residual-in_err-add_within.result c.from_residual-in_err-add_within.ensures.1)
    (only_reads_err _ (only_reads_then _ g.met.S.PageStore.goes_on _ _ _ c.loop-q.invariant.left c.in_err-add_within.ensures.left))

pub returns-then-not-meets-clause-covered : goal.returns-then-not-meets-clause-covered
returns-then-not-meets-clause-covered g t c rs p is inside on = absurd (meets_none c.args.w c.args.b (sym c.meets.ensures ∙ c.if-not-meets.true) p on inside)

pub returns-clause-covered : goal.returns-clause-covered
returns-clause-covered g t c rs p is inside on =
    let q = quarter_pixel c.args.layer.level c.args.b c.quarters-q-items.result c.loop-q.q-index p c.requires.block c.if-b-le1.false
    c.quarters-q-items.ensures.value c.loop-q-test.false on in
    c.loop-q.invariant.covered rs p is inside q.0 q.1 q.2

pub meets-requires-clause-block : goal.meets-requires-clause-block
meets-requires-clause-block g t c = side_pos c.args.layer.level c.args.b c.requires.block

pub meets-requires-clause-window : goal.meets-requires-clause-window
meets-requires-clause-window g t c = window_sides c.args.layer.level c.args.w c.requires.window

pub returns-then-not-meets-clause-reads : goal.returns-then-not-meets-clause-reads
returns-then-not-meets-clause-reads g t c points k h o e =
    reads_none ((6 + 3 * c.args.layer.bucket) * visited k c.args.layer.bucket points c.args.w c.args.b) (g.S.PageStore.reads c.args.store.now)

pub returns-clause-reads : goal.returns-clause-reads
returns-clause-reads g t c points k h o e =
    let j = wide_power k c.args.b.side c.if-b-le1.false e in
    subst (λ (i : ℕ). Goes {A = ℕ} (λ x y. y ≤ x + (6 + 3 * c.args.layer.bucket) * visited i c.args.layer.bucket points c.args.w c.args.b)
    (g.S.PageStore.reads c.args.store.now) (g.S.PageStore.reads c.loop-q.store)) (sym j.1)
    (reads_within c.args.layer.bucket points c.args.w (6 + 3 * c.args.layer.bucket) j.0 c.args.b c.quarters-q-items.result c.loop-q.q-index _ _
    c.quarters-q-items.ensures.value (sym c.meets.ensures ∙ c.if-not-meets.false)
    (open_many c.args.layer.level c.args.layer.bucket points c.args.b o
    ((c.in_ok-visit.ensures.none c.if-branch.false).1 points h))
    (c.loop-q.invariant.reads points j.0 h o (e ∙ ap (λ (i : ℕ). 2 ^ i) j.1)))

pub returns-then-branch-clause-reads : goal.returns-then-branch-clause-reads
returns-then-branch-clause-reads g t c points k h o e =
    reads_once c.args.layer.bucket points c.args.w (6 + 3 * c.args.layer.bucket) k c.args.b _ _ (sym c.meets.ensures ∙ c.if-not-meets.false)
    c.in_ok-visit.ensures.reads

pub returns-clause-search : goal.returns-clause-search
returns-clause-search g t c = c.loop-q.invariant.search

pub returns-in_err-add_within-clause-zero : goal.returns-in_err-add_within-clause-zero
returns-in_err-add_within-clause-zero g t c =
    zero_handed _ c.from_residual-in_err-add_within.result c.from_residual-in_err-add_within.ensures.1
    c.args.tree.now c.loop-q.invariant.left.told c.in_err-add_within.ensures.zero

pub returns-in_err-add_within-clause-bad : goal.returns-in_err-add_within-clause-bad
returns-in_err-add_within-clause-bad g t c =
    bad_handed _ c.from_residual-in_err-add_within.result c.from_residual-in_err-add_within.ensures.1
    c.args.tree.now c.loop-q.invariant.left.told c.in_err-add_within.ensures.bad

pub returns-then-branch-clause-covered : goal.returns-then-branch-clause-covered
returns-then-branch-clause-covered g t c rs p is inside on =
    record { block = c.args.b; holds = on; has = c.in_ok-visit.ensures.covered c.if-branch.true rs is }

pub returns-in_err-visit-clause-zero : goal.returns-in_err-visit-clause-zero
returns-in_err-visit-clause-zero g t c = rw (handed_on c.from_residual.result c.from_residual.ensures.1) c.in_err-visit.ensures.zero

pub returns-in_err-visit-clause-bad : goal.returns-in_err-visit-clause-bad
returns-in_err-visit-clause-bad g t c = rw (handed_on c.from_residual.result c.from_residual.ensures.1) c.in_err-visit.ensures.bad
