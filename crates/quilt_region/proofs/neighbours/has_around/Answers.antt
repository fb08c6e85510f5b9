use Rattle.std.proofs.Common.{◌≡◌, ℕ, ◌+◌, ◌*◌, ◌^◌, ◌<◌, get_or, sym, ◌∙◌, ap, subst, ⊎_elim, Contains, arith}
use Rattle.std.proofs.lemmas.Bool.{cases_lt}
use Rattle.std.proofs.lemmas.List.{get_or_default}
use Rattle.quilt_store.proofs.Reading.{only_reads_then, read_on, only_reads_err, only_reads_ok}
use Rattle.quilt_types.specs.declared.plane.Block.{Block}
use Rattle.quilt_types.specs.Plane.{quarters_of, parent_of, IsBlock}
use Rattle.quilt_types.specs.Quadtrees.{is_uniform, leaves}
use Rattle.quilt_blocks.proofs.Leaves.{uniform_down}
use Rattle.quilt_loc.proofs.Blocks.{IsBlock-up}
use Rattle.quilt_loc.proofs.Nesting.{side_pos, IsBlock-parent_of, Within-parent_of}
use Rattle.quilt_blocks.proofs.Adding.{part_at}
use Rattle.quilt_region.specs.Regions.{HasRegion}
use Rattle.quilt_region.specs.Windows.{HasAround}
use Rattle.quilt_world.proofs.ReadCounts.{reads_then}
use Rattle.quilt_region.proofs.Nearby.{around_has, around_several, quarter_leaf}
use Rattle.quilt_btree.proofs.Handed.{handed_on}
use Rattle.quilt_btree.proofs.Stops.{zero_handed, bad_handed}
use Rattle.quilt_region.proofs.neighbours.has_around.Goals as goal

larger_block : (n : ℕ) (b larger : Block) → IsBlock n b → b.side < 2 ^ n → larger ≡ parent_of b → IsBlock n larger
larger_block n b larger hb lt is = subst (IsBlock n) (sym is) (IsBlock-parent_of n b hb lt)

larger_wide : (n : ℕ) (b larger : Block) → IsBlock n b → larger ≡ parent_of b → 1 < larger.side
larger_wide n b larger hb is = let pos = side_pos n b hb in let e = ap (λ (z : Block). z.side) is in omega arith

pub quarters-q-items-requires-clause-valid : goal.quarters-q-items-requires-clause-valid
quarters-q-items-requires-clause-valid g c = IsBlock-up c.args.level 12 c.args.larger c.requires.level.1
    (larger_block c.args.level c.args.b c.args.larger c.requires.block c.requires.small c.requires.larger)

pub quarters-q-items-requires-clause-wide : goal.quarters-q-items-requires-clause-wide
quarters-q-items-requires-clause-wide g c = larger_wide c.args.level c.args.b c.args.larger c.requires.block c.requires.larger

pub has_quarter-requires-clause-block : goal.has_quarter-requires-clause-block
has_quarter-requires-clause-block g c =
    (part_at c.args.level c.args.larger c.quarters-q-items.result c.loop-q.q-index (record { y = 0; x = 0; side = 0 }) c.requires.level.1
    (larger_block c.args.level c.args.b c.args.larger c.requires.block c.requires.small c.requires.larger)
    (larger_wide c.args.level c.args.b c.args.larger c.requires.block c.requires.larger) c.quarters-q-items.ensures.value c.loop-q-test.true).block

pub returns-in_err-has_quarter-clause-sound : goal.returns-in_err-has_quarter-clause-sound
returns-in_err-has_quarter-clause-sound g c =
    rw (handed_on c.from_residual.result c.from_residual.ensures.1)
    (λ grid h. c.in_err-has_quarter.ensures.sound grid (subst (λ told. HasRegion told c.args.tree.now c.args.layer c.args.level grid) (sym c.loop-q.invariant.left.told) h))

pub loop-q-preserved : goal.loop-q-preserved
loop-q-preserved g c =
    let inv = c.loop-q.invariant in
    let more = c.in_ok-has_quarter.ensures in
    record {
      others = λ j d grid lt h differ.
          ⊎_elim (λ less. inv.others j d grid less h differ)
          (λ ge.
          let at : j ≡ c.loop-q.q-index = omega arith in
          let z : Block = record { y = 0; x = 0; side = 0 } in
          let test = c.loop-q-test.true in
          let q : get_or c.quarters-q-items.result c.loop-q.q-index z ≡ get_or (quarters_of c.args.larger) j d =
          ap (λ l. get_or l c.loop-q.q-index z) c.quarters-q-items.ensures.value
          ∙ get_or_default (quarters_of c.args.larger) c.loop-q.q-index z d test ∙ ap (λ i. get_or (quarters_of c.args.larger) i d) (sym at) in
          subst (λ (b : Block). Contains (leaves c.args.level grid) (b, c.args.c.0)) q
          (more.yes c.if-not-branch.false grid (subst (λ told. HasRegion told c.args.tree.now c.args.layer c.args.level grid) (sym inv.left.told) h)
          (λ e. differ (sym q ∙ e))))
          (cases_lt j c.loop-q.q-index);
      left = read_on _ g.met.S.PageStore.goes_on _ _ _ inv.left more.left;
      reads = reads_then (6 * c.loop-q.q-index) 6 (6 * (c.loop-q.q-index + 1)) _ _ _ (omega arith) inv.reads more.reads;
    }

pub returns-then-not-branch-clause-no : goal.returns-then-not-branch-clause-no
returns-then-not-branch-clause-no g c f grid h out has =
    let n = c.args.level in
    let b = c.args.b in
    let inv = c.loop-q.invariant in
    let z : Block = record { y = 0; x = 0; side = 0 } in
    let q = get_or c.quarters-q-items.result c.loop-q.q-index z in
    let test = c.loop-q-test.true in
    let no = c.in_ok-has_quarter.ensures.no c.if-not-branch.true grid (subst (λ told. HasRegion told c.args.tree.now c.args.layer n grid)
    (sym inv.left.told) h) in
    let is : get_or c.quarters-q-items.result c.loop-q.q-index z ≡ get_or (quarters_of (parent_of b)) c.loop-q.q-index z =
    ap (λ l. get_or l c.loop-q.q-index z) (c.quarters-q-items.ensures.value ∙ ap quarters_of c.requires.larger) in
    let there : Contains (quarters_of (parent_of b)) q =
    (c.loop-q.q-index, test, get_or_default (quarters_of (parent_of b)) c.loop-q.q-index q z test ∙ sym is) in
    no.1 (quarter_leaf n b c.requires.block c.requires.small grid c.args.c.0 q out
    (subst (λ (l : Block). HasAround n grid l b c.args.c.0) c.requires.larger has) there no.0)

pub returns-clause-yes : goal.returns-clause-yes
returns-clause-yes g c t grid h =
    let n = c.args.level in
    let inv = c.loop-q.invariant in
    subst (λ (l : Block). HasAround n grid l c.args.b c.args.c.0) (sym c.requires.larger)
    (around_has n c.args.b c.requires.block c.requires.small grid c.args.c.0
    (λ j d lt differ.
    let over = c.loop-q-test.false in
    let is = ap (λ (l : Block). get_or (quarters_of l) j d) c.requires.larger in
    subst (λ (q : Block). Contains (leaves n grid) (q, c.args.c.0)) is (inv.others j d grid (omega arith) h (λ e. differ (sym is ∙ e)))))

pub returns-clause-cut_out : goal.returns-clause-cut_out
returns-clause-cut_out g c t grid h =
    let n = c.args.level in
    let inv = c.loop-q.invariant in
    record {
      several = λ lt u.
          around_several n c.args.b c.requires.block c.requires.small grid c.args.c.0
          (λ j d less differ.
          let over = c.loop-q-test.false in
          let is = ap (λ (l : Block). get_or (quarters_of l) j d) c.requires.larger in
          subst (λ (q : Block). Contains (leaves n grid) (q, c.args.c.0)) is (inv.others j d grid (omega arith) h (λ e. differ (sym is ∙ e))))
          (let hl = larger_block n c.args.b c.args.larger c.requires.block c.requires.small c.requires.larger in
          ap (is_uniform n grid) (sym c.requires.larger) ∙ (uniform_down n grid).down c.args.larger (parent_of c.args.larger) hl
          (IsBlock-parent_of n c.args.larger hl lt) (Within-parent_of n c.args.larger hl lt) u);
    }

pub returns-in_err-has_quarter-clause-left : goal.returns-in_err-has_quarter-clause-left
returns-in_err-has_quarter-clause-left g c =
    rw (handed_on c.from_residual.result c.from_residual.ensures.1)
    (only_reads_err _ (only_reads_then _ g.met.S.PageStore.goes_on _ _ _ c.loop-q.invariant.left c.in_err-has_quarter.ensures.left))

pub returns-then-not-branch-clause-left : goal.returns-then-not-branch-clause-left
returns-then-not-branch-clause-left g c = only_reads_ok _ (only_reads_then _ g.met.S.PageStore.goes_on _ _ _ c.loop-q.invariant.left c.in_ok-has_quarter.ensures.left) _

pub returns-in_err-has_quarter-clause-zero : goal.returns-in_err-has_quarter-clause-zero
returns-in_err-has_quarter-clause-zero g c =
    zero_handed _ c.from_residual.result c.from_residual.ensures.1 c.args.tree.now c.loop-q.invariant.left.told c.in_err-has_quarter.ensures.zero

pub returns-in_err-has_quarter-clause-bad : goal.returns-in_err-has_quarter-clause-bad
returns-in_err-has_quarter-clause-bad g c =
    bad_handed _ c.from_residual.result c.from_residual.ensures.1 c.args.tree.now c.loop-q.invariant.left.told c.in_err-has_quarter.ensures.bad

pub returns-in_err-has_quarter-clause-reads : goal.returns-in_err-has_quarter-clause-reads
returns-in_err-has_quarter-clause-reads g c =
    reads_then (6 * c.loop-q.q-index) 6 24 _ _ _ (let lt = c.loop-q-test.true in omega arith) c.loop-q.invariant.reads c.in_err-has_quarter.ensures.reads

pub returns-then-not-branch-clause-reads : goal.returns-then-not-branch-clause-reads
returns-then-not-branch-clause-reads g c =
    reads_then (6 * c.loop-q.q-index) 6 24 _ _ _ (let lt = c.loop-q-test.true in omega arith) c.loop-q.invariant.reads c.in_ok-has_quarter.ensures.reads
