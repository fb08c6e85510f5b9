use Rattle.std.proofs.Common.{◌≡◌, ◌*◌, refl, sym, ◌∙◌, ap, subst, arith}
use Rattle.quilt_store.proofs.Reading.{only_reads_then, only_reads_same, read_on, only_reads_err, only_reads_ok}
use Rattle.quilt_types.specs.declared.plane.Block.{Block}
use Rattle.quilt_types.specs.Plane.{parent_of, IsBlock, Within}
use Rattle.quilt_loc.proofs.Blocks.{side_most}
use Rattle.quilt_loc.proofs.CodeLaws.{pow_same}
use Rattle.quilt_loc.proofs.Nesting.{side_pos, IsBlock-parent_of, Within-parent_of, Within-trans}
use Rattle.quilt_blocks.proofs.Maximal.{Within-self}
use Rattle.quilt_region.specs.Regions.{HasRegion}
use Rattle.quilt_region.specs.Windows.{HasAround}
use Rattle.quilt_region.proofs.Beside.{true_false}
use Rattle.quilt_region.proofs.Counting.{saved_then, saved_more, saved_none}
use Rattle.quilt_region.proofs.Nearby.{not_whole, around_more, around_self, level_more, level_room}
use Rattle.quilt_btree.proofs.Handed.{handed_on}
use Rattle.quilt_btree.proofs.Stops.{zero_handed, bad_handed}
use Rattle.quilt_region.proofs.neighbours.block_up_to.Goals as goal

pub loop-larger-init : goal.loop-larger-init
loop-larger-init g c = record {
  block = c.requires.block;
  inside = Within-self c.args.b;
  same = λ grid h. around_self c.args.level grid c.args.b c.args.c.0;
  cut_out = λ grid h out. out;
  left = only_reads_same _ tt _ (g.met.S.PageStore.same_time c.args.store.now);
  reads = λ j k d e. let same = pow_same j k (sym d ∙ e) in saved_none (24 * j) (24 * k) (g.S.PageStore.reads c.args.store.now) (omega arith);
}

pub has_around-requires-clause-small : goal.has_around-requires-clause-small
has_around-requires-clause-small g c = not_whole c.args.level c.loop-larger.top c.loop-larger.invariant.block (λ e. true_false (c.in-Some.ensures.whole.1 e))

pub loop-larger-smaller : goal.loop-larger-smaller
loop-larger-smaller g c =
    let n = c.args.level in
    let top = c.loop-larger.top in
    let lt = not_whole n top c.loop-larger.invariant.block (λ e. true_false (c.in-Some.ensures.whole.1 e)) in
    let m = side_most n c.requires.level.1 in
    let pos = side_pos n top c.loop-larger.invariant.block in
    let size : c.in-Some.larger.side ≡ 2 * top.side = ap (λ (z : Block). z.side) c.in-Some.ensures.value in
    omega arith

pub loop-larger-preserved : goal.loop-larger-preserved
loop-larger-preserved g c =
    let n = c.args.level in
    let top = c.loop-larger.top in
    let inv = c.loop-larger.invariant in
    let more = c.in_ok-has_around.ensures in
    let lt = not_whole n top inv.block (λ e. true_false (c.in-Some.ensures.whole.1 e)) in
    let is = c.in-Some.ensures.value in
    let larger = IsBlock-parent_of n top inv.block lt in
    record {
      block = subst (IsBlock n) (sym is) larger;
      inside = subst (Within c.args.b) (sym is) (Within-trans c.args.b top (parent_of top) inv.inside (Within-parent_of n top inv.block lt));
      same = λ grid h. around_more n grid c.args.b top c.in-Some.larger c.args.c.0 (inv.same grid h)
          (more.yes c.if-not-branch.false grid (subst (λ told. HasRegion told c.args.tree.now c.args.layer n grid) (sym inv.left.told) h));
      cut_out = λ grid h out. more.cut_out c.if-not-branch.false grid
          (subst (λ told. HasRegion told c.args.tree.now c.args.layer n grid) (sym inv.left.told) h);
      left = read_on _ g.met.S.PageStore.goes_on _ _ _ inv.left more.left;
      reads = λ j k d e.
          let next = level_more n top inv.block lt k (ap (λ (z : Block). z.side) (sym is) ∙ e) in
          saved_then (24 * j) (24 * inv.block.level) 24 (24 * k) _ _ _ (omega arith) (inv.reads j inv.block.level d inv.block.size) more.reads;
    }

pub returns-in_err-has_around-clause-sound : goal.returns-in_err-has_around-clause-sound
returns-in_err-has_around-clause-sound g c =
    rw (handed_on c.from_residual.result c.from_residual.ensures.1)
    (λ grid h. c.in_err-has_around.ensures.sound grid (subst (λ told. HasRegion told c.args.tree.now c.args.layer c.args.level grid) (sym c.loop-larger.invariant.left.told) h))

pub returns-in_err-has_around-clause-reads : goal.returns-in_err-has_around-clause-reads
returns-in_err-has_around-clause-reads g c j d =
    let inv = c.loop-larger.invariant in
    let lt = not_whole c.args.level c.loop-larger.top inv.block (λ e. true_false (c.in-Some.ensures.whole.1 e)) in
    let room = level_room c.args.level c.loop-larger.top inv.block lt in
    saved_then (24 * j) (24 * inv.block.level) 24 (24 * c.args.level) _ _ _ (omega arith) (inv.reads j inv.block.level d inv.block.size) c.in_err-has_around.ensures.reads

pub returns-then-not-branch-clause-ends : goal.returns-then-not-branch-clause-ends
returns-then-not-branch-clause-ends g c grid h out lt has =
    let n = c.args.level in
    let inv = c.loop-larger.invariant in
    c.in_ok-has_around.ensures.no c.if-not-branch.true grid (subst (λ told. HasRegion told c.args.tree.now c.args.layer n grid) (sym inv.left.told) h)
    (inv.cut_out grid h out)
    (subst (λ (l : Block). HasAround n grid l c.loop-larger.top c.args.c.0) (sym c.in-Some.ensures.value) has)

pub returns-then-not-branch-clause-reads : goal.returns-then-not-branch-clause-reads
returns-then-not-branch-clause-reads g c j d =
    let inv = c.loop-larger.invariant in
    let lt = not_whole c.args.level c.loop-larger.top inv.block (λ e. true_false (c.in-Some.ensures.whole.1 e)) in
    let room = level_room c.args.level c.loop-larger.top inv.block lt in
    saved_then (24 * j) (24 * inv.block.level) 24 (24 * c.args.level) _ _ _ (omega arith) (inv.reads j inv.block.level d inv.block.size)
    c.in_ok-has_around.ensures.reads

pub returns-clause-ends : goal.returns-clause-ends
returns-clause-ends g c grid h out lt has = let whole = c.in_default.ensures.whole.0 refl in omega arith

pub returns-clause-reads : goal.returns-clause-reads
returns-clause-reads g c j d =
    let inv = c.loop-larger.invariant in
    let low = inv.block.low in
    saved_more (24 * j) (24 * j) (24 * inv.block.level) (24 * c.args.level) _ _ (omega arith) (inv.reads j inv.block.level d inv.block.size)

pub returns-in_err-has_around-clause-left : goal.returns-in_err-has_around-clause-left
returns-in_err-has_around-clause-left g c =
    rw (handed_on c.from_residual.result c.from_residual.ensures.1)
    (only_reads_err _ (only_reads_then _ g.met.S.PageStore.goes_on _ _ _ c.loop-larger.invariant.left c.in_err-has_around.ensures.left))

pub returns-then-not-branch-clause-left : goal.returns-then-not-branch-clause-left
returns-then-not-branch-clause-left g c = only_reads_ok _ (only_reads_then _ g.met.S.PageStore.goes_on _ _ _ c.loop-larger.invariant.left c.in_ok-has_around.ensures.left) _

pub returns-in_err-has_around-clause-zero : goal.returns-in_err-has_around-clause-zero
returns-in_err-has_around-clause-zero g c =
    zero_handed _ c.from_residual.result c.from_residual.ensures.1 c.args.tree.now c.loop-larger.invariant.left.told c.in_err-has_around.ensures.zero

pub returns-in_err-has_around-clause-bad : goal.returns-in_err-has_around-clause-bad
returns-in_err-has_around-clause-bad g c =
    bad_handed _ c.from_residual.result c.from_residual.ensures.1 c.args.tree.now c.loop-larger.invariant.left.told c.in_err-has_around.ensures.bad
