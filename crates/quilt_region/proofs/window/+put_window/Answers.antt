use Rattle.std.proofs.Common.{◌≡◌, ℕ, ◌+◌, ◌*◌, ◌/◌, take, get_or, length, sym, ◌∙◌, ap, subst, arith}
use Rattle.std.specs.List.{sum_by}
use Rattle.std.proofs.lemmas.Result.{on_ok_weaker}
use Rattle.std.proofs.lemmas.List.Sums.{sum_by-take-le}
use Rattle.quilt_store.proofs.Reading.{read_on, only_reads_then, only_reads_same, only_reads_free}
use Rattle.quilt_types.specs.declared.plane.Block.{Block}
use Rattle.quilt_types.specs.Plane.{quarters_of, IsBlock}
use Rattle.quilt_loc.specs.Codes.{code_from}
use Rattle.quilt_loc.proofs.Blocks.{IsBlock-up}
use Rattle.quilt_loc.proofs.Intervals.{half_codes}
use Rattle.quilt_blocks.proofs.Adding.{part_at}
use Rattle.quilt_btree.specs.Trees.{IsRooted}
use Rattle.quilt_region.specs.Regions.{HasRegion}
use Rattle.quilt_region.specs.Windows.{leaves_within}
use Rattle.quilt_region.specs.Covers.{cover_of, cover_colour, cost_in}
use Rattle.quilt_world.proofs.ReadCounts.{reads_then, reads_more, reads_none}
use Rattle.quilt_region.proofs.Beside.{if_err_weaker}
use Rattle.quilt_region.proofs.Covers.{beside_cover, met_cover, in_cover, wide_over, half_over, cost_here, cost_quarters, quarter_sum}
use Rattle.quilt_region.proofs.Parts.{block_room, window_room, HasColours-added}
use Rattle.quilt_btree.proofs.Handed.{handed_on}
use Rattle.quilt_btree.proofs.Stops.{zero_handed, bad_handed}
use Rattle.quilt_btree.proofs.stores.Looks.{only_reads_handed}
use Rattle.quilt_btree.proofs.ways.Damage.{zero_named}
use Rattle.quilt_region.proofs.window.+put_window.Goals as goal

abbrev zero_block : Block
zero_block = record { y = 0; x = 0; side = 0 }

pub meets-requires-clause-width : goal.meets-requires-clause-width
meets-requires-clause-width g t c = (block_room c.args.level c.args.b c.requires.level.1 c.requires.block).0

pub meets-requires-clause-height : goal.meets-requires-clause-height
meets-requires-clause-height g t c = (block_room c.args.level c.args.b c.requires.level.1 c.requires.block).1

pub meets-requires-clause-window_width : goal.meets-requires-clause-window_width
meets-requires-clause-window_width g t c = (window_room c.args.level c.args.w c.requires.level.1 c.requires.window).0

pub meets-requires-clause-window_height : goal.meets-requires-clause-window_height
meets-requires-clause-window_height g t c = (window_room c.args.level c.args.w c.requires.level.1 c.requires.window).1

pub put_one-requires-clause-block : goal.put_one-requires-clause-block
put_one-requires-clause-block g t c = subst (λ (n : ℕ). IsBlock n c.args.b) (sym c.requires.same_level) c.requires.block

pub returns-then-not-meets-clause-colours : goal.returns-then-not-meets-clause-colours
returns-then-not-meets-clause-colours g t c =
    let n = c.args.level in
    on_ok_weaker c.put_one.result
    (λ law grid h.
    HasColours-added _ _ (cover_colour n grid c.args.side c.args.w) c.args.maker.now.colours c.put_one.new.maker.colours c.requires.same_level
    (law (cover_colour n grid c.args.side c.args.w) (λ p held. beside_cover n grid c.args.side c.args.w c.args.b p c.requires.block
    c.requires.over.power c.requires.wide (sym (c.if-not-meets.ensures {u = tt})) held)))
    c.put_one.ensures.colours

pub returns-then-not-meets-clause-sound : goal.returns-then-not-meets-clause-sound
returns-then-not-meets-clause-sound g t c = if_err_weaker c.put_one.result (λ e law grid h. law) c.put_one.ensures.sound

pub returns-then-not-meets-clause-zero : goal.returns-then-not-meets-clause-zero
returns-then-not-meets-clause-zero g t c = if_err_weaker c.put_one.result (λ e zero rs is. zero) c.put_one.ensures.zero

pub returns-then-not-meets-clause-bad : goal.returns-then-not-meets-clause-bad
returns-then-not-meets-clause-bad g t c = zero_named c.put_one.result _ _ _ c.put_one.ensures.zero

pub returns-then-not-meets-clause-left : goal.returns-then-not-meets-clause-left
returns-then-not-meets-clause-left g t c =
    only_reads_free _ c.put_one.result (only_reads_same _ c.args.level _ (g.met.S.PageStore.same_time _)) c.put_one.ensures.no_fault

pub returns-then-not-meets-clause-reads : goal.returns-then-not-meets-clause-reads
returns-then-not-meets-clause-reads g t c =
    on_ok_weaker c.put_one.result (λ end grid h. reads_none _ (g.S.PageStore.reads c.args.store.now)) c.put_one.ensures.end

pub returns-then-b-side-clause-colours : goal.returns-then-b-side-clause-colours
returns-then-b-side-clause-colours g t c =
    let n = c.args.level in
    on_ok_weaker c.put_read.result
    (λ law grid h has. law grid (cover_colour n grid c.args.side c.args.w) h
    (λ p held. met_cover n grid c.args.side c.args.w c.args.b p c.requires.block c.if-b-side.true (sym (c.if-not-meets.ensures {u = tt})) held) has)
    c.put_read.ensures.colours

pub returns-then-b-side-clause-reads : goal.returns-then-b-side-clause-reads
returns-then-b-side-clause-reads g t c =
    let n = c.args.level in
    let s = c.args.side in
    on_ok_weaker c.put_read.result
    (λ law grid h.
    let there = in_cover n s c.args.w c.args.b c.requires.window c.requires.over.wide c.requires.over.high c.requires.block c.if-b-side.true
    (sym (c.if-not-meets.ensures {u = tt})) in
    reads_more (12 + 3 * length (leaves_within n grid c.args.b)) (cost_in n grid (cover_of s c.args.w) c.args.b) _ _
    (cost_here n grid (cover_of s c.args.w) c.args.b c.requires.block there) (law grid h))
    c.put_read.ensures.reads

pub quarters-q-items-requires-clause-valid : goal.quarters-q-items-requires-clause-valid
quarters-q-items-requires-clause-valid g t c = IsBlock-up c.args.level 12 c.args.b c.requires.level.1 c.requires.block

pub put_window-requires : goal.put_window-requires
put_window-requires g t c κs within =
    let n = c.args.level in
    let inv = c.loop-q.invariant in
    let wide = wide_over c.args.side c.args.b c.requires.over.power c.requires.wide c.if-b-side.false in
    let q = part_at n c.args.b c.quarters-q-items.result c.loop-q.q-index zero_block c.requires.level.1 c.requires.block wide
    c.quarters-q-items.ensures.value c.loop-q-test.true in
    let half = half_over n c.args.side c.args.b c.requires.block c.requires.over.power c.requires.wide c.if-b-side.false
    (get_or c.quarters-q-items.result c.loop-q.q-index zero_block) q.half in
    let rooted = subst (λ (size : ℕ). IsRooted size c.args.tree.now) (sym inv.left.size) c.requires.rooted in
    let smaller = q.smaller in (
      omega arith,
      (
        within,
        (
          rooted,
          (
            c.requires.layer,
            (
              c.requires.level,
              (
                c.requires.window,
                (
                  c.requires.over,
                  (inv.level, (q.block, (half, inv.long ∙ sym q.from))),
                ),
              ),
            ),
          ),
        ),
      ),
    )

pub returns-in_err-put_window-clause-sound : goal.returns-in_err-put_window-clause-sound
returns-in_err-put_window-clause-sound g t c =
    rw (handed_on c.from_residual.result c.from_residual.ensures.1)
    (λ grid h. c.in_err-put_window.ensures.sound grid (subst (λ told. HasRegion told c.args.tree.now c.args.layer c.args.level grid)
    (sym c.loop-q.invariant.left.told) h))

pub loop-q-preserved : goal.loop-q-preserved
loop-q-preserved g t c =
    let n = c.args.level in
    let inv = c.loop-q.invariant in
    let more = c.in_ok-put_window.ensures in
    let wide = wide_over c.args.side c.args.b c.requires.over.power c.requires.wide c.if-b-side.false in
    let q = part_at n c.args.b c.quarters-q-items.result c.loop-q.q-index zero_block c.requires.level.1 c.requires.block wide
    c.quarters-q-items.ensures.value c.loop-q-test.true in
    record {
      level = more.level;
      long = more.end ∙ q.to;
      colours = λ grid h has. more.colours grid (subst (λ told. HasRegion told c.args.tree.now c.args.layer n grid) (sym inv.left.told) h)
          (inv.colours grid h has);
      left = read_on _ g.met.S.PageStore.goes_on _ _ _ inv.left more.left;
      reads = λ grid h.
          let cost = cost_in n grid (cover_of c.args.side c.args.w) in
          let i = c.loop-q.q-index in
          let qs = quarters_of c.args.b in
          let sum = quarter_sum cost c.args.b c.quarters-q-items.result i zero_block c.quarters-q-items.ensures.value c.loop-q-test.true in
          reads_then (sum_by cost (take i qs)) (cost (get_or c.quarters-q-items.result i zero_block)) (sum_by cost (take (i + 1) qs)) _ _ _ (omega arith)
          (inv.reads grid h) (more.reads grid (subst (λ told. HasRegion told c.args.tree.now c.args.layer n grid) (sym inv.left.told) h));
    }

pub returns-clause-end : goal.returns-clause-end
returns-clause-end g t c =
    let n = c.args.level in
    let b = c.args.b in
    let wide = wide_over c.args.side b c.requires.over.power c.requires.wide c.if-b-side.false in
    let over = c.loop-q-test.false in
    let four : c.loop-q.q-index ≡ 4 = omega arith in
    let codes = half_codes n b c.requires.block c.requires.level.1 wide in
    let all = codes.all in
    c.loop-q.invariant.long ∙ ap (λ i. code_from b + i * (b.side / 2 * (b.side / 2))) four ∙ sym all

pub returns-clause-reads : goal.returns-clause-reads
returns-clause-reads g t c grid h =
    let n = c.args.level in
    let b = c.args.b in
    let wide = wide_over c.args.side b c.requires.over.power c.requires.wide c.if-b-side.false in
    let cost = cost_in n grid (cover_of c.args.side c.args.w) in
    let some = sum_by-take-le cost (quarters_of b) c.loop-q.q-index in
    let all = cost_quarters n grid (cover_of c.args.side c.args.w) b c.requires.block wide in
    reads_more (sum_by cost (take c.loop-q.q-index (quarters_of b))) (cost b) _ _ (omega arith) (c.loop-q.invariant.reads grid h)

pub returns-in_err-put_window-clause-zero : goal.returns-in_err-put_window-clause-zero
returns-in_err-put_window-clause-zero g t c =
    zero_handed _ c.from_residual.result c.from_residual.ensures.1 c.args.tree.now c.loop-q.invariant.left.told c.in_err-put_window.ensures.zero

pub returns-in_err-put_window-clause-bad : goal.returns-in_err-put_window-clause-bad
returns-in_err-put_window-clause-bad g t c =
    bad_handed _ c.from_residual.result c.from_residual.ensures.1 c.args.tree.now c.loop-q.invariant.left.told c.in_err-put_window.ensures.bad

pub returns-in_err-put_window-clause-left : goal.returns-in_err-put_window-clause-left
returns-in_err-put_window-clause-left g t c =
    only_reads_handed _ c.from_residual.ensures.1
    (only_reads_then _ g.met.S.PageStore.goes_on _ _ _ c.loop-q.invariant.left c.in_err-put_window.ensures.left)
