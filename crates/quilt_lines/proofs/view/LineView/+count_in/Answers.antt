use Rattle.std.proofs.Common.{◌+◌, ◌-◌, ◌^◌, ◌<◌, ℕ, List, flat_map, length, get_or, count_by, sym, ◌∙◌, ap, subst, arith}
use Rattle.std.specs.Prelude.{◌==◌}
use Rattle.std.proofs.lemmas.List.{take_all}
use Rattle.quilt_store.proofs.Reading.{only_reads_then, read_on, only_reads_err}
use Rattle.quilt_types.specs.declared.plane.Block.{Block}
use Rattle.quilt_types.specs.Plane.{side}
use Rattle.quilt_loc.proofs.Blocks.{IsBlock-up}
use Rattle.quilt_btree.specs.Trees.{IsRooted}
use Rattle.quilt_near.proofs.Reached.{reached_quarter}
use Rattle.quilt_lines.specs.Counting.{held_in, pages_in}
use Rattle.quilt_lines.proofs.Counts.{held_here, held_below, one_counted, one_most, count_next, four_fold}
use Rattle.quilt_lines.proofs.Counts.{four_pos, room_next, room_all, room_step, wide_side, side_fold, pages_some, pages_below}
use Rattle.quilt_lines.proofs.Costs.{reads_next, reads_all}
use Rattle.quilt_lines.proofs.Sums.{reads_more}
use Rattle.quilt_lines.proofs.Listed.{one_pixel}
use Rattle.quilt_lines.proofs.Lookups.{lines_along}
use Rattle.quilt_lines.proofs.Quarters.{quarter_at, quarter_side, quarter_in}
use Rattle.quilt_btree.proofs.Handed.{handed_on}
use Rattle.quilt_btree.proofs.Stops.{zero_handed}
use Rattle.quilt_lines.proofs.view.LineView.+count_in.Goals as goal

pub returns-in_err-has_block-clause-sound : goal.returns-in_err-has_block-clause-sound
returns-in_err-has_block-clause-sound g t c =
    rw (handed_on c.from_residual.result c.from_residual.ensures.1) (λ t' segs cover h reached. c.in_err-has_block.ensures.sound t' segs cover h)

pub count_one-requires-clause-room : goal.count_one-requires-clause-room
count_one-requires-clause-room g t c =
    let room = c.requires.room c.args.k in
    let pos = four_pos c.args.k in
    omega arith

pub returns-then-branch-clause-counts : goal.returns-then-branch-clause-counts
returns-then-branch-clause-counts g t c t' segs cover h j =
    one_counted c.args.b c.args.k c.args.counts.now c.count_one.new.counts c.requires.side c.count_one.ensures.here c.count_one.ensures.others j
    ∙ ap (λ (bs : List Block). get_or c.args.counts.now j 0 + count_by (λ d. d.side == side j) bs)
    (sym (held_here cover c.args.k c.args.b (sym (c.in_ok-has_block.ensures.there t' segs cover h) ∙ c.if-branch.true)))

pub returns-then-branch-clause-most : goal.returns-then-branch-clause-most
returns-then-branch-clause-most g t c = one_most c.args.k c.args.counts.now c.count_one.new.counts c.count_one.ensures.here c.count_one.ensures.others

pub returns-then-k-eq0-clause-sound : goal.returns-then-k-eq0-clause-sound
returns-then-k-eq0-clause-sound g t c t' segs cover h reached page e =
    let one = c.requires.side ∙ ap side c.if-k-eq0.true in
    one_pixel c.args.self.now.level c.args.self.now.layer t' segs cover c.args.b h.spelled.valid c.requires.block (omega arith) reached
    (sym (c.in_ok-has_block.ensures.there t' segs cover h) ∙ c.if-branch.false)

pub quarters-q-items-requires-clause-valid : goal.quarters-q-items-requires-clause-valid
quarters-q-items-requires-clause-valid g t c = IsBlock-up c.args.self.now.level 12 c.args.b c.args.self.now.has_level.1 c.requires.block

pub quarters-q-items-requires-clause-wide : goal.quarters-q-items-requires-clause-wide
quarters-q-items-requires-clause-wide g t c = wide_side c.args.b c.args.k c.requires.side (let some = c.if-k-eq0.false in omega arith)

pub count_in-requires : goal.count_in-requires
count_in-requires g t c κs within =
    let some : 0 < c.args.k = let no = c.if-k-eq0.false in omega arith in
    let wide = wide_side c.args.b c.args.k c.requires.side some in
    let q = quarter_at c.args.self.now.level c.args.b c.quarters-q-items.result c.loop-q.q-index (record { y = 0; x = 0; side = 0 }) c.requires.block wide
    c.quarters-q-items.ensures.value c.loop-q-test.true in
    let rooted = subst (λ (s : ℕ). IsRooted s c.args.self.now.tree) (sym c.loop-q.invariant.left.size) c.requires.rooted in
    let size =
    quarter_side c.args.self.now.level c.args.b c.quarters-q-items.result c.loop-q.q-index (record { y = 0; x = 0; side = 0 }) c.requires.block wide
    c.quarters-q-items.ensures.value c.loop-q-test.true (c.args.k - 1) (c.requires.side ∙ side_fold c.args.k some) in (
      omega arith,
      (
        within,
        (
          rooted,
          (
            q.block,
            (
              size,
              (
                omega arith,
                λ j.
                    let fold = four_fold c.args.k some in
                    let room = c.requires.room j in
                    let next = room_next c.loop-q.q-index (4 ^ (c.args.k - 1)) (get_or c.args.counts.now j 0) (get_or c.loop-q.counts j 0)
                    (c.loop-q.invariant.most j) c.loop-q-test.true in
                    omega arith,
              ),
            ),
          ),
        ),
      ),
    )

pub returns-in_err-count_in-clause-sound : goal.returns-in_err-count_in-clause-sound
returns-in_err-count_in-clause-sound g t c =
    rw (handed_on c.from_residual-in_err-count_in.result c.from_residual-in_err-count_in.ensures.1) (λ t' segs cover h reached. let self = c.args.self.now in
    let valid = h.spelled.valid in
    let some : 0 < c.args.k = let no = c.if-k-eq0.false in omega arith in
    let q = get_or c.quarters-q-items.result c.loop-q.q-index (record { y = 0; x = 0; side = 0 }) in
    c.in_err-count_in.ensures.sound t' segs cover (lines_along _ _ self.tree self.layer self.level t' segs cover c.loop-q.invariant.left.told h)
    (reached_quarter self.level (record { segs = segs; cover = cover }) (record { inside = valid.inside; each = valid.each; once = valid.once }) c.args.b q
    c.requires.block (wide_side c.args.b c.args.k c.requires.side some) reached
    (sym (c.in_ok-has_block.ensures.there t' segs cover h) ∙ c.if-branch.false)
    (quarter_in c.args.b c.quarters-q-items.result c.loop-q.q-index (record { y = 0; x = 0; side = 0 }) c.quarters-q-items.ensures.value c.loop-q-test.true)))

pub loop-q-preserved : goal.loop-q-preserved
loop-q-preserved g t c =
    let self = c.args.self.now in
    record {
      counts = λ t' segs cover h j.
          let four = ap length c.quarters-q-items.ensures.value in
          count_next (held_in cover (c.args.k - 1)) (λ d. d.side == side j) c.quarters-q-items.result c.loop-q.q-index (record { y = 0; x = 0; side = 0 })
          (get_or c.args.counts.now j 0) (get_or c.loop-q.counts j 0) (get_or c.count_in.new.counts j 0)
          (let lt = c.loop-q-test.true in omega arith) (c.loop-q.invariant.counts t' segs cover h j)
          (c.in_ok-count_in.ensures.counts t' segs cover (lines_along _ _ self.tree self.layer self.level t' segs cover c.loop-q.invariant.left.told h) j);
      most = λ j. room_step c.loop-q.q-index (4 ^ (c.args.k - 1)) (get_or c.args.counts.now j 0) (get_or c.loop-q.counts j 0)
          (get_or c.count_in.new.counts j 0) (c.loop-q.invariant.most j) (c.in_ok-count_in.ensures.most j);
      reads = λ t' segs cover h.
          let four = ap length c.quarters-q-items.ensures.value in
          reads_next (pages_in cover (c.args.k - 1)) c.quarters-q-items.result c.loop-q.q-index (record { y = 0; x = 0; side = 0 }) 6 _ _ _
          (let lt = c.loop-q-test.true in omega arith) (c.loop-q.invariant.reads t' segs cover h)
          (c.in_ok-count_in.ensures.reads t' segs cover (lines_along _ _ self.tree self.layer self.level t' segs cover c.loop-q.invariant.left.told h));
      left = read_on _ g.met.S.PageStore.goes_on _ _ _ c.loop-q.invariant.left c.in_ok-count_in.ensures.left;
    }

pub returns-clause-counts : goal.returns-clause-counts
returns-clause-counts g t c t' segs cover h j =
    let some : 0 < c.args.k = let no = c.if-k-eq0.false in omega arith in
    let four = ap length c.quarters-q-items.ensures.value in
    let below = held_below cover c.args.k c.args.b some (sym (c.in_ok-has_block.ensures.there t' segs cover h) ∙ c.if-branch.false) in
    c.loop-q.invariant.counts t' segs cover h j
    ∙ ap (λ (bs : List Block). get_or c.args.counts.now j 0 + count_by (λ d. d.side == side j) bs)
    (ap (flat_map (held_in cover (c.args.k - 1)))
    (take_all c.loop-q.q-index c.quarters-q-items.result (let end = c.loop-q-test.false in omega arith) ∙ c.quarters-q-items.ensures.value) ∙ sym below)

pub returns-clause-most : goal.returns-clause-most
returns-clause-most g t c j =
    let some : 0 < c.args.k = let no = c.if-k-eq0.false in omega arith in
    let fold = four_fold c.args.k some in
    let all = room_all c.loop-q.q-index (4 ^ (c.args.k - 1)) (get_or c.args.counts.now j 0) (get_or c.loop-q.counts j 0) (c.loop-q.invariant.most j)
    c.loop-q.auto.q-index-end in
    omega arith

pub returns-in_err-count_in-clause-left : goal.returns-in_err-count_in-clause-left
returns-in_err-count_in-clause-left g t c =
    rw (handed_on c.from_residual-in_err-count_in.result c.from_residual-in_err-count_in.ensures.1)
    (only_reads_err _ (only_reads_then _ g.met.S.PageStore.goes_on _ _ _ c.loop-q.invariant.left c.in_err-count_in.ensures.left))

pub returns-then-branch-clause-reads : goal.returns-then-branch-clause-reads
returns-then-branch-clause-reads g t c t' segs cover h = reads_more _ _ 6 _ (pages_some cover c.args.k c.args.b) c.in_ok-has_block.ensures.reads

pub returns-clause-reads : goal.returns-clause-reads
returns-clause-reads g t c t' segs cover h =
    let some : 0 < c.args.k = let no = c.if-k-eq0.false in omega arith in
    let four = ap length c.quarters-q-items.ensures.value in
    reads_all (pages_in cover (c.args.k - 1)) c.quarters-q-items.result c.loop-q.q-index 6 (pages_in cover c.args.k c.args.b) _ _
    (let end = c.loop-q-test.false in omega arith)
    (pages_below cover c.args.k c.args.b c.quarters-q-items.result some (sym (c.in_ok-has_block.ensures.there t' segs cover h) ∙ c.if-branch.false)
    c.quarters-q-items.ensures.value)
    (c.loop-q.invariant.reads t' segs cover h)

pub returns-in_err-count_in-clause-zero : goal.returns-in_err-count_in-clause-zero
returns-in_err-count_in-clause-zero g t c =
    zero_handed _ c.from_residual-in_err-count_in.result c.from_residual-in_err-count_in.ensures.1
    c.args.self.now.tree c.loop-q.invariant.left.told c.in_err-count_in.ensures.zero

pub returns-in_err-has_block-clause-zero : goal.returns-in_err-has_block-clause-zero
returns-in_err-has_block-clause-zero g t c = rw (handed_on c.from_residual.result c.from_residual.ensures.1) c.in_err-has_block.ensures.zero
