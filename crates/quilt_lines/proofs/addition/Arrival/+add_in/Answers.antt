use Rattle.std.proofs.Common.{ℕ, ◌+◌, ◌*◌, List, flat_map, length, take, get_or, sum_by, sym, ◌∙◌, ap, subst, arith, vec_len}
use Rattle.std.proofs.lemmas.Result.{on_ok_weaker, IfErr-weaker}
use Rattle.std.proofs.lemmas.Option.{MatchOption-at_none, MatchOption-at_some}
use Rattle.quilt_store.proofs.Reading.{only_reads_then, read_on, only_reads_err, only_reads_ok}
use Rattle.quilt_types.specs.declared.plane.Block.{Block}
use Rattle.quilt_loc.proofs.Blocks.{IsBlock-up}
use Rattle.quilt_btree.specs.Trees.{IsRooted}
use Rattle.quilt_line_laws.specs.Merging.{met_in}
use Rattle.quilt_near.proofs.Reached.{reached_quarter}
use Rattle.quilt_lines.specs.Adding.{IsAdded}
use Rattle.quilt_lines.specs.Bounds.{is_met, due}
use Rattle.quilt_lines.proofs.Costs.{due_leaf, due_split, reads_next, reads_all}
use Rattle.quilt_lines.proofs.Sums.{reads_none, reads_sum, reads_more}
use Rattle.quilt_lines.proofs.Results.{on_ok_any}
use Rattle.quilt_lines.proofs.plans.Additions.{added_none, added_next, added_all, added_below, met_away, met_here}
use Rattle.quilt_lines.proofs.Listed.{one_pixel}
use Rattle.quilt_lines.proofs.Lookups.{lines_along}
use Rattle.quilt_lines.proofs.Around.{search_along}
use Rattle.quilt_lines.proofs.Quarters.{quarter_at, quarter_side, quarter_in}
use Rattle.quilt_btree.proofs.Handed.{handed_on}
use Rattle.quilt_btree.proofs.Stops.{zero_along, zero_handed}
use Rattle.quilt_lines.proofs.addition.Arrival.+add_in.Goals as goal

pub returns-then-not-meets-clause-added : goal.returns-then-not-meets-clause-added
returns-then-not-meets-clause-added g t c segs cover h new k e =
    let self = c.args.self.now in
    subst (λ (bs : List Block). IsAdded self.view.level self.view.layer self.t segs self.id self.s bs c.args.change.now.gone.items
    c.args.change.now.gone.items c.args.change.now.come.items c.args.change.now.come.items)
    (sym (met_away cover self.s k c.args.b (sym c.if-not-meets.ensures.value)))
    (added_none self.view.level self.view.layer self.t segs self.id self.s c.args.change.now.gone.items c.args.change.now.come.items)

pub returns-in_err-ids-clause-sound : goal.returns-in_err-ids-clause-sound
returns-in_err-ids-clause-sound g t c =
    rw (handed_on c.from_residual.result c.from_residual.ensures.1) (λ segs cover h reached. c.in_err-ids.ensures.sound c.args.self.now.t segs cover h)

pub returns-in-Some-clause-added : goal.returns-in-Some-clause-added
returns-in-Some-clause-added g t c =
    let self = c.args.self.now in
    on_ok_weaker c.add_block.result (λ f segs cover h new k e.
    let at = MatchOption-at_some _ _ c.in-Some.ids c.in-Some.is (c.in_ok-ids.ensures.ids self.t segs cover h) in
    subst (λ (bs : List Block). IsAdded self.view.level self.view.layer self.t segs self.id self.s bs c.args.change.now.gone.items
    c.add_block.new.change.gone.items c.args.change.now.come.items c.add_block.new.change.come.items)
    (sym (met_here cover self.s k c.args.b (sym c.if-not-meets.ensures.value) at.there))
    (f segs cover (lines_along _ _ self.view.tree self.view.layer self.view.level self.t segs cover c.in_ok-ids.ensures.left.told h) new
    (c.deref.ensures.value ∙ at.are) (sym c.if-not-meets.ensures.value))) c.add_block.ensures.added

pub returns-in-Some-clause-sound : goal.returns-in-Some-clause-sound
returns-in-Some-clause-sound g t c =
    let self = c.args.self.now in
    IfErr-weaker c.add_block.result _ _ (λ e f segs cover h reached.
    let at = MatchOption-at_some _ _ c.in-Some.ids c.in-Some.is (c.in_ok-ids.ensures.ids self.t segs cover h) in
    f segs cover (lines_along _ _ self.view.tree self.view.layer self.view.level self.t segs cover c.in_ok-ids.ensures.left.told h)
    (c.deref.ensures.value ∙ at.are)) c.add_block.ensures.sound

pub returns-then-b-le1-clause-sound : goal.returns-then-b-le1-clause-sound
returns-then-b-le1-clause-sound g t c segs cover h reached page e =
    let self = c.args.self.now in
    one_pixel self.view.level self.view.layer self.t segs cover c.args.b h.spelled.valid c.requires.block c.if-b-le1.true reached
    (MatchOption-at_none _ _ c.in_default.is (c.in_ok-ids.ensures.ids self.t segs cover h))

pub quarters-q-items-requires-clause-valid : goal.quarters-q-items-requires-clause-valid
quarters-q-items-requires-clause-valid g t c = IsBlock-up c.args.self.now.view.level 12 c.args.b c.args.self.now.view.has_level.1 c.requires.block

pub add_in-requires : goal.add_in-requires
add_in-requires g t c κs within =
    let q = quarter_at c.args.self.now.view.level c.args.b c.quarters-q-items.result c.loop-q.q-index (record { y = 0; x = 0; side = 0 }) c.requires.block
    c.if-b-le1.false c.quarters-q-items.ensures.value c.loop-q-test.true in
    let half = q.half in
    let rooted = subst (λ (s : ℕ). IsRooted s c.args.self.now.view.tree) (sym c.loop-q.invariant.left.size) c.requires.rooted in
    let search = search_along _ _ c.args.self.now.view.tree c.args.self.now.view.level c.args.self.now.view.layer c.loop-q.search c.loop-q.invariant.left.told
    c.loop-q.invariant.search in
    (omega arith, (within, (rooted, (search, q.block))))

pub returns-in_err-add_in-clause-sound : goal.returns-in_err-add_in-clause-sound
returns-in_err-add_in-clause-sound g t c =
    rw (handed_on c.from_residual-in_err-add_in.result c.from_residual-in_err-add_in.ensures.1) (λ segs cover h reached. let self = c.args.self.now in
    let valid = h.spelled.valid in
    let q = get_or c.quarters-q-items.result c.loop-q.q-index (record { y = 0; x = 0; side = 0 }) in
    c.in_err-add_in.ensures.sound segs cover (lines_along _ _ self.view.tree self.view.layer self.view.level self.t segs cover c.loop-q.invariant.left.told h)
    (reached_quarter self.view.level (record { segs = segs; cover = cover }) (record { inside = valid.inside; each = valid.each; once = valid.once })
    c.args.b q c.requires.block c.if-b-le1.false reached
    (MatchOption-at_none _ _ c.in_default.is (c.in_ok-ids.ensures.ids self.t segs cover h))
    (quarter_in c.args.b c.quarters-q-items.result c.loop-q.q-index (record { y = 0; x = 0; side = 0 }) c.quarters-q-items.ensures.value c.loop-q-test.true)))

pub loop-q-init : goal.loop-q-init
loop-q-init g t c =
    let self = c.args.self.now in
    record {
      added = λ segs cover h new k e.
          added_none self.view.level self.view.layer self.t segs self.id self.s c.args.change.now.gone.items c.args.change.now.come.items;
      search = c.in_ok-ids.ensures.search;
      left = only_reads_ok _ c.in_ok-ids.ensures.left tt;
      reads = λ segs cover h reached.
          reads_more _ _ 9 (12 + sum_by (due self.view.level (is_met self.s) segs cover) (take 0 c.quarters-q-items.result)) (omega arith)
          (MatchOption-at_none _ _ c.in_default.is c.in_ok-ids.ensures.reads);
    }

pub loop-q-preserved : goal.loop-q-preserved
loop-q-preserved g t c =
    let self = c.args.self.now in
    let qs = c.quarters-q-items.result in
    record {
      added = λ segs cover h new k e.
          let four = ap length c.quarters-q-items.ensures.value in
          added_next self.view.level self.view.layer self.t segs self.id self.s (met_in cover self.s k) c.quarters-q-items.result c.loop-q.q-index
          (record { y = 0; x = 0; side = 0 })
          c.args.change.now.gone.items c.loop-q.change.gone.items c.add_in.new.change.gone.items c.args.change.now.come.items c.loop-q.change.come.items
          c.add_in.new.change.come.items
          (let lt = c.loop-q-test.true in omega arith) (c.loop-q.invariant.added segs cover h new k e)
          (c.in_ok-add_in.ensures.added segs cover (lines_along _ _ self.view.tree self.view.layer self.view.level self.t segs cover c.loop-q.invariant.left.told
          h) new k
          (quarter_side self.view.level c.args.b c.quarters-q-items.result c.loop-q.q-index (record { y = 0; x = 0; side = 0 }) c.requires.block
          c.if-b-le1.false c.quarters-q-items.ensures.value c.loop-q-test.true k e));
      search = search_along _ _ self.view.tree self.view.level self.view.layer c.add_in.new.search (sym c.loop-q.invariant.left.told) c.in_ok-add_in.ensures.search;
      left = read_on _ g.met.S.PageStore.goes_on _ _ _ c.loop-q.invariant.left c.in_ok-add_in.ensures.left;
      reads = λ segs cover h reached.
          let four = ap length c.quarters-q-items.ensures.value in
          let valid = h.spelled.valid in
          let none : Block = record { y = 0; x = 0; side = 0 } in
          reads_next (due self.view.level (is_met self.s) segs cover) qs c.loop-q.q-index none 12 _ _ _ (let lt = c.loop-q-test.true in omega arith)
          (c.loop-q.invariant.reads segs cover h reached)
          (c.in_ok-add_in.ensures.reads segs cover (lines_along _ _ self.view.tree self.view.layer self.view.level self.t segs cover c.loop-q.invariant.left.told h)
          (reached_quarter self.view.level (record { segs = segs; cover = cover }) (record { inside = valid.inside; each = valid.each; once = valid.once })
          c.args.b (get_or qs c.loop-q.q-index none) c.requires.block c.if-b-le1.false reached
          (MatchOption-at_none _ _ c.in_default.is (c.in_ok-ids.ensures.ids self.t segs cover h))
          (quarter_in c.args.b qs c.loop-q.q-index none c.quarters-q-items.ensures.value c.loop-q-test.true)));
    }

pub returns-clause-added : goal.returns-clause-added
returns-clause-added g t c segs cover h new k e =
    let self = c.args.self.now in
    let away = MatchOption-at_none _ _ c.in_default.is (c.in_ok-ids.ensures.ids self.t segs cover h) in
    let four = ap length c.quarters-q-items.ensures.value in
    added_below self.view.level self.view.layer self.t segs self.id self.s cover k c.args.b c.args.change.now.gone.items c.loop-q.change.gone.items
    c.args.change.now.come.items c.loop-q.change.come.items e c.if-b-le1.false (sym c.if-not-meets.ensures.value) away
    (λ j f.
    subst (λ (bs : List Block). IsAdded self.view.level self.view.layer self.t segs self.id self.s bs c.args.change.now.gone.items
    c.loop-q.change.gone.items c.args.change.now.come.items c.loop-q.change.come.items) (ap (flat_map (met_in cover self.s j)) c.quarters-q-items.ensures.value)
    (added_all self.view.level self.view.layer self.t segs self.id self.s (met_in cover self.s j) c.quarters-q-items.result c.loop-q.q-index
    c.args.change.now.gone.items c.loop-q.change.gone.items c.args.change.now.come.items c.loop-q.change.come.items
    (let end = c.loop-q-test.false in omega arith) (c.loop-q.invariant.added segs cover h new j f)))

pub returns-in-Some-clause-left : goal.returns-in-Some-clause-left
returns-in-Some-clause-left g t c = only_reads_then _ g.met.S.PageStore.goes_on _ _ _ c.in_ok-ids.ensures.left c.add_block.ensures.left

pub returns-in_err-add_in-clause-left : goal.returns-in_err-add_in-clause-left
returns-in_err-add_in-clause-left g t c =
    rw (handed_on c.from_residual-in_err-add_in.result c.from_residual-in_err-add_in.ensures.1)
    (only_reads_err _ (only_reads_then _ g.met.S.PageStore.goes_on _ _ _ c.loop-q.invariant.left c.in_err-add_in.ensures.left))

pub returns-then-not-meets-clause-reads : goal.returns-then-not-meets-clause-reads
returns-then-not-meets-clause-reads g t c segs cover h reached = reads_none (g.S.PageStore.reads c.args.store.now) _

pub returns-in-Some-clause-reads : goal.returns-in-Some-clause-reads
returns-in-Some-clause-reads g t c =
    let self = c.args.self.now in
    on_ok_weaker c.add_block.result (λ p segs cover h reached.
    let at = MatchOption-at_some _ _ c.in-Some.ids c.in-Some.is (c.in_ok-ids.ensures.ids self.t segs cover h) in
    let le = due_leaf self.view.level (is_met self.s) segs cover c.args.b c.requires.block (sym c.if-not-meets.ensures.value) reached c.in-Some.ids.items at in
    let same = ap length c.deref.ensures.value in
    let len = c.deref.ensures.len in
    reads_sum _ _ _ (12 + 3 * vec_len c.in-Some.ids) (3 * length c.deref.result.now) (due self.view.level (is_met self.s) segs cover c.args.b) (omega arith)
    (MatchOption-at_some _ _ c.in-Some.ids c.in-Some.is c.in_ok-ids.ensures.reads) p) c.add_block.ensures.reads

pub returns-clause-reads : goal.returns-clause-reads
returns-clause-reads g t c segs cover h reached =
    let self = c.args.self.now in
    let qs = c.quarters-q-items.result in
    let four = ap length c.quarters-q-items.ensures.value in
    let away = MatchOption-at_none _ _ c.in_default.is (c.in_ok-ids.ensures.ids self.t segs cover h) in
    let f = due self.view.level (is_met self.s) segs cover in
    let le = due_split self.view.level (is_met self.s) segs cover c.args.b c.requires.block (sym c.if-not-meets.ensures.value) reached away c.if-b-le1.false in
    let all = ap (sum_by f) c.quarters-q-items.ensures.value in
    reads_all f qs c.loop-q.q-index 12 (f c.args.b) _ _ (let end = c.loop-q-test.false in omega arith) (omega arith) (c.loop-q.invariant.reads segs cover h reached)

pub returns-in-Some-clause-search : goal.returns-in-Some-clause-search
returns-in-Some-clause-search g t c = on_ok_any c.add_block.result _ c.in_ok-ids.ensures.search

pub returns-clause-search : goal.returns-clause-search
returns-clause-search g t c = c.loop-q.invariant.search

pub returns-in-Some-clause-zero : goal.returns-in-Some-clause-zero
returns-in-Some-clause-zero g t c =
    zero_along c.args.self.now.view.tree c.add_block.result c.in_ok-ids.ensures.left.told c.add_block.ensures.zero

pub returns-in_err-add_in-clause-zero : goal.returns-in_err-add_in-clause-zero
returns-in_err-add_in-clause-zero g t c =
    zero_handed _ c.from_residual-in_err-add_in.result c.from_residual-in_err-add_in.ensures.1
    c.args.self.now.view.tree c.loop-q.invariant.left.told c.in_err-add_in.ensures.zero

pub returns-in_err-ids-clause-zero : goal.returns-in_err-ids-clause-zero
returns-in_err-ids-clause-zero g t c = rw (handed_on c.from_residual.result c.from_residual.ensures.1) c.in_err-ids.ensures.zero
