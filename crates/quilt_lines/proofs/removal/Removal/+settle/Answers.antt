use Rattle.std.proofs.Common.{◌≡◌, ℕ, zero, suc, ◌+◌, ◌*◌, List, take, length, sum_by, get_or, sym, ◌∙◌, ap, subst, arith, Contains, pow-suc, vec_len}
use Rattle.std.proofs.lemmas.Result.{IfOk-weaker, IfErr-weaker, on_ok_weaker}
use Rattle.std.proofs.lemmas.List.{take_all}
use Rattle.std.proofs.lemmas.Option.{MatchOption-at_none, MatchOption-at_some}
use Rattle.quilt_store.proofs.Reading.{read_on, only_reads_then, only_reads_free}
use Rattle.quilt_types.specs.declared.plane.Block.{Block}
use Rattle.quilt_types.specs.Plane.{side, quarters_of}
use Rattle.quilt_loc.proofs.Blocks.{IsBlock-up}
use Rattle.quilt_loc.proofs.Quartered.{quarters_are}
use Rattle.quilt_edits.proofs.Lists.{member_at, take_next}
use Rattle.quilt_btree.specs.Trees.{IsRooted}
use Rattle.quilt_lines.specs.Reads.{AreIdsAt}
use Rattle.quilt_lines.specs.Merges.{BecomesSettled, Gathers}
use Rattle.quilt_lines.proofs.Around.{search_along}
use Rattle.quilt_lines.proofs.Lookups.{lines_along}
use Rattle.quilt_lines.proofs.plans.MergeSteps.{unmet_settles}
use Rattle.quilt_lines.proofs.Gathering.{gathers_next}
use Rattle.quilt_near.proofs.Reached.{reached_quarter}
use Rattle.quilt_lines.specs.Bounds.{is_met_above, due}
use Rattle.quilt_lines.proofs.Costs.{due_leaf, due_cut, due_split, quarter_above, reads_next, reads_all}
use Rattle.quilt_lines.proofs.Sums.{reads_sum, reads_more}
use Rattle.quilt_lines.proofs.Quarters.{quarter_in, quarter_at}
use Rattle.quilt_btree.proofs.Handed.{handed_on}
use Rattle.quilt_btree.proofs.stores.Looks.{only_reads_handed}
use Rattle.quilt_btree.proofs.Stops.{zero_along, zero_handed}
use Rattle.quilt_lines.proofs.removal.Removal.+settle.Goals as goal

pub settle-returns-in_err-ids-clause-sound : goal.settle-returns-in_err-ids-clause-sound
settle-returns-in_err-ids-clause-sound g t c =
    rw (handed_on c.from_residual.result c.from_residual.ensures.1) (λ segs cover h. c.in_err-ids.ensures.sound c.args.self.now.threshold segs cover h)

pub settle-returns-in-Some-clause-settled : goal.settle-returns-in-Some-clause-settled
settle-returns-in-Some-clause-settled g t c k segs cover e h =
    c.in-Ok.ensures k segs cover (subst (AreIdsAt segs cover c.args.b) (sym c.deref.ensures.value)
    (MatchOption-at_some _ _ c.in-Some.ids c.in-Some.is (c.in_ok-ids.ensures.ids c.args.self.now.threshold segs cover h)))

pub settle-returns-then-not-enters-clause-settled : goal.settle-returns-then-not-enters-clause-settled
settle-returns-then-not-enters-clause-settled g t c k segs cover e h =
    unmet_settles c.args.self.now.level c.args.self.now.layer c.args.self.now.threshold c.args.self.now.id segs cover c.args.self.now.segment k c.args.b
    c.new.result e
    (MatchOption-at_none _ _ c.in-None.is (c.in_ok-ids.ensures.ids c.args.self.now.threshold segs cover h))
    (c.enters.ensures.unmet c.if-not-enters.true) c.new.ensures.one c.new.ensures.coming c.new.ensures.going c.new.ensures.staying c.new.ensures.emptied

pub settle-returns-clause-settled : goal.settle-returns-clause-settled
settle-returns-clause-settled g t c =
    IfOk-weaker c.settle_quarters.result _ _ (λ x f k segs cover e h.
    f k segs cover e (lines_along _ _ c.args.tree.now c.args.self.now.layer c.args.self.now.level c.args.self.now.threshold segs cover
    c.in_ok-ids.ensures.left.told h)
    (MatchOption-at_none _ _ c.in-None.is (c.in_ok-ids.ensures.ids c.args.self.now.threshold segs cover h)))
    c.settle_quarters.ensures.settled

pub settle-returns-clause-sound : goal.settle-returns-clause-sound
settle-returns-clause-sound g t c =
    IfErr-weaker c.settle_quarters.result _ _ (λ x f segs cover h.
    f segs cover (lines_along _ _ c.args.tree.now c.args.self.now.layer c.args.self.now.level c.args.self.now.threshold segs cover
    c.in_ok-ids.ensures.left.told h)) c.settle_quarters.ensures.sound

pub settle_quarters-quarters-q-items-requires-clause-valid :
    goal.settle_quarters-quarters-q-items-requires-clause-valid
settle_quarters-quarters-q-items-requires-clause-valid g t c = IsBlock-up c.args.self.now.level 12 c.args.b c.args.self.now.has_level.1 c.requires.block

pub settle_quarters-settle-requires : goal.settle_quarters-settle-requires
settle_quarters-settle-requires g t c κs within =
    let none : Block = record { y = 0; x = 0; side = 0 } in
    let qs = c.quarters-q-items.result in
    let q = get_or qs c.loop-q.q-index none in
    let four = ap length c.quarters-q-items.ensures.value in
    let lt = c.loop-q-test.true in
    let is = quarters_are c.args.self.now.level c.args.b q c.requires.block c.requires.wide
    (subst (λ (l : List Block). Contains l q) c.quarters-q-items.ensures.value (member_at qs c.loop-q.q-index none (omega arith))) in
    let half = is.half in
    let d = c.decreases in
    let wide = c.requires.wide in
    let search = search_along _ _ c.args.tree.now c.args.self.now.level c.args.self.now.layer c.loop-q.search c.loop-q.invariant.left.told
    c.loop-q.invariant.search in
    (omega arith, (within, (subst (λ (z : ℕ). IsRooted z c.args.tree.now) (sym c.loop-q.invariant.left.size) c.requires.rooted, (search, is.block))))

pub settle_quarters-returns-in_err-x-clause-sound : goal.settle_quarters-returns-in_err-x-clause-sound
settle_quarters-returns-in_err-x-clause-sound g t c =
    rw (handed_on c.from_residual.result c.from_residual.ensures.1) (λ segs cover h. c.in_err-x.ensures.sound segs cover
    (lines_along _ _ c.args.tree.now c.args.self.now.layer c.args.self.now.level c.args.self.now.threshold segs cover c.loop-q.invariant.left.told h))

pub settle_quarters-loop-q-preserved : goal.settle_quarters-loop-q-preserved
settle_quarters-loop-q-preserved g t c =
    let none : Block = record { y = 0; x = 0; side = 0 } in
    let qs = c.quarters-q-items.result in
    let q = get_or qs c.loop-q.q-index none in
    record {
      gathered = λ k segs cover e h.
          let four = ap length c.quarters-q-items.ensures.value in
          let lt = c.loop-q-test.true in
          let half = (quarters_are c.args.self.now.level c.args.b q c.requires.block c.requires.wide
          (subst (λ (l : List Block). Contains l q) c.quarters-q-items.ensures.value (member_at qs c.loop-q.q-index none (omega arith)))).half in
          let p = pow-suc 2 k in
          subst (λ (l : List Block). Gathers c.args.self.now.level c.args.self.now.layer c.args.self.now.threshold c.args.self.now.id segs cover
          c.args.self.now.segment k l c.gather.new.self) (sym (take_next qs c.loop-q.q-index none (omega arith)))
          (gathers_next c.args.self.now.level c.args.self.now.layer c.args.self.now.threshold c.args.self.now.id segs cover c.args.self.now.segment k
          (take c.loop-q.q-index qs) q c.loop-q.all c.in_ok-x.x c.gather.new.self
          (c.loop-q.invariant.gathered k segs cover e h)
          (c.in_ok-x.ensures.settled k segs cover (omega arith)
          (lines_along _ _ c.args.tree.now c.args.self.now.layer c.args.self.now.level c.args.self.now.threshold segs cover c.loop-q.invariant.left.told h))
          c.in-Ok.ensures);
      search = search_along _ _ c.args.tree.now c.args.self.now.level c.args.self.now.layer c.settle.new.search (sym c.loop-q.invariant.left.told)
          c.in_ok-x.ensures.search;
      left = read_on _ g.met.S.PageStore.goes_on _ _ _ c.loop-q.invariant.left c.in_ok-x.ensures.left;
      reads = λ segs cover h reached away.
          let n = c.args.self.now.level in
          let s = c.args.self.now.segment in
          let four = ap length c.quarters-q-items.ensures.value in
          let valid = h.spelled.valid in
          let lt = c.loop-q-test.true in
          reads_next (due n (is_met_above n s) segs cover) qs c.loop-q.q-index none 0 _ _ _ (omega arith)
          (c.loop-q.invariant.reads segs cover h reached away)
          (c.in_ok-x.ensures.reads segs cover
          (lines_along _ _ c.args.tree.now c.args.self.now.layer n c.args.self.now.threshold segs cover c.loop-q.invariant.left.told h)
          (reached_quarter n (record { segs = segs; cover = cover }) (record { inside = valid.inside; each = valid.each; once = valid.once })
          c.args.b q c.requires.block c.requires.wide reached away (quarter_in c.args.b qs c.loop-q.q-index none c.quarters-q-items.ensures.value lt))
          (quarter_above n s c.args.b q
          (quarter_at n c.args.b qs c.loop-q.q-index none c.requires.block c.requires.wide c.quarters-q-items.ensures.value lt).parent c.requires.met));
    }

pub settle_quarters-returns-in-Ok-joined-clause-settled :
    goal.settle_quarters-returns-in-Ok-joined-clause-settled
settle_quarters-returns-in-Ok-joined-clause-settled g t c k segs cover e h away = by_level k e
  where
    by_level : (j : ℕ) → c.args.b.side ≡ side j
        → BecomesSettled c.args.self.now segs cover j c.args.b c.in-Ok-joined.x
    by_level zero e' = let wide = c.requires.wide in absurd (omega arith)
    by_level (suc j) e' =
        let past = c.loop-q-test.false in
        c.in-Ok-joined.ensures j segs cover e' away c.requires.met
        (subst (λ (l : List Block). Gathers c.args.self.now.level c.args.self.now.layer c.args.self.now.threshold c.args.self.now.id segs cover
        c.args.self.now.segment j l c.loop-q.all)
        (take_all c.loop-q.q-index c.quarters-q-items.result (omega arith) ∙ c.quarters-q-items.ensures.value) (c.loop-q.invariant.gathered j segs cover e' h))

pub settle-returns-in-Some-clause-reads : goal.settle-returns-in-Some-clause-reads
settle-returns-in-Some-clause-reads g t c segs cover h reached above =
    let n = c.args.self.now.level in
    let counts = is_met_above n c.args.self.now.segment in
    let ids = c.in-Some.ids.items in
    let le = due_leaf n counts segs cover c.args.b c.requires.block above reached ids
    (MatchOption-at_some _ _ c.in-Some.ids c.in-Some.is (c.in_ok-ids.ensures.ids c.args.self.now.threshold segs cover h)) in
    let same = ap length c.deref.ensures.value in
    let len = c.deref.ensures.len in
    reads_more _ _ (12 + 3 * vec_len c.in-Some.ids) (due n counts segs cover c.args.b) (omega arith)
    (MatchOption-at_some _ _ c.in-Some.ids c.in-Some.is c.in_ok-ids.ensures.reads)

pub settle-returns-then-not-enters-clause-reads : goal.settle-returns-then-not-enters-clause-reads
settle-returns-then-not-enters-clause-reads g t c segs cover h reached above =
    let n = c.args.self.now.level in
    let counts = is_met_above n c.args.self.now.segment in
    let le = due_cut n counts segs cover c.args.b c.requires.block above reached
    (MatchOption-at_none _ _ c.in-None.is (c.in_ok-ids.ensures.ids c.args.self.now.threshold segs cover h)) in
    reads_more _ _ 9 (due n counts segs cover c.args.b) (omega arith)
    (MatchOption-at_none _ _ c.in-None.is c.in_ok-ids.ensures.reads)

pub settle-returns-clause-reads : goal.settle-returns-clause-reads
settle-returns-clause-reads g t c =
    IfOk-weaker c.settle_quarters.result _ _ (λ x f segs cover h reached above.
    let n = c.args.self.now.level in
    let counts = is_met_above n c.args.self.now.segment in
    let away = MatchOption-at_none _ _ c.in-None.is (c.in_ok-ids.ensures.ids c.args.self.now.threshold segs cover h) in
    let rest = sum_by (due n counts segs cover) (quarters_of c.args.b) in
    let le = due_split n counts segs cover c.args.b c.requires.block above reached away (c.enters.ensures.wide c.if-not-enters.false) in
    reads_sum _ _ _ 9 rest (due n counts segs cover c.args.b) (omega arith)
    (MatchOption-at_none _ _ c.in-None.is c.in_ok-ids.ensures.reads)
    (f segs cover (lines_along _ _ c.args.tree.now c.args.self.now.layer n c.args.self.now.threshold segs cover c.in_ok-ids.ensures.left.told h) reached away))
    c.settle_quarters.ensures.reads

pub settle_quarters-returns-in-Ok-joined-clause-reads : goal.settle_quarters-returns-in-Ok-joined-clause-reads
settle_quarters-returns-in-Ok-joined-clause-reads g t c segs cover h reached away =
    let n = c.args.self.now.level in
    let f = due n (is_met_above n c.args.self.now.segment) segs cover in
    let qs = c.quarters-q-items.result in
    let four = ap length c.quarters-q-items.ensures.value in
    let past = c.loop-q-test.false in
    let all = ap (sum_by f) c.quarters-q-items.ensures.value in
    reads_all f qs c.loop-q.q-index 0 (sum_by f (quarters_of c.args.b)) _ _ (omega arith) (omega arith) (c.loop-q.invariant.reads segs cover h reached away)

pub settle-returns-clause-zero : goal.settle-returns-clause-zero
settle-returns-clause-zero g t c =
    zero_along c.args.tree.now c.settle_quarters.result c.in_ok-ids.ensures.left.told c.settle_quarters.ensures.zero

pub settle_quarters-returns-in_err-x-clause-zero : goal.settle_quarters-returns-in_err-x-clause-zero
settle_quarters-returns-in_err-x-clause-zero g t c =
    zero_handed _ c.from_residual.result c.from_residual.ensures.1 c.args.tree.now c.loop-q.invariant.left.told c.in_err-x.ensures.zero

pub settle-returns-clause-left : goal.settle-returns-clause-left
settle-returns-clause-left g t c = only_reads_then _ g.met.S.PageStore.goes_on _ _ _ c.in_ok-ids.ensures.left c.settle_quarters.ensures.left

pub settle-returns-clause-search : goal.settle-returns-clause-search
settle-returns-clause-search g t c =
    on_ok_weaker c.settle_quarters.result (search_along _ _ c.args.tree.now c.args.self.now.level c.args.self.now.layer c.settle_quarters.new.search
    (sym c.in_ok-ids.ensures.left.told)) c.settle_quarters.ensures.search

pub settle_quarters-returns-in_err-x-clause-left : goal.settle_quarters-returns-in_err-x-clause-left
settle_quarters-returns-in_err-x-clause-left g t c =
    only_reads_handed _ c.from_residual.ensures.1 (only_reads_then _ g.met.S.PageStore.goes_on _ _ _ c.loop-q.invariant.left c.in_err-x.ensures.left)

pub settle_quarters-returns-in-Err-clause-left : goal.settle_quarters-returns-in-Err-clause-left
settle_quarters-returns-in-Err-clause-left g t c =
    only_reads_free _ _ (only_reads_then _ g.met.S.PageStore.goes_on _ _ _ c.loop-q.invariant.left c.in_ok-x.ensures.left) (λ is. cc)

pub settle-returns-in_err-ids-clause-zero : goal.settle-returns-in_err-ids-clause-zero
settle-returns-in_err-ids-clause-zero g t c = rw (handed_on c.from_residual.result c.from_residual.ensures.1) c.in_err-ids.ensures.zero
