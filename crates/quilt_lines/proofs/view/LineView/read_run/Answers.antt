use Rattle.std.proofs.Common.{◌≡◌, ℕ, ◌+◌, ◌-◌, ◌≤◌, ◌<◌, Some, None, ⊎_elim, sym, ◌∙◌, ap, arith}
use Rattle.std.proofs.lemmas.Bool.{cases_eq, cases_lt}
use Rattle.std.specs.FinMap as finmap
use Rattle.std.proofs.lemmas.Option.{none-some, some_pair_parts}
use Rattle.quilt_near.specs.Knowing.{known_seg}
use Rattle.quilt_near.proofs.Knowing.{knows_more, stays_more}
use Rattle.quilt_lines.specs.Reads.{segment_key}
use Rattle.quilt_lines.proofs.Followers.{said_is, run_whole, run_next}
use Rattle.quilt_btree.proofs.Handed.{handed_on}
use Rattle.quilt_btree.proofs.Stops.{sound_handed}
use Rattle.quilt_lines.proofs.view.LineView.read_run.Goals as goal
use Rattle.quilt_lines.proofs.view.LineView.read_run.Goals.{in_default-via-in-Some+else-from-next, in_default-via-in_default}

last_is : (a b : ℕ) → a ≤ b → b ≡ a + (b - a + 1) - 1
last_is a b le = omega arith

below : (a b q : ℕ) → a ≤ b → q < a + (b - a + 1) → q ≤ b
below a b q le lt = omega arith

pub returns-in_err-records-clause-zero : goal.returns-in_err-records-clause-zero
returns-in_err-records-clause-zero g c = sound_handed c.from_residual.result c.from_residual.ensures.1 c.in_err-records.ensures.sound

pub returns-in_err-records-clause-sound : goal.returns-in_err-records-clause-sound
returns-in_err-records-clause-sound g c =
    rw (handed_on c.from_residual.result c.from_residual.ensures.1) (λ l h all. c.in_err-records.ensures.sound h.has.records h.has.is_tree)

pub returns-in_default-clause-sound : goal.returns-in_default-clause-sound
returns-in_default-clause-sound g c l h all page e =
    let self = c.args.self.now in
    let run = c.args.run in
    let said = run_next (g.S.PageStore.told c.args.store.now) self.tree self.layer self.level h.threshold l.segs l.cover run.first (run.last - run.first + 1)
    _ _ c.deref-r-items.result.now c.segment_key-low.ensures
    (c.segment_key-high.ensures ∙ ap (segment_key self.layer) (last_is run.first run.last c.requires.some))
    (λ rs is. c.deref-r-items.ensures.value ∙ c.in_ok-records.ensures.range rs is) self.has_level.1 h.has (omega arith)
    (λ q from lt. all q from (below run.first run.last q c.requires.some lt)) c.loop-r.r-index _ c.loop-r-test.true c.segment_said.result c.segment_said.ensures.one in
    elim c.in_default.branch [
      | in_default-via-in-Some+else-from-next w ↦
          let same = some_pair_parts w.in-Some.id (run.first + c.loop-r.r-index) w.in-Some.s said.0 (sym w.in-Some.is ∙ said.1) in
          let id = same.0 in
          let from = w.from.ensures in
          let no = w.if-from-next.false in
          let next = c.loop-r.invariant.next in
          absurd (no (from ∙ id ∙ sym next))
      | in_default-via-in_default w ↦ none-some (run.first + c.loop-r.r-index, said.0) (sym w.in_default.is ∙ said.1)
    ]

pub loop-r-preserved : goal.loop-r-preserved
loop-r-preserved g c =
    let self = c.args.self.now in
    let run = c.args.run in
    let i = c.loop-r.invariant in
    let id = c.in-Some.id in
    let some = c.requires.some in
    let few = c.in_ok-records.ensures.fits.number in
    let long = c.deref-r-items.ensures.len in
    let before = c.loop-r-test.true in
    let is : id ≡ run.first + c.loop-r.r-index = sym c.from.ensures ∙ c.if-from-next.true ∙ i.next in
    let none : known_seg c.loop-r.known id ≡ None = i.away id (omega arith) (omega arith) in
    let here = c.in-Ok.ensures.here in
    let others = c.in-Ok.ensures.others in
    let more = c.in-Ok.ensures.more none in
    let many = i.many in
    let next = i.next in
    record {
      next = omega arith;
      known = knows_more c.loop-r.known c.keep.new.self id c.in-Some.s here others _ _ _ i.known c.in-Ok.ensures.block c.in-Ok.ensures.pairs
          c.in-Ok.ensures.ids c.in-Some.ensures.inside
          (λ l h.
          let w = said_is (g.S.PageStore.told c.args.store.now) self.tree self.layer self.level h.threshold l.segs l.cover run.first (run.last - run.first + 1)
          _ _ c.deref-r-items.result.now c.segment_key-low.ensures
          (c.segment_key-high.ensures ∙ ap (segment_key self.layer) (last_is run.first run.last c.requires.some))
          (λ rs is. c.deref-r-items.ensures.value ∙ c.in_ok-records.ensures.range rs is) self.has_level.1 h.has c.loop-r.r-index _ c.loop-r-test.true
          c.segment_said.result c.segment_said.ensures.one in
          let p = some_pair_parts id w.0.0 c.in-Some.s w.0.1 (sym c.in-Some.is ∙ w.2) in
          ap (finmap.get l.segs) p.0 ∙ w.1 ∙ ap Some (sym p.1));
      stays = λ q t e. stays_more c.loop-r.known c.keep.new.self id c.in-Some.s here others none q t (i.stays q t e);
      many = omega arith;
      away = λ q from upto. others q (λ e. let same = e in omega arith) ∙ i.away q (omega arith) upto;
      there = λ q from lt. ⊎_elim (λ e. (c.in-Some.s, ap (known_seg c.keep.new.self) e ∙ here))
          (λ apart. let w = i.there q from (let two = apart in ⊎_elim (λ less. less) (λ ge. absurd (apart (omega arith))) (cases_lt q (run.first + c.loop-r.r-index)))
          in (w.0, others q apart ∙ w.1)) (cases_eq q id);
    }

pub returns-then-len-count-clause-sound : goal.returns-then-len-count-clause-sound
returns-then-len-count-clause-sound g c l h all page e =
    let self = c.args.self.now in
    let run = c.args.run in
    let whole = run_whole (g.S.PageStore.told c.args.store.now) self.tree self.layer self.level h.threshold l.segs l.cover run.first (run.last - run.first + 1)
    _ _ c.deref-r-items.result.now c.segment_key-low.ensures
    (c.segment_key-high.ensures ∙ ap (segment_key self.layer) (last_is run.first run.last c.requires.some))
    (λ rs is. c.deref-r-items.ensures.value ∙ c.in_ok-records.ensures.range rs is) self.has_level.1 h.has (omega arith)
    (λ q from lt. all q from (below run.first run.last q c.requires.some lt)) in
    let long = c.deref-r-items.ensures.len in
    let n = c.len.ensures in
    c.if-len-count.true (omega arith)

pub returns-in_err-records-clause-bad : goal.returns-in_err-records-clause-bad
returns-in_err-records-clause-bad g c =
    rw (handed_on c.from_residual.result c.from_residual.ensures.1) (λ ne. c.in_err-records.ensures.stops.bad ne)
