use Rattle.std.proofs.Common.{◌≡◌, inl, inr, ◌<◌, ◌+◌, ℕ, List, length, take, rules, ◌∙◌, arith, length-take}
use Rattle.std.proofs.lemmas.Result.{IfOk-weaker, IfErr-weaker}
use Rattle.quilt_types.specs.declared.stop.Stop.TheVariants as stops
use Rattle.quilt_top.specs.declared.halt.Halt.{Halt}
use Rattle.quilt_top.specs.declared.halt.Halt.TheVariants as halts
use Rattle.quilt_world.specs.Stops.{LeavesNow}
use Rattle.quilt_world.specs.Tale.{Goes}
use Rattle.quilt_world.proofs.Told.{goes_first, if_some_and}
use Rattle.quilt_edition.specs.Stands.{Stands}
use Rattle.quilt_map.specs.Sessions.{session_world, IsAt}
use Rattle.quilt_replies.specs.Answers.{State}
use Rattle.quilt_words.specs.Items.{items_of}
use Rattle.quilt_map.specs.Sessions.{level_of}
use Rattle.quilt_top.specs.Openings.{IsNoFault}
use Rattle.quilt_top.specs.TextRun.{run_in, IsUntold, Overruns, EndsBetween}
use Rattle.quilt_top.proofs.turns.Applying.{leaves_told, both_told}
use Rattle.quilt_top.proofs.logs.Said.{either_way, if_err_const, if_err_both, if_ok_both, ok_at, err_at, err_from}
use Rattle.quilt_top.proofs.turns.Runs.{reading_first, runs_quiet, goes_took, goes_fed, goes_counted, ended_counted, goes_runs, goes_past, goes_stopped}
use Rattle.quilt_top.proofs.turns.Runs.{goes_stopped_end, goes_ended, runs_answered, reading_answered, goes_ends, goes_between, goes_between_end, goes_left, goes_right}
use Rattle.quilt_map.proofs.answers.TextLaws.{whole_empty}
use Rattle.quilt_map.proofs.Laws.{at_read}
use Rattle.quilt_top.proofs.text_run.run_text.Goals as goal

pub pieces-init : goal.pieces-init
pieces-init g c = record {
  few = search rules;
  ready = search rules;
  door = search rules;
  faults = search rules;
  level = c.new-lines.ensures.level ∙ c.head.ensures.is_level;
  same = search rules;
  none = rw c.new-lines.ensures.empty (whole_empty _);
  tale = λ s at.
      let both = if_some_and IsUntold (λ t. LeavesNow t (λ image. Stands image s.last))
      (λ t. IsUntold t × LeavesNow t (λ image. Stands image s.last)) (g.W.Disk.told (session_world c.args.session.now)) c.requires.untold
      (leaves_told c.args.session.now s at) (λ t a b. (a, b)) in (
        s,
        at,
        rw c.new-lines.ensures.empty
            (goes_first (λ t. IsUntold t × LeavesNow t (λ image. Stands image s.last)) _ _ both
            (λ t is so. reading_first _ _ (at_read c.args.session.now s at) _ t c.requires.unchanged so.0 so.1)),
      );
}

pub returns-in_err-n-clause-runs : goal.returns-in_err-n-clause-runs
returns-in_err-n-clause-runs g c =
    λ s at. runs_quiet _ _ (at_read c.args.session.now s at) _ _ _ _ _ _ _ _ (omega arith) (c.pieces.invariant.tale s at).2 c.in_err-n.ensures.nothing

pub returns-in_err-total-clause-runs : goal.returns-in_err-total-clause-runs
returns-in_err-total-clause-runs g c = λ s at.
    let n = c.in_ok-n.n in
    let into : List ℕ = c.take.new.into in
    let size : length (take n into) ≡ n = omega (arith, length-take n into, c.take.auto.into, c.in_ok-n.ensures.count) in
    let some : 0 < length (take n into) = omega (arith, size, c.if-n-eq0.false) in
    let took = goes_took _ _ (at_read c.args.session.now s at) _ _ _ _ _ (c.pieces.total + n) (take n into) _ _ _ (omega (arith, size))
    (c.pieces.invariant.tale s at).2 c.pieces.invariant.none some c.in_ok-n.ensures.took in
    goes_runs _ _ (at_read c.args.session.now s at) _ _ _ _ _ _ _ (omega (arith, c.take.auto.into, c.in_ok-n.ensures.count)) took

pub returns-in_err-total-clause-too_much : goal.returns-in_err-total-clause-too_much
returns-in_err-total-clause-too_much g c =
    let n = c.in_ok-n.n in
    let into : List ℕ = c.take.new.into in
    let size : length (take n into) ≡ n = omega (arith, length-take n into, c.take.auto.into, c.in_ok-n.ensures.count) in
    let some : 0 < length (take n into) = omega (arith, size, c.if-n-eq0.false) in
    let over : (s : State) → IsAt c.args.session.now s
    → Goes (λ old new. Overruns new) (g.W.Disk.told (session_world c.args.session.now)) (g.W.Disk.told (session_world c.take.new.self)) = λ s at.
    goes_past _ _ (at_read c.args.session.now s at) _ _ _ _ _ (c.pieces.total + n) (take n into) _ _ _
    (omega (arith, size)) c.in_err-total.ensures.much (c.pieces.invariant.tale s at).2 c.pieces.invariant.none some c.in_ok-n.ensures.took in
    if_err_const _ _ _ over

pub returns-in_err-feed-clause-runs : goal.returns-in_err-feed-clause-runs
returns-in_err-feed-clause-runs g c = λ s at.
    let n = c.in_ok-n.n in
    let into : List ℕ = c.take.new.into in
    let size : length (take n into) ≡ n = omega (arith, length-take n into, c.take.auto.into, c.in_ok-n.ensures.count) in
    let some : 0 < length (take n into) = omega (arith, size, c.if-n-eq0.false) in
    let took = goes_took _ _ (at_read c.args.session.now s at) _ _ _ _ _ (c.pieces.total + n) (take n into) _ _ _ (omega (arith, size))
    (c.pieces.invariant.tale s at).2 c.pieces.invariant.none some c.in_ok-n.ensures.took in
    goes_runs _ _ (at_read c.args.session.now s at) _ _ _ _ _ _ _ (omega (arith, c.in_ok-total.ensures.few)) took

pub returns-in_err-all_done-clause-runs : goal.returns-in_err-all_done-clause-runs
returns-in_err-all_done-clause-runs g c = λ s at.
    let so = c.pieces.invariant.tale s at in
    let n = c.in_ok-n.n in
    let into : List ℕ = c.take.new.into in
    let size : length (take n into) ≡ n = omega (arith, length-take n into, c.take.auto.into, c.in_ok-n.ensures.count) in
    let some : 0 < length (take n into) = omega (arith, size, c.if-n-eq0.false) in
    let took = goes_took _ _ (at_read c.args.session.now s at) _ _ _ _ _ (c.pieces.total + n) (take n into) _ _ _
    (omega (arith, size)) so.2 c.pieces.invariant.none some c.in_ok-n.ensures.took in
    let fed = goes_fed _ _ (at_read c.args.session.now s at) _ _ _ _ _ _ _ _ took (rw c.pieces.invariant.level at c.in_ok-feed.ensures.fed) in
    let here = goes_counted _ _ (at_read c.args.session.now s at) _ _ _ _ _ _ _ _ c.take.ensures.changes fed in
    let level = c.in_ok-feed.ensures.level ∙ c.pieces.invariant.level in
    let stopped = rw level at c.in_err-all_done.ensures.stopped in
    goes_stopped _ _ (at_read c.args.session.now s at) _ _ _ _ _ _ _ _ (omega (arith, c.in_ok-total.ensures.few)) here
    (stopped so.0 (c.take.ensures.at so.0 so.1))

pub pieces-preserved : goal.pieces-preserved
pieces-preserved g c =
    let n = c.in_ok-n.n in
    let into : List ℕ = c.take.new.into in
    let size : length (take n into) ≡ n = omega (arith, length-take n into, c.take.auto.into, c.in_ok-n.ensures.count) in
    let some : 0 < length (take n into) = omega (arith, size, c.if-n-eq0.false) in
    let level = c.in_ok-feed.ensures.level ∙ c.pieces.invariant.level in
    let answered = rw level at c.in_ok-all_done.ensures.answered in
    record {
      few = omega (arith, c.in_ok-total.ensures.few);
      ready = search rules;
      door = search rules;
      faults = search rules;
      level = c.in_ok-all_done.ensures.level ∙ level;
      same = c.in_ok-all_done.ensures.same ∙ c.take.ensures.level ∙ c.pieces.invariant.same;
      none = rw level at c.in_ok-all_done.ensures.none;
      tale = λ s at.
          let so = c.pieces.invariant.tale s at in
          let took = goes_took _ _ (at_read c.args.session.now s at) _ _ _ _ _ c.in_ok-total.total (take n into) _ _ _
          (omega (arith, size, c.in_ok-total.ensures.few)) so.2 c.pieces.invariant.none some c.in_ok-n.ensures.took in
          let fed = goes_fed _ _ (at_read c.args.session.now s at) _ _ _ _ _ _ _ _ took (rw c.pieces.invariant.level at c.in_ok-feed.ensures.fed) in
          let here = goes_counted _ _ (at_read c.args.session.now s at) _ _ _ _ _ _ _ _ c.take.ensures.changes fed in
          let next = answered so.0 (c.take.ensures.at so.0 so.1) in
          (next.0, next.1, reading_answered _ _ (at_read c.args.session.now s at) _ _ _ _ _ _ _ _ _ _ _ _ here next.2);
    }

pub returns-clause-runs : goal.returns-clause-runs
returns-clause-runs g c = λ s at.
    let so = c.pieces.invariant.tale s at in
    let now = c.take.ensures.at so.0 so.1 in
    let at_end = goes_ended _ _ (at_read c.args.session.now s at) _ _ _ _ _ _ _ _ so.2 (rw c.if-n-eq0.true at c.in_ok-n.ensures.took) in
    let ended = ended_counted _ _ (at_read c.args.session.now s at) _ _ _ _ _ _ _ _ c.take.ensures.changes at_end in
    let ok = rw c.pieces.invariant.level at c.answer_items-2.ensures.answered in
    let none = rw c.pieces.invariant.level at c.answer_items-2.ensures.none in
    let err = rw c.pieces.invariant.level at c.answer_items-2.ensures.stopped in
    either_way c.answer_items-2.result _ _ _ (if_ok_both _ _ _ (ok_at (IsAt c.take.new.self) so.0 now _ _ ok) none)
    (err_at (IsAt c.take.new.self) so.0 now _ _ err)
    (λ done all. goes_left _ _ _ _
    (runs_answered _ _ (at_read c.args.session.now s at) _ _ _ _ _ _ _ _ _ _ _ _ c.pieces.invariant.few ended all.0.2 all.1
    (both_told c.answer_items-2.new.session all.0.0 all.0.1)))
    (λ stopped. goes_stopped_end _ _ (at_read c.args.session.now s at) _ _ _ _ _ _ _ _ (omega arith) ended stopped)

pub returns-clause-whole : goal.returns-clause-whole
returns-clause-whole g c =
    let ok = rw c.pieces.invariant.level at c.answer_items-2.ensures.answered in
    let none = rw c.pieces.invariant.level at c.answer_items-2.ensures.none in
    IfOk-weaker c.answer_items-2.result _ _
    (λ done all. λ s at.
    let so = c.pieces.invariant.tale s at in
    let at_end = goes_ended _ _ (at_read c.args.session.now s at) _ _ _ _ _ _ _ _ so.2 (rw c.if-n-eq0.true at c.in_ok-n.ensures.took) in
    let ended = ended_counted _ _ (at_read c.args.session.now s at) _ _ _ _ _ _ _ _ c.take.ensures.changes at_end in
    let next = all.0 so.0 (c.take.ensures.at so.0 so.1) in
    goes_right _ _ _ _ (runs_answered _ _ (at_read c.args.session.now s at) _ _ _ _ _ _ _ _ _ _ _ _ c.pieces.invariant.few ended next.2 all.1
    (both_told c.answer_items-2.new.session next.0 next.1))) (if_ok_both _ _ _ ok none)

-- ---- where a page is damaged

pub returns-in_err-all_done-clause-damaged : goal.returns-in_err-all_done-clause-damaged
returns-in_err-all_done-clause-damaged g c =
    let Sound = λ (e : Halt). (page : ℕ) → e ≡ halts.Stopped (stops.Damaged page) → (s : State) → IsAt c.args.session.now s → ⊥ in
    let here : Sound c.in_err-all_done.field-0.0 = λ page is s at.
    let so = c.pieces.invariant.tale s at in c.in_err-all_done.ensures.damaged page is so.0 (c.take.ensures.at so.0 so.1) in
    err_from _ c.in_err-all_done.field-0.0 _ Sound c.from_residual-in_err-all_done.ensures.1 (λ e is. is) here

pub returns-clause-damaged : goal.returns-clause-damaged
returns-clause-damaged g c =
    IfErr-weaker c.answer_items-2.result (λ (e : Halt). (page : ℕ) → e ≡ halts.Stopped (stops.Damaged page) → (s : State) → IsAt c.take.new.self s → ⊥)
    (λ (e : Halt). (page : ℕ) → e ≡ halts.Stopped (stops.Damaged page) → (s : State) → IsAt c.args.session.now s → ⊥)
    (λ e sound page is s at. let so = c.pieces.invariant.tale s at in sound page is so.0 (c.take.ensures.at so.0 so.1)) c.answer_items-2.ensures.damaged

-- ---- where memory was wanted, or more came than may be taken

pub returns-in_err-n-clause-between : goal.returns-in_err-n-clause-between
returns-in_err-n-clause-between g c =
    let Between = λ (e : Halt). IsNoFault e → (s : State) → IsAt c.args.session.now s
    → Goes (λ old new. EndsBetween (run_in s (items_of (level_of c.args.session.now) old.input)) new) (g.W.Disk.told (session_world c.args.session.now))
    (g.W.Disk.told (session_world c.take.new.self)) in
    let here : Between (halts.Stopped stops.Device) = λ calm. elim calm [
      | inl much ↦ absurd (let e : halts.Stopped stops.Device ≡ halts.TooMuch = much in cc)
      | inr is ↦ absurd (let e : halts.Stopped stops.Device ≡ halts.Stopped stops.Memory = is in cc)
    ] in
    err_from _ (halts.Stopped stops.Device) _ Between c.from_residual.ensures.1 (λ e is. is) here

pub returns-in_err-total-clause-between : goal.returns-in_err-total-clause-between
returns-in_err-total-clause-between g c =
    if_err_const _ _ _ (λ s at.
    let n = c.in_ok-n.n in
    let into : List ℕ = c.take.new.into in
    let size : length (take n into) ≡ n = omega (arith, length-take n into, c.take.auto.into, c.in_ok-n.ensures.count) in
    let some : 0 < length (take n into) = omega (arith, size, c.if-n-eq0.false) in
    let so = c.pieces.invariant.tale s at in
    let took = goes_took _ _ (at_read c.args.session.now s at) _ _ _ _ _ (c.pieces.total + n) (take n into) _ _ _ (omega (arith, size))
    so.2 c.pieces.invariant.none some c.in_ok-n.ensures.took in
    goes_ends _ _ (at_read c.args.session.now s at) _ _ _ _ _ _ _ took (leaves_told c.take.new.self so.0 (c.take.ensures.at so.0 so.1)))

pub returns-in_err-feed-clause-between : goal.returns-in_err-feed-clause-between
returns-in_err-feed-clause-between g c =
    if_err_const _ _ _ (λ s at.
    let n = c.in_ok-n.n in
    let into : List ℕ = c.take.new.into in
    let size : length (take n into) ≡ n = omega (arith, length-take n into, c.take.auto.into, c.in_ok-n.ensures.count) in
    let some : 0 < length (take n into) = omega (arith, size, c.if-n-eq0.false) in
    let so = c.pieces.invariant.tale s at in
    let took = goes_took _ _ (at_read c.args.session.now s at) _ _ _ _ _ (c.pieces.total + n) (take n into) _ _ _ (omega (arith, size))
    so.2 c.pieces.invariant.none some c.in_ok-n.ensures.took in
    goes_ends _ _ (at_read c.args.session.now s at) _ _ _ _ _ _ _ took (leaves_told c.take.new.self so.0 (c.take.ensures.at so.0 so.1)))

pub returns-in_err-all_done-clause-between : goal.returns-in_err-all_done-clause-between
returns-in_err-all_done-clause-between g c =
    let Between = λ (e : Halt). IsNoFault e → (s : State) → IsAt c.args.session.now s
    → Goes (λ old new. EndsBetween (run_in s (items_of (level_of c.args.session.now) old.input)) new) (g.W.Disk.told (session_world c.args.session.now))
    (g.W.Disk.told (session_world c.answer_items.new.session)) in
    let level = c.in_ok-feed.ensures.level ∙ c.pieces.invariant.level in
    let memory : c.in_err-all_done.field-0.0 ≡ halts.Stopped stops.Memory → (s : State) → IsAt c.args.session.now s
    → Goes (λ old new. EndsBetween (run_in s (items_of (level_of c.args.session.now) old.input)) new) (g.W.Disk.told (session_world c.args.session.now))
    (g.W.Disk.told (session_world c.answer_items.new.session)) = λ is s at.
    let so = c.pieces.invariant.tale s at in
    let n = c.in_ok-n.n in
    let into : List ℕ = c.take.new.into in
    let size : length (take n into) ≡ n = omega (arith, length-take n into, c.take.auto.into, c.in_ok-n.ensures.count) in
    let some : 0 < length (take n into) = omega (arith, size, c.if-n-eq0.false) in
    let took = goes_took _ _ (at_read c.args.session.now s at) _ _ _ _ _ (c.pieces.total + n) (take n into) _ _ _
    (omega (arith, size)) so.2 c.pieces.invariant.none some c.in_ok-n.ensures.took in
    let fed = goes_fed _ _ (at_read c.args.session.now s at) _ _ _ _ _ _ _ _ took (rw c.pieces.invariant.level at c.in_ok-feed.ensures.fed) in
    let stopped = rw level at c.in_err-all_done.ensures.between in
    goes_between _ _ (at_read c.args.session.now s at) _ _ _ _ _ _ _ _ fed (stopped is so.0 (c.take.ensures.at so.0 so.1)) in
    let here : Between c.in_err-all_done.field-0.0 = λ calm. elim calm [
      | inl much ↦ absurd (c.in_err-all_done.ensures.short much)
      | inr is ↦ memory is
    ] in
    err_from _ c.in_err-all_done.field-0.0 _ Between c.from_residual-in_err-all_done.ensures.1 (λ e is. is) here

pub returns-clause-between : goal.returns-clause-between
returns-clause-between g c =
    let stopped = rw c.pieces.invariant.level at c.answer_items-2.ensures.between in
    let both = if_err_both _ _ _ c.answer_items-2.ensures.short stopped in
    IfErr-weaker c.answer_items-2.result _ (λ (e : Halt). IsNoFault e → (s : State) → IsAt c.args.session.now s
    → Goes (λ old new. EndsBetween (run_in s (items_of (level_of c.args.session.now) old.input)) new) (g.W.Disk.told (session_world c.args.session.now))
    (g.W.Disk.told (session_world c.answer_items-2.new.session)))
    (λ e all calm s at. elim calm [
      | inl much ↦ absurd (all.0 much)
      | inr is ↦
          let so = c.pieces.invariant.tale s at in
          let at_end = goes_ended _ _ (at_read c.args.session.now s at) _ _ _ _ _ _ _ _ so.2 (rw c.if-n-eq0.true at c.in_ok-n.ensures.took) in
          goes_between_end _ _ (at_read c.args.session.now s at) _ _ _ _ _ _ _ _ at_end (all.1 is so.0 (c.take.ensures.at so.0 so.1))
    ]) both
