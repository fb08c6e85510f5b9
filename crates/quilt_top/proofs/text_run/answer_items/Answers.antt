use Rattle.std.proofs.Common.{◌≡◌, ◌∙◌, ◌&&◌, ℕ, ap, subst, sym, rules}
use Rattle.quilt_world.specs.Tale.{Goes}
use Rattle.quilt_words.specs.declared.item.Item.{Item}
use Rattle.quilt_words.specs.Forms.{form}
use Rattle.quilt_replies.specs.Answers.{State}
use Rattle.quilt_replies.specs.Runs.{text_of, is_done}
use Rattle.quilt_map.specs.Sessions.{session_world, changes_of, IsAt}
use Rattle.quilt_map.proofs.Laws.{at_level, at_read_as}
use Rattle.quilt_map.proofs.answers.TextLaws.{fewer_left}
use Rattle.quilt_types.specs.declared.stop.Stop.TheVariants as stops
use Rattle.quilt_top.specs.declared.halt.Halt.{Halt}
use Rattle.quilt_top.specs.declared.halt.Halt.TheVariants as halts
use Rattle.quilt_top.specs.Answering.{Answers, AnswersPrefix, changes_then}
use Rattle.quilt_top.specs.Replies.{held_at, reply_to, state_then}
use Rattle.quilt_top.proofs.logs.Said.{on_err_all, err_from, if_err_const}
use Rattle.quilt_top.proofs.turns.Outcomes.{held_is}
use Rattle.quilt_top.proofs.turns.Turns.{answered_first, stopped_now, stopped_part, stopped_between, stopped_after, answered_next}
use Rattle.quilt_top.proofs.turns.Applying.{leaves_told}
use Rattle.quilt_top.specs.Answered.{StopsBetween}
use Rattle.quilt_top.proofs.text_run.answer_items.Goals as goal

pub items-init : goal.items-init
items-init g c = record {
  ready = search rules;
  door = search rules;
  faults = search rules;
  level = search rules;
  same = search rules;
  done = λ s at. (s, at, answered_first _ _ _ _ _ _ (at_read_as c.args.session.now s at _ c.requires.level) _);
}

pub returns-in_err-spelled-clause-stopped : goal.returns-in_err-spelled-clause-stopped
returns-in_err-spelled-clause-stopped g c =
    on_err_all {S = State} _ _ _
    (λ s at. stopped_now _ _ _ _ _ _ (at_read_as c.args.session.now s at _ c.requires.level) _ _ _ _ _ _ (c.items.invariant.done s at).2)

pub returns-in_err-all_done-clause-stopped : goal.returns-in_err-all_done-clause-stopped
returns-in_err-all_done-clause-stopped g c =
    let given = rw (c.in-Some.is, c.items.invariant.level) at c.in_ok-spelled.ensures.given in
    on_err_all {S = State} _ _ _ (λ s at.
    let so = c.items.invariant.done s at in
    let said = ap (λ f. form f given.item) (sym c.head.ensures.is_format) ∙ given.is in
    let held_ : given.item ≡ held_at so.0 given.gives.group =
    held_is _ _ so.0 given.gives.group given.item given.gives.is (c.head.ensures.format so.0 so.1)
    (at_level c.items.session so.0 so.1 ∙ c.items.invariant.same ∙ c.requires.level) in
    let part =
    subst (λ (i : Item). Goes (AnswersPrefix so.0 i (changes_of c.items.session)) (g.W.Disk.told (session_world c.items.session))
    (g.W.Disk.told (session_world c.put_answer.new.session)))
    held_ (c.in_err-all_done.ensures.part given.item said so.0 so.1) in
    stopped_part _ _ _ _ _ _ (at_read_as c.args.session.now s at _ c.requires.level) _ _ _ _ _ _ _ _ _ so.2 given.gives.gives part)

pub items-smaller : goal.items-smaller
items-smaller g c =
    let given = rw c.in-Some.is at c.in_ok-spelled.ensures.given in
    rw c.in_ok-spelled.ensures.level (fewer_left _ _ _ _ _ given.gives.gives)

pub items-preserved : goal.items-preserved
items-preserved g c =
    let given = rw (c.in-Some.is, c.items.invariant.level) at c.in_ok-spelled.ensures.given in
    record {
      ready = search rules;
      door = search rules;
      faults = search rules;
      level = search rules;
      same = c.in_ok-all_done.ensures.level ∙ c.items.invariant.same;
      done = λ s at.
          let so = c.items.invariant.done s at in
          let said = ap (λ f. form f given.item) (sym c.head.ensures.is_format) ∙ given.is in
          let held_ : given.item ≡ held_at so.0 given.gives.group =
          held_is _ _ so.0 given.gives.group given.item given.gives.is (c.head.ensures.format so.0 so.1)
          (at_level c.items.session so.0 so.1 ∙ c.items.invariant.same ∙ c.requires.level) in
          let put =
          subst (λ (i : Item). Goes (Answers so.0 i (changes_of c.items.session) (text_of (reply_to so.0 i)))
          (g.W.Disk.told (session_world c.items.session)) (g.W.Disk.told (session_world c.put_answer.new.session)))
          held_ (c.in_ok-all_done.ensures.said given.item said so.0 so.1) in (
            state_then so.0 given.item,
            c.in_ok-all_done.ensures.at given.item said so.0 so.1,
            answered_next _ _ _ _ _ _ (at_read_as c.args.session.now s at _ c.requires.level) _ _ _ _ _ _ _ _ _ _ _ _ so.2 given.gives.gives put
                (ap (λ (i : Item). state_then so.0 i) held_)
                (c.in_ok-all_done.ensures.changes given.item said so.0 so.1 ∙ ap (λ (i : Item). changes_then so.0 i (changes_of c.items.session)) held_)
                (c.in_ok-all_done.ensures.done given.item said so.0 so.1 ∙ ap (λ (i : Item). c.items.all_done && is_done (reply_to so.0 i)) held_),
          );
    }

pub returns-clause-answered : goal.returns-clause-answered
returns-clause-answered g c =
    let given = rw c.in_default.is at c.in_ok-spelled.ensures.given in
    rw given.0 c.items.invariant.done

pub returns-in_err-all_done-clause-damaged : goal.returns-in_err-all_done-clause-damaged
returns-in_err-all_done-clause-damaged g c =
    let Sound = λ (e : Halt). (page : ℕ) → e ≡ halts.Stopped (stops.Damaged page) → (s : State) → IsAt c.args.session.now s → ⊥ in
    let here : Sound c.in_err-all_done.field-0.0 = λ page is s at. let so = c.items.invariant.done s at in
    c.in_err-all_done.ensures.damaged page is so.0 so.1 in
    err_from _ c.in_err-all_done.field-0.0 _ Sound c.from_residual-in_err-all_done.ensures.1 (λ e is. is) here

-- ---- where memory was wanted

pub returns-in_err-spelled-clause-between : goal.returns-in_err-spelled-clause-between
returns-in_err-spelled-clause-between g c =
    if_err_const _ _ _ (λ s at.
    let so = c.items.invariant.done s at in
    stopped_between _ _ _ _ _ _ (at_read_as c.args.session.now s at _ c.requires.level) _ _ _ _ _ _ so.2 (leaves_told c.items.session so.0 so.1))

pub returns-in_err-all_done-clause-between : goal.returns-in_err-all_done-clause-between
returns-in_err-all_done-clause-between g c =
    let given = rw (c.in-Some.is, c.items.invariant.level) at c.in_ok-spelled.ensures.given in
    let Between = λ (e : Halt). e ≡ halts.Stopped stops.Memory → (s : State) → IsAt c.args.session.now s
    → Goes (StopsBetween c.args.ended c.args.lines.now.level s c.args.lines.now.rest) (g.W.Disk.told (session_world c.args.session.now))
    (g.W.Disk.told (session_world c.put_answer.new.session)) in
    let here : Between c.in_err-all_done.field-0.0 = λ is s at.
    let so = c.items.invariant.done s at in
    let said = ap (λ f. form f given.item) (sym c.head.ensures.is_format) ∙ given.is in
    stopped_after _ _ _ _ _ _ (at_read_as c.args.session.now s at _ c.requires.level) _ _ _ _ _ _ _ so.2
    (c.in_err-all_done.ensures.none is given.item said so.0 so.1) in
    err_from _ c.in_err-all_done.field-0.0 _ Between c.from_residual-in_err-all_done.ensures.1 (λ e is. is) here
