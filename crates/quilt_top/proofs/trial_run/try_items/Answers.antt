use Rattle.std.proofs.Common.{◌≡◌, ◌∙◌, ◌+◌, ℕ, Bool, List, cond, refl, ap, subst, sym, rules, arith, length}
use Rattle.quilt_types.specs.declared.stop.Stop.TheVariants as stops
use Rattle.quilt_world.specs.Tale.{Goes}
use Rattle.quilt_words.specs.declared.item.Item.{Item}
use Rattle.quilt_words.specs.Forms.{form}
use Rattle.quilt_words.specs.Items.{Group, items_of}
use Rattle.quilt_replies.specs.Answers.{State}
use Rattle.quilt_replies.specs.Runs.{is_done}
use Rattle.quilt_map.specs.Sessions.{session_world, changes_of, IsAt}
use Rattle.quilt_map.proofs.Laws.{at_level, at_read_as}
use Rattle.quilt_top.specs.declared.halt.Halt.{Halt}
use Rattle.quilt_top.specs.declared.halt.Halt.TheVariants as halts
use Rattle.quilt_top.specs.Answering.{Applies}
use Rattle.quilt_top.specs.Replies.{held_at, reply_to, state_then}
use Rattle.quilt_top.specs.Trying.{text_left, Tried}
use Rattle.quilt_top.proofs.turns.Applying.{leaves_told}
use Rattle.quilt_top.proofs.turns.Outcomes.{held_is}
use Rattle.quilt_top.proofs.logs.Said.{err_from}
use Rattle.quilt_top.proofs.turns.Trials.{fewer, items_few, first_tries, first_tried, next_tries, next_tried}
use Rattle.quilt_top.proofs.trial_run.try_items.Goals as goal

pub items-init : goal.items-init
items-init g c = record {
  ready = search rules;
  door = search rules;
  faults = search rules;
  level = search rules;
  same = search rules;
  count = omega arith;
  tries = λ s at.
      let level = at_read_as c.args.session.now s at _ c.requires.level in
      (s, at, first_tried _ _ s level _ refl, first_tries _ _ s level _ (leaves_told c.args.session.now s at));
}

pub items-smaller : goal.items-smaller
items-smaller g c =
    let given = rw (c.in-Some.is, c.items.invariant.level) at c.in_ok-spelled.ensures.given in
    omega (arith, fewer _ _ _ _ _ given.next)

pub with-tally-requires : goal.with-tally-requires
with-tally-requires g c =
    let given = rw (c.in-Some.is, c.items.invariant.level) at c.in_ok-spelled.ensures.given in
    omega (arith, c.items.invariant.count, fewer _ _ _ _ _ given.next, items_few c.args.items.now.lines.level (text_left c.args.items.now), c.requires.few)

pub items-preserved : goal.items-preserved
items-preserved g c =
    let n : ℕ = c.args.items.now.lines.level in
    let given = rw (c.in-Some.is, c.items.invariant.level) at c.in_ok-spelled.ensures.given in
    record {
      ready = search rules;
      door = search rules;
      faults = search rules;
      level = search rules;
      same = c.in_ok-is_done.ensures.level ∙ c.items.invariant.same;
      count = omega (arith, c.items.invariant.count, fewer _ _ _ _ _ given.next, c.with-tally.ensures.count);
      tries = λ s at.
          let so = c.items.invariant.tries s at in
          let level = at_read_as c.args.session.now s at _ c.requires.level in
          let said = ap (λ f. form f given.item) (sym c.head.ensures.is_format) ∙ given.is in
          let held_ : given.item ≡ held_at so.0 given.next.group =
          held_is _ _ so.0 given.next.group given.item given.next.is (c.head.ensures.format so.0 so.1)
          (at_level c.items.session so.0 so.1 ∙ c.items.invariant.same ∙ c.requires.level) in
          let applies =
          subst (λ (i : Item). Goes (Applies so.0 i (changes_of c.items.session)) (g.W.Disk.told (session_world c.items.session))
          (g.W.Disk.told (session_world c.try_item.new.session)))
          held_ (c.try_item.ensures.applies given.item said so.0 so.1) in
          let done = c.in_ok-is_done.ensures.done given.item said so.0 so.1 ∙ ap (λ (i : Item). is_done (reply_to so.0 i)) held_ in
          let left = items_of n (text_left c.take_command.new.self) in (
            state_then so.0 given.item,
            c.in_ok-is_done.ensures.at given.item said so.0 so.1,
            next_tried n (text_left c.args.items.now) s level _ so.0 c.items.tally so.2 given.next.group left given.next.rest _ _
                (ap (λ (i : Item). state_then so.0 i) held_)
                (c.with-tally.ensures.done ∙ ap (λ (b : Bool). c.items.tally.done + cond {A = ℕ} b 1 0) done),
            next_tries n (text_left c.args.items.now) s level _ so.0 c.items.tally so.2 given.next.group left given.next.rest _ _ _ _ so.3 applies,
          );
    }

pub returns-in_err-spelled-clause-tries : goal.returns-in_err-spelled-clause-tries
returns-in_err-spelled-clause-tries g c = λ s at. (c.items.invariant.tries s at).3

pub returns-in_err-is_done-clause-tries : goal.returns-in_err-is_done-clause-tries
returns-in_err-is_done-clause-tries g c = λ s at.
    let n : ℕ = c.args.items.now.lines.level in
    let given = rw (c.in-Some.is, c.items.invariant.level) at c.in_ok-spelled.ensures.given in
    let so = c.items.invariant.tries s at in
    let level = at_read_as c.args.session.now s at _ c.requires.level in
    let said = ap (λ f. form f given.item) (sym c.head.ensures.is_format) ∙ given.is in
    let held_ : given.item ≡ held_at so.0 given.next.group =
    held_is _ _ so.0 given.next.group given.item given.next.is (c.head.ensures.format so.0 so.1)
    (at_level c.items.session so.0 so.1 ∙ c.items.invariant.same ∙ c.requires.level) in
    let applies =
    subst (λ (i : Item). Goes (Applies so.0 i (changes_of c.items.session)) (g.W.Disk.told (session_world c.items.session))
    (g.W.Disk.told (session_world c.try_item.new.session)))
    held_ (c.try_item.ensures.applies given.item said so.0 so.1) in
    next_tries n (text_left c.args.items.now) s level _ so.0 c.items.tally so.2 given.next.group (items_of n (text_left c.take_command.new.self))
    given.next.rest _ _ _ _ so.3 applies

pub returns-in_err-is_done-clause-damaged : goal.returns-in_err-is_done-clause-damaged
returns-in_err-is_done-clause-damaged g c =
    let Sound = λ (e : Halt). (page : ℕ) → e ≡ halts.Stopped (stops.Damaged page) → (s : State) → IsAt c.args.session.now s → ⊥ in
    let here : Sound c.in_err-is_done.field-0.0 = λ page is s at. let so = c.items.invariant.tries s at in c.in_err-is_done.ensures.damaged page is so.0 so.1 in
    err_from _ c.in_err-is_done.field-0.0 _ Sound c.from_residual-in_err-is_done.ensures.1 (λ e is. is) here

pub returns-clause-tries : goal.returns-clause-tries
returns-clause-tries g c = λ s at. (c.items.invariant.tries s at).3

pub returns-clause-counted : goal.returns-clause-counted
returns-clause-counted g c =
    let none = rw (c.in_default.is, c.items.invariant.level) at c.in_ok-spelled.ensures.given in
    omega (arith, c.items.invariant.count, ap length none)

pub returns-clause-tried : goal.returns-clause-tried
returns-clause-tried g c = λ s at.
    let none = rw (c.in_default.is, c.items.invariant.level) at c.in_ok-spelled.ensures.given in
    let so = c.items.invariant.tries s at in
    (so.0, so.1, subst (λ (l : List Group). Tried c.args.items.now.lines.level (text_left c.args.items.now) l s so.0 c.items.tally) none so.2)
