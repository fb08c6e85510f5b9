use Rattle.std.proofs.Common.{◌≤◌, ◌-◌, length, length-take, length-drop, sym, ◌∙◌, rules, arith, take, drop, ℕ, List, append-nil, [], take-append-drop}
use Rattle.quilt_world.proofs.Told.{goes_then}
use Rattle.quilt_top.proofs.logs.Said.{says_then, says_same, says_put, says_quiet, says_front, on_err, take_two, text_put, text_quiet}
use Rattle.quilt_top.proofs.output.put_reply.Goals as goal

pub returns-in_err-done-clause-part : goal.returns-in_err-done-clause-part
returns-in_err-done-clause-part g c =
    let bytes : List ℕ = c.args.bytes.now in
    on_err _ _ (goes_then _ _ _ _ _ _ c.loop-done.invariant.tale c.in_err-done.ensures.nothing (λ t u v says none.
    says_front (take c.loop-done.done bytes) bytes t v (drop c.loop-done.done bytes, sym (take-append-drop c.loop-done.done bytes))
    (says_same _ _ t v (append-nil _) (says_then (take c.loop-done.done bytes) [] t u v says (says_quiet u v none)))))

pub returns-in_err-done-clause-text : goal.returns-in_err-done-clause-text
returns-in_err-done-clause-text g c = text_quiet _ _ _ c.loop-done.invariant.text c.in_err-done.ensures.nothing

pub loop-done-preserved : goal.loop-done-preserved
loop-done-preserved g c =
    let bytes : List ℕ = c.args.bytes.now in
    let done = c.loop-done.done in
    let n = c.in_ok-done.field-0 in
    let m : ℕ = length bytes - done in
    let fits : n ≤ m = omega (arith, c.in_ok-done.ensures.count.1, length-take m (drop done bytes), length-drop done bytes) in
    record {
      level = c.in_ok-done.ensures.level ∙ c.loop-done.invariant.level;
      changes = c.in_ok-done.ensures.changes ∙ c.loop-done.invariant.changes;
      ready = λ ready. c.in_ok-done.ensures.ready (c.loop-done.invariant.ready ready);
      at = λ s at. c.in_ok-done.ensures.at s (c.loop-done.invariant.at s at);
      within = omega (arith, c.loop-done.invariant.within);
      door = search rules;
      faults = search rules;
      text = text_put (take n (take m (drop done bytes))) _ _ _ c.loop-done.invariant.text c.in_ok-done.ensures.put;
      tale = goes_then _ _ _ _ _ _ c.loop-done.invariant.tale c.in_ok-done.ensures.put (λ t u v says put.
          says_same _ _ t v (take_two done n m bytes fits) (says_then (take done bytes) (take n (take m (drop done bytes))) t u v says (says_put _ u v put)));
    }
