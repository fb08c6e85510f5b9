use Rattle.std.proofs.Common.{List, sym, subst, ⊎_elim, arith, Contains}
use Rattle.std.proofs.lemmas.Bool.{OnTrue_at, OnFalse_at, OnTrue_from, OnFalse_from}
use Rattle.std.proofs.lemmas.Result.{IfOk-weaker}
use Rattle.quilt_record.specs.declared.entry.Entry.{Entry}
use Rattle.quilt_audit.proofs.checker.Checker.is_whole.Goals as goal

pub returns-then-next_number-ne256-clause-no : goal.returns-then-next_number-ne256-clause-no
returns-then-next_number-ne256-clause-no c w =
    ⊎_elim (λ none. c.if-next_number-ne256.true none)
    (λ some.
    let r = w.reached some.0 (subst (λ (l : List Entry). Contains l some.0) c.entries-entries.ensures.entries some.1) in
    let e = some.2 in
    let o = c.next_number.ensures.over.0 in
    absurd (omega arith)) c.next_number.ensures.reached

pub returns-clause-yes : goal.returns-clause-yes
returns-clause-yes c =
    IfOk-weaker c.is_covered.result _ _
    (λ ok full. OnTrue_from ok _ (λ t.
    let e = c.if-next_number-ne256.false in
    record {
      sound = c.if-not-self.false;
      none_due = c.if-due-ne0.false;
      covered = OnTrue_at t full;
      reached = λ d m. ⊎_elim (λ low. low) (λ high. let a = high.0 in let b = high.1 in absurd (omega arith))
          (c.next_number.ensures.least d (subst (λ (l : List Entry). Contains l d) (sym c.entries-entries.ensures.entries) m));
    })) c.is_covered.ensures.yes

pub returns-clause-no : goal.returns-clause-no
returns-clause-no c =
    IfOk-weaker c.is_covered.result _ _ (λ ok open_. OnFalse_from ok _ (λ f w. let o = OnFalse_at f open_ in o.1 (w.covered o.0))) c.is_covered.ensures.no
