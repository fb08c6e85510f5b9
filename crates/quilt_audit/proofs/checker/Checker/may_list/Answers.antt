use Rattle.std.proofs.Common.{List, sym, subst, Contains}
use Rattle.std.proofs.lemmas.Bool.{not-true, not-false}
use Rattle.quilt_record.specs.declared.entry.Entry.{Entry}
use Rattle.quilt_audit.proofs.checker.Checker.may_list.Goals as goal

pub returns-clause-yes : goal.returns-clause-yes
returns-clause-yes c t = record {
  first = c.if-self-ne0.false;
  above = c.if-e-self.false;
  fresh = λ d m same. c.has_name.ensures.no (not-true c.has_name.result t) d (subst (λ (l : List Entry). Contains l d) (sym c.entries.ensures.entries) m) same;
}

pub returns-clause-no : goal.returns-clause-no
returns-clause-no c f m =
    let w = c.has_name.ensures.yes (not-false c.has_name.result f) in
    m.fresh w.0 (subst (λ (l : List Entry). Contains l w.0) c.entries.ensures.entries w.1) w.2
