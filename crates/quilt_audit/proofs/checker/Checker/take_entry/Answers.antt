use Rattle.std.proofs.Common.{◌≡◌, ◌++◌, ◌∷◌, [], List, length, suc, sym, ◌∙◌, ap, subst, arith}
use Rattle.quilt_record.specs.declared.entry.Entry.{Entry}
use Rattle.quilt_spell.proofs.Spelling.{all_from}
use Rattle.quilt_audit.specs.Checking.{IsSoFar}
use Rattle.quilt_audit.proofs.Steps.{IsSoFar-entry}
use Rattle.quilt_audit.proofs.Taking.{entry_no, entry_read, entry_same, may_from}
use Rattle.quilt_record.proofs.Entries.{length_with}
use Rattle.quilt_audit.proofs.checker.Checker.take_entry.Goals as goal

pub returns-in_default-clause-no : goal.returns-in_default-clause-no
returns-in_default-clause-no c =
    let s = c.args.self.now in
    entry_no s.format s.level s.level_least s.level_most s.catalog s.last s.layer s.run s.last_most c.args.r.now c.requires
    (entry_read s.format s.last s.layer s.catalog c.args.r.now c.read_catalog.result c.in_default.is c.read_catalog.ensures.one)

pub returns-then-not-may_list-clause-no : goal.returns-then-not-may_list-clause-no
returns-then-not-may_list-clause-no c =
    let s = c.args.self.now in
    entry_no s.format s.level s.level_least s.level_most s.catalog s.last s.layer s.run s.last_most c.args.r.now c.requires
    (λ w. c.may_list.ensures.no c.if-not-may_list.true
    (may_from s.format s c.args.r.now c.in-Some.e w
    (entry_same s.format s.last s.layer s.catalog c.args.r.now c.read_catalog.result c.in-Some.e c.in-Some.is c.read_catalog.ensures.one w)))

pub insert-requires-clause-new : goal.insert-requires-clause-new
insert-requires-clause-new c =
    all_from (λ (f : Entry). f.name ≡ c.in-Some.e.name → ⊥) c.args.self.now.catalog (c.may_list.ensures.yes c.if-not-may_list.false).fresh

pub invariant_of-self : goal.invariant_of-self
invariant_of-self c =
    let s = c.args.self.now in
    let few = s.few in
    let above = (c.may_list.ensures.yes c.if-not-may_list.false).above in
    let long : length c.insert.new.self ≡ suc (length s.catalog) = ap length c.insert.ensures ∙ length_with c.in-Some.e s.catalog in
    record { level_least = s.level_least; level_most = s.level_most; few = omega arith; last_most = c.in-Some.ensures.some.most }

pub returns-clause-yes : goal.returns-clause-yes
returns-clause-yes c rs f =
    let s = c.args.self.now in
    let may = c.may_list.ensures.yes c.if-not-may_list.false in
    let first = may.first in (
      subst (λ (l : List Entry). IsSoFar s.format s.level l c.in-Some.e.number s.layer s.run (rs ++ c.args.r.now ∷ [])) (sym c.insert.ensures)
          (IsSoFar-entry s.format s.level s.catalog s.last s.layer s.run rs f c.args.r.now c.in-Some.e c.in-Some.ensures.some may.first may.above),
      λ some. absurd (omega arith),
    )
