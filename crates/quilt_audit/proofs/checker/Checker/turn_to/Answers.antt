use Rattle.std.proofs.Common.{List, refl, sym, subst, inl, inr, ⊎_elim, arith, Contains}
use Rattle.std.proofs.lemmas.Bool.{OnTrue_at, OnFalse_at}
use Rattle.quilt_record.specs.declared.entry.Entry.{Entry}
use Rattle.quilt_audit.proofs.Steps.{IsSoFar-turn}
use Rattle.quilt_audit.proofs.Taking.{layer_no, next_reached}
use Rattle.quilt_audit.proofs.checker.Checker.turn_to.Goals as goal

pub returns-then-layer-from-2-clause-no : goal.returns-then-layer-from-2-clause-no
returns-then-layer-from-2-clause-no c =
    let s = c.args.self.now in
    layer_no s.format s.level s.level_least s.level_most s.catalog s.last s.layer s.run s.last_most c.args.layer c.requires.0
    (λ w. let below = w.below in let lt = c.if-layer-from-2.true in let e = c.from-2.ensures in omega arith)

pub returns-then-not-branch-clause-no : goal.returns-then-not-branch-clause-no
returns-then-not-branch-clause-no c =
    let s = c.args.self.now in
    let open_ = OnFalse_at c.if-not-branch.true c.in_ok-is_covered.ensures.no in
    layer_no s.format s.level s.level_least s.level_most s.catalog s.last s.layer s.run s.last_most c.args.layer c.requires.0
    (λ w.
    let ge = c.if-layer-from-2.false in
    let ne = c.if-layer-from.false in
    let e = c.from.ensures in
    let f = c.from-2.ensures in
    w.covered (omega arith) open_.0 open_.1)

pub returns-then-next_number-layer-clause-no : goal.returns-then-next_number-layer-clause-no
returns-then-next_number-layer-clause-no c =
    let s = c.args.self.now in
    layer_no s.format s.level s.level_least s.level_most s.catalog s.last s.layer s.run s.last_most c.args.layer c.requires.0
    (λ w. c.if-next_number-layer.true
    (next_reached s.level c.entries.result.now s.catalog s.layer s.run c.args.layer c.next_number.result c.entries.ensures.entries
    (let ge = c.if-layer-from-2.false in let ne = c.if-layer-from.false in let e = c.from.ensures in let f = c.from-2.ensures in omega arith)
    c.next_number.ensures.over.0 c.next_number.ensures.reached c.next_number.ensures.least w))

pub returns-in_default-clause-no : goal.returns-in_default-clause-no
returns-in_default-clause-no c rs r f begun is =
    let s = c.args.self.now in
    layer_no s.format s.level s.level_least s.level_most s.catalog s.last s.layer s.run s.last_most c.args.layer c.requires.0
    (λ w. let l = w.listed in c.in_default.ensures.none l.0 (subst (λ (es : List Entry). Contains es l.0) (sym c.entries-2.ensures.entries) l.1) l.2)
    rs r f begun is

pub returns-clause-yes : goal.returns-clause-yes
returns-clause-yes c rs f =
    let s = c.args.self.now in
    let over = c.next_number.ensures.over.0 in
    let is = c.if-next_number-layer.false in
    let full = OnTrue_at c.if-not-branch.false c.in_ok-is_covered.ensures.yes in
    let e = c.in-Some.ensures.some in (
      IsSoFar-turn s.format s.level s.catalog s.last s.layer s.run rs f s.level_least s.level_most full c.args.layer c.in-Some.run' (omega arith)
          e.0 (subst (λ (l : List Entry). Contains l e.0) c.entries-2.ensures.entries e.1) e.2 e.3
          (λ d m. ⊎_elim (λ low. inl low) (λ high. let a = high.0 in inr (omega arith))
          (c.next_number.ensures.least d (subst (λ (l : List Entry). Contains l d) (sym c.entries.ensures.entries) m))),
      refl,
    )
