use Rattle.std.proofs.Common.{refl, sym, arith}
use Rattle.std.proofs.lemmas.Bool.{OnTrue_at, OnFalse_at, OnTrue_from, OnFalse_from}
use Rattle.std.proofs.lemmas.Result.{IfOk-weaker}
use Rattle.quilt_audit.proofs.Lists.{at_last}
use Rattle.quilt_audit.proofs.Steps.{IsSoFar-more}
use Rattle.quilt_audit.proofs.Taking.{layer_no, record_no, run_moved, no_moved}
use Rattle.quilt_audit.proofs.checker.Checker.take_block.Goals as goal

pub returns-then-r-gt255-clause-no : goal.returns-then-r-gt255-clause-no
returns-then-r-gt255-clause-no c rs f begun =
    let s = c.args.self.now in
    layer_no s.format s.level s.level_least s.level_most s.catalog s.last s.layer s.run s.last_most c.args.r.now.key.layer c.requires
    (λ w. let most = w.most in let lt = c.if-r-gt255.true in omega arith) rs c.args.r.now f begun refl

pub returns-then-not-branch-clause-no : goal.returns-then-not-branch-clause-no
returns-then-not-branch-clause-no c rs f begun =
    OnFalse_at c.if-not-branch.true (c.in_ok-turn_to.ensures.no rs c.args.r.now f begun refl)

pub returns-clause-yes : goal.returns-clause-yes
returns-clause-yes c =
    let s = c.args.self.now in
    let t = c.turn_to.new.self in
    let r = c.args.r.now in
    let next = c.take.new.self in
    IfOk-weaker c.take.result _ _
    (λ ok taken rs f. OnTrue_from ok _ (λ yes'.
    let turned = OnTrue_at c.if-not-branch.false (c.in_ok-turn_to.ensures.yes rs f) in
    let here = turned.1 in
    let some = c.requires in (
      IsSoFar-more s.format s.level t.catalog t.last t.layer t.run rs turned.0 r next (omega arith) (sym here)
          (λ kind. run_moved s.format s.level t.format t.level t.layer r.key.layer c.turn_to.ensures.format c.turn_to.ensures.level here rs r kind
          t.run next (λ h. OnTrue_at yes' (taken rs kind h))),
      λ one. (r, at_last rs r, sym here),
    ))) c.take.ensures.taken

pub returns-clause-no : goal.returns-clause-no
returns-clause-no c =
    let s = c.args.self.now in
    let t = c.turn_to.new.self in
    let r = c.args.r.now in
    IfOk-weaker c.take.result _ _
    (λ ok refused rs f begun. OnFalse_from ok _ (λ no'.
    let turned = OnTrue_at c.if-not-branch.false (c.in_ok-turn_to.ensures.yes rs f) in
    let here = turned.1 in
    let some = c.requires in
    record_no s.format s.level s.level_least s.level_most t.catalog t.last t.layer t.run t.last_most r rs (omega arith) (sym here)
    (λ kind. no_moved s.format s.level t.format t.level t.layer r.key.layer c.turn_to.ensures.format c.turn_to.ensures.level here rs r kind t.run
    (λ h. OnFalse_at no' (refused rs kind h)))
    turned.0)) c.take.ensures.refused
