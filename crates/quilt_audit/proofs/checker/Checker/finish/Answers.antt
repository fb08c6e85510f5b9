use Rattle.std.proofs.lemmas.Bool.{OnTrue_at, OnFalse_at}
use Rattle.quilt_audit.proofs.Taking.{whole_spelled, whole_numbered, not_whole}
use Rattle.quilt_audit.proofs.checker.Checker.finish.Goals as goal

pub returns-clause-some : goal.returns-clause-some
returns-clause-some c total rs fed up =
    whole_spelled c.args.self total rs fed c.is_whole.ensures.catalog
    (OnTrue_at c.if-not-branch.false c.in_ok-is_whole.ensures.yes) up

pub returns-clause-numbered : goal.returns-clause-numbered
returns-clause-numbered c total rs fed =
    whole_numbered c.args.self total rs fed (OnTrue_at c.if-not-branch.false c.in_ok-is_whole.ensures.yes)

pub returns-then-not-branch-clause-none : goal.returns-then-not-branch-clause-none
returns-then-not-branch-clause-none c total rs fed =
    not_whole c.args.self total rs fed (OnFalse_at c.if-not-branch.true c.in_ok-is_whole.ensures.no)
