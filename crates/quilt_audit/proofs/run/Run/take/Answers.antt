use Rattle.std.proofs.Common.{subst}
use Rattle.std.proofs.lemmas.Bool.{OnFalse_at, OnFalse_from}
use Rattle.quilt_audit.specs.Runs.{IsRun}
use Rattle.quilt_audit.proofs.run.Run.take.Goals as goal

pub returns-in-Region-clause-refused : goal.returns-in-Region-clause-refused
returns-in-Region-clause-refused c rs kind h =
    OnFalse_from c.take_leaf.result _ (λ f. OnFalse_at f c.take_leaf.ensures.no rs kind
    (subst (IsRun c.args.format c.args.level rs c.args.r.now.key.layer kind) c.in-Region.is h))
