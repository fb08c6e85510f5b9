use Rattle.std.proofs.Common.{List, refl, sym, subst}
use Rattle.std.proofs.lemmas.Result.{IfOk-weaker}
use Rattle.quilt_lines.specs.Merges.{IsMerged}
use Rattle.quilt_lines.proofs.plans.MergeSteps.{cut_settles, merged_settles}
use Rattle.quilt_lines.proofs.removal.Removal.joined.Goals as goal

pub returns-then-not-is_one_now : goal.returns-then-not-is_one_now
returns-then-not-is_one_now c k segs cover e away met g =
    cut_settles c.args.self.now.level c.args.self.now.layer c.args.self.now.threshold c.args.self.now.id segs cover c.args.self.now.segment k c.args.b
    c.requires e away met c.args.quarters g _
    (sym c.if-not-is_one_now.ensures) refl refl refl refl refl

pub returns : goal.returns
returns c =
    IfOk-weaker c.merged.result _ _ (λ x m k segs cover e away met g.
    merged_settles c.args.self.now.level c.args.self.now.layer c.args.self.now.threshold c.args.self.now.id segs cover c.args.self.now.segment k c.args.b
    c.requires e away met c.args.quarters g x
    (sym c.if-not-is_one_now.ensures) (subst (λ (l : List _). IsMerged c.args.self.now.level c.args.self.now.layer c.args.b c.args.quarters.ids.items l x)
    c.deref.ensures.value m)) c.merged.ensures
