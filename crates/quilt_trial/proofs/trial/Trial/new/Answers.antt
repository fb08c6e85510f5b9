use Rattle.std.proofs.Common.{◌≤◌, ◌+◌, ◌*◌, ℕ, List, ap, sym, subst}
use Rattle.quilt_trial.specs.declared.trial.Stage.TheVariants as stages
use Rattle.quilt_trial.specs.Rest.{newlines, rest_at}
use Rattle.quilt_trial.proofs.Counts.{text_few}
use Rattle.quilt_lang.specs.Trials.{trial_text}
use Rattle.quilt_trial.proofs.trial.Trial.new.Goals as goal

pub returns-clause-text : goal.returns-clause-text
unfolding trial_text
returns-clause-text c = ap (λ (s : ℕ). rest_at stages.First c.args.count 1 s c.args.seed) c.side_of.ensures.is

pub returns-clause-few : goal.returns-clause-few
unfolding trial_text
returns-clause-few c =
    let is = ap (λ (s : ℕ). rest_at stages.First c.args.count 1 s c.args.seed) c.side_of.ensures.is in
    subst (λ (text : List ℕ). newlines text ≤ 2 * c.args.count + 5) (sym is) (text_few c.args.seed c.args.count c.args.level)
