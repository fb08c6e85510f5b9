use Rattle.std.proofs.Common.{◌≡◌, ◌++◌, length}
use Rattle.quilt_lang.specs.Trials as trials
use Rattle.quilt_trial.proofs.trial.trial_text.Given as goal

abbrev pub invariant-loop-text : goal.invariant-loop-text
invariant-loop-text l = l.text ++ l.trial ≡ trials.trial_text l.seed l.count l.level

abbrev pub decreases-loop-text : goal.decreases-loop-text
decreases-loop-text l = length l.trial
