use Rattle.std.proofs.Common.{◌≡◌, length}
use Rattle.quilt_top.specs.Trying.{text_left}
use Rattle.quilt_top.proofs.turns.Trials.{Leads}
use Rattle.quilt_top.proofs.trial_items.TrialItems.take_command.Given as goal

abbrev pub invariant-lines : goal.invariant-lines
invariant-lines l = record {
  level : l.self.lines.level ≡ l.initial.self.lines.level;
  leads : Leads l.initial.self.lines.level (text_left l.initial.self) (text_left l.self);
}

abbrev pub decreases-lines : goal.decreases-lines
decreases-lines l = length l.self.trial
