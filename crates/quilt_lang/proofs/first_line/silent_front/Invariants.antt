use Rattle.std.proofs.Common.{◌≤◌, ◌-◌, length, drop, [], false, ℕ}
use Rattle.quilt_lang.specs.Reading.{Gives}
use Rattle.quilt_lang.specs.Progress.{IsUncut}
use Rattle.quilt_lang.proofs.first_line.silent_front.Given as goal

abbrev pub invariant-loop-k : goal.invariant-loop-k
invariant-loop-k l = record {
  within : l.from ≤ length l.text;
  gives : (n : ℕ) → Gives false n [] l.text (drop l.from l.text);
  uncut : IsUncut l.known (drop l.from l.text);
}

abbrev pub decreases-loop-k : goal.decreases-loop-k
decreases-loop-k l = length l.text - l.from
