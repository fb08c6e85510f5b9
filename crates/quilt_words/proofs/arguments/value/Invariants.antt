use Rattle.std.proofs.Common.{◌≡◌, ◌≤◌, fold, drop}
use Rattle.quilt_words.specs.Spelling.{value_of}
use Rattle.quilt_words.proofs.Numbers.{step}
use Rattle.quilt_words.proofs.arguments.value.Given as goal

abbrev pub invariant-loop-c : goal.invariant-loop-c
invariant-loop-c l = record { low : l.v ≤ l.high; is : fold step l.v (drop l.c-index l.digits) ≡ value_of l.digits }
