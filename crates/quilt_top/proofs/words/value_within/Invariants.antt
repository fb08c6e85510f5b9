use Rattle.std.proofs.Common.{◌≡◌, ◌≤◌, take}
use Rattle.quilt_words.specs.Spelling.{value_of}
use Rattle.quilt_top.proofs.words.value_within.Given as goal

abbrev pub invariant-loop-digit : goal.invariant-loop-digit
invariant-loop-digit l = record {
  value : l.value ≡ value_of (take l.digit-index l.digits);
  within : l.value ≤ l.high;
}
