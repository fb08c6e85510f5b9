use Rattle.std.proofs.Common.{◌≡◌, ◌∷◌, ◌++◌, true, take}
use Rattle.quilt_trial.specs.Drawing.{has_no_newline}
use Rattle.quilt_trial.proofs.Bytes.{numbers_text}
use Rattle.quilt_trial.proofs.draws.command_line.Given as goal

abbrev pub invariant-loop-number : goal.invariant-loop-number
invariant-loop-number l = record {
  text : l.text ≡ (l.word ++ 32 ∷ l.layer) ++ numbers_text (take l.number-index l.numbers);
  plain : has_no_newline l.word ≡ true → has_no_newline l.layer ≡ true → has_no_newline l.text ≡ true;
}
