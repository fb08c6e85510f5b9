use Rattle.std.proofs.Common.{take, All}
use Rattle.std.specs.Str.{IsUtf8}
use Rattle.quilt_top.proofs.command_line.are_texts.Given as goal

abbrev pub invariant-loop-word : goal.invariant-loop-word
invariant-loop-word l = All (λ w. IsUtf8 w.now) (take l.word-index l.words)
