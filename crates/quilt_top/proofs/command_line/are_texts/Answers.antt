use Rattle.std.proofs.Common.{arith}
use Rattle.std.specs.Str.{IsUtf8}
use Rattle.clap.proofs.FactLemmas.{prefix_step_at, prefix_end}
use Rattle.quilt_top.proofs.command_line.are_texts.Goals as goal

pub loop-word-preserved : goal.loop-word-preserved
loop-word-preserved c =
    prefix_step_at (λ w. IsUtf8 w.now) c.args.words.now c.loop-word.word-index _ c.loop-word-test.true c.is_text.ensures c.loop-word.invariant

pub returns : goal.returns
returns c = prefix_end (λ w. IsUtf8 w.now) c.args.words.now c.loop-word.word-index (omega arith) c.loop-word.invariant
