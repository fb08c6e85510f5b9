use Rattle.std.proofs.Common.{◌≡◌, map, take}
use Rattle.quilt_replies.specs.Answers.{leaf_line}
use Rattle.quilt_replies.specs.Bodies.{lines}
use Rattle.quilt_replies.proofs.bodies.leaves_text.Given as goal

abbrev pub invariant-loop-block : goal.invariant-loop-block
invariant-loop-block l = l.text ≡ lines (map leaf_line (take l.block-index l.block-items))
