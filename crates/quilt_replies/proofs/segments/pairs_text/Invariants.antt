use Rattle.std.proofs.Common.{◌≡◌, map, take}
use Rattle.quilt_replies.specs.Answers.{pair_line}
use Rattle.quilt_replies.specs.Bodies.{lines}
use Rattle.quilt_replies.proofs.segments.pairs_text.Given as goal

abbrev pub invariant-loop-first : goal.invariant-loop-first
invariant-loop-first l = l.text ≡ lines (map pair_line (take l.first-index l.pairs))
