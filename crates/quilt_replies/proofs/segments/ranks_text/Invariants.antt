use Rattle.std.proofs.Common.{◌≡◌, map, take}
use Rattle.quilt_replies.specs.Answers.{ranked_line}
use Rattle.quilt_replies.specs.Bodies.{lines}
use Rattle.quilt_replies.proofs.segments.ranks_text.Given as goal

abbrev pub invariant-loop-id : goal.invariant-loop-id
invariant-loop-id l = l.text ≡ lines (map ranked_line (take l.id-index l.ranks))
