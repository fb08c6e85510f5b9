use Rattle.std.proofs.Common.{◌≡◌, map, take}
use Rattle.quilt_replies.specs.Answers.{seg_line}
use Rattle.quilt_replies.specs.Bodies.{lines}
use Rattle.quilt_replies.proofs.segments.segs_text.Given as goal

abbrev pub invariant-loop-id : goal.invariant-loop-id
invariant-loop-id l = l.text ≡ lines (map seg_line (take l.id-index l.segs))
