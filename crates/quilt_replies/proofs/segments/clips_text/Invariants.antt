use Rattle.std.proofs.Common.{◌≡◌, map, take}
use Rattle.quilt_replies.specs.Bodies.{lines, clip_line}
use Rattle.quilt_replies.proofs.segments.clips_text.Given as goal

abbrev pub invariant-loop-id : goal.invariant-loop-id
invariant-loop-id l = l.text ≡ lines (map clip_line (take l.id-index l.clips))
