use Rattle.std.proofs.Common.{◌≡◌, map, take}
use Rattle.std.specs.Prelude.{decimal}
use Rattle.quilt_replies.specs.Bodies.{lines}
use Rattle.quilt_replies.proofs.segments.ids_text.Given as goal

abbrev pub invariant-loop-id : goal.invariant-loop-id
invariant-loop-id l = l.text ≡ lines (map (λ e. decimal e.0) (take l.id-index l.segs))
