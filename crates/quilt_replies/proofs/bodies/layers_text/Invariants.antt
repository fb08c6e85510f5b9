use Rattle.std.proofs.Common.{◌≡◌, map, take}
use Rattle.quilt_replies.specs.Bodies.{lines, entry_line}
use Rattle.quilt_replies.proofs.bodies.layers_text.Given as goal

abbrev pub invariant-loop-e : goal.invariant-loop-e
invariant-loop-e l = l.text ≡ lines (map entry_line (take l.e-index l.entries))
