use Rattle.std.proofs.Common.{◌≡◌, map, take}
use Rattle.quilt_types.specs.declared.plane.Point.{Point}
use Rattle.quilt_replies.specs.Answers.{point_line}
use Rattle.quilt_replies.specs.Bodies.{lines}
use Rattle.quilt_replies.proofs.bodies.points_text.Given as goal

abbrev pub invariant-loop-p : goal.invariant-loop-p
invariant-loop-p l = l.text ≡ lines (map (λ (p : Point). point_line (p.at, p.label)) (take l.p-index l.p-items))
