use Rattle.std.proofs.Common.{sym, ◌∙◌}
use Rattle.quilt_map.proofs.layers.Fillings.{leave_here, leave_more}
use Rattle.quilt_map.proofs.polygon.leave_square.Goals as goal

pub returns-then-leaves_square : goal.returns-then-leaves_square
returns-then-leaves_square c =
    sym (leave_here c.args.side c.args.rings.now c.loop-i.i c.corners.result.now c.corners.ensures (sym c.leaves_square.ensures ∙ c.if-leaves_square.true))

pub loop-i-preserved : goal.loop-i-preserved
loop-i-preserved c =
    leave_more c.args.side c.args.rings.now c.loop-i.i c.corners.result.now c.corners.ensures
    (sym c.leaves_square.ensures ∙ c.if-leaves_square.false) c.loop-i.invariant
