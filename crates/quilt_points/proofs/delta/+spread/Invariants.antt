use Rattle.std.proofs.Common.{take}
use Rattle.quilt_points.proofs.plans.Deltas.{IsSpread}
use Rattle.quilt_points.proofs.delta.+spread.Given as goal

abbrev pub decreases-spread : goal.decreases-spread
decreases-spread l = l.b.side

abbrev pub invariant-loop-q : goal.invariant-loop-q
invariant-loop-q l = IsSpread l.layer.level l.layer.bucket l.layer.number l.points l.fn.b (take l.q-index l.q-items) l.initial.records.items l.records.items
