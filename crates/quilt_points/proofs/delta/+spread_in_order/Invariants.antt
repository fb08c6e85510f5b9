use Rattle.std.proofs.Common.{take}
use Rattle.quilt_points.proofs.plans.Deltas.{IsSpread}
use Rattle.quilt_points.proofs.plans.Parts.{IsSplit}
use Rattle.quilt_points.proofs.delta.+spread_in_order.Given as goal

abbrev pub decreases-spread_in_order : goal.decreases-spread_in_order
decreases-spread_in_order l = l.b.side

abbrev pub invariant-loop-q : goal.invariant-loop-q
invariant-loop-q l = record {
  split : IsSplit l.q-items l.q-index l.points l.done;
  records : IsSpread l.layer.level l.layer.bucket l.layer.number l.points l.fn.b (take l.q-index l.q-items) l.initial.records.items l.records.items;
}
