use Rattle.std.proofs.Common.{◌&&◌, leb}
use Rattle.quilt_poly.specs.Edges.{edge_of, crosses}
use Rattle.quilt_poly.specs.Bits.{IsMarked}
use Rattle.quilt_poly.specs.Crossings.{IsCrossing}
use Rattle.quilt_poly.proofs.outline.mark_up.Given as goal

abbrev pub invariant-loop-y : goal.invariant-loop-y
invariant-loop-y l = record {
  at : IsCrossing (edge_of l.fn.e) l.y l.at.column l.at.rest;
  marked : IsMarked l.side (λ p. leb l.y p.y && crosses p l.fn.e) l.initial.words l.words;
}
