use Rattle.std.proofs.Common.{◌≡◌, ◌++◌, map}
use Rattle.quilt_types.specs.Polygons.{ring_edges}
use Rattle.quilt_poly.specs.Edges.{edge_of, edges_after}
use Rattle.quilt_poly.proofs.edges.push_ring.Given as goal

abbrev pub invariant-loop-i : goal.invariant-loop-i
invariant-loop-i l = map edge_of l.edges.items ++ edges_after l.ring l.i ≡ map edge_of l.initial.edges.items ++ ring_edges l.ring
