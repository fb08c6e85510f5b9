use Rattle.std.proofs.Common.{◌≡◌, take, map, flat_map}
use Rattle.quilt_types.specs.Polygons.{ring_edges}
use Rattle.quilt_poly.specs.Edges.{edge_of}
use Rattle.quilt_poly.proofs.edges.edges_of.Given as goal

abbrev pub invariant-loop-i : goal.invariant-loop-i
invariant-loop-i l = map edge_of l.edges.items ≡ flat_map ring_edges (take l.i l.rings)
