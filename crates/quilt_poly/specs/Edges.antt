-- Edges of rings beside pixels. The middle of a pixel and the ends of an edge have doubled coordinates.
use Rattle.std.specs.Prelude.{ℕ, ◌+◌, ◌*◌, ◌%◌, Bool, nat_lt, ◌==◌, List, [], ◌∷◌, drop, count_by, if◌then◌else◌}
use Rattle.quilt_types.specs.declared.plane.Pixel.{Pixel}
use Rattle.quilt_types.specs.declared.plane.Corner.{Corner}
use Rattle.quilt_types.specs.Polygons.{Edge, edges_from, is_right_of}
use Rattle.quilt_poly.specs.declared.edges.RingEdge.{RingEdge}

-- an edge as the definitions have it
abbrev pub edge_of : RingEdge → Edge
edge_of e = record { top = e.top; bottom = e.bottom }

-- the edges of a ring from one of its corners on, up to that from the last corner to the first
unfoldable pub edges_after : List Corner → ℕ → List Edge
edges_after [] i = []
edges_after (c ∷ cs) i = edges_from c (drop i (c ∷ cs))

-- twice the area of the triangle of the middle of the pixel and the edge is the first less the second
unfoldable pub ahead : Pixel → Edge → ℕ
ahead p e =
    2 * e.bottom.x * (2 * p.y + 1) + (2 * p.x + 1) * (2 * e.top.y) + 2 * e.top.x * (2 * e.bottom.y)

-- the second of the two, of the same doubled coordinates
unfoldable pub second_product : Pixel → Edge → ℕ
second_product p e =
    (2 * p.x + 1) * (2 * e.bottom.y) + 2 * e.top.x * (2 * p.y + 1) + 2 * e.bottom.x * (2 * e.top.y)

-- the middle of the pixel lies left of the edge's line
unfoldable pub is_left : Pixel → Edge → Bool
is_left p e = nat_lt (second_product p e) (ahead p e)

-- the line to the right from the middle of the pixel crosses the edge
unfoldable pub crosses : Pixel → RingEdge → Bool
crosses p e = is_right_of p (edge_of e)

-- the colour where an odd number of edges is crossed, and the background elsewhere
unfoldable pub colour_by : List RingEdge → ℕ → Pixel → ℕ
colour_by edges c p = if count_by (crosses p) edges % 2 == 1 then c else 0
