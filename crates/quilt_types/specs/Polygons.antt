-- Which pixels lie inside of rings of corners. All is doubled, so that the middle of a pixel has whole coordinates.
use Rattle.std.specs.Prelude.{ℕ, ◌+◌, ◌*◌, ◌%◌, Bool, ◌&&◌, nat_le, ◌==◌, List, [], ◌∷◌, flat_map, count_by, if◌then◌else◌, pos, ◌-ℤ◌, ◌*ℤ◌, int_lt}
use Rattle.quilt_types.specs.declared.plane.Pixel.{Pixel}
use Rattle.quilt_types.specs.declared.plane.Corner.{Corner}
use Rattle.quilt_types.specs.Layers.{Grid}
use Rattle.quilt_types.specs.Algebra.{grid_of}

-- an edge, its upper end first
pub record Edge : Type 0 where
  pub top : Corner
  pub bottom : Corner

-- the edge between two corners, the upper one first
abbrev pub edge : Corner → Corner → Edge
edge a b = if nat_le a.y b.y then record { top = a; bottom = b } else record { top = b; bottom = a }

-- the edges from corner to corner, and from the last to the first
abbrev pub edges_from : Corner → List Corner → List Edge
edges_from first [] = []
edges_from first (c ∷ []) = edge c first ∷ []
edges_from first (c ∷ d ∷ cs) = edge c d ∷ edges_from first (d ∷ cs)

-- the edges of a ring of corners, closed from the last corner to the first
abbrev pub ring_edges : List Corner → List Edge
ring_edges [] = []
ring_edges (c ∷ cs) = edges_from c (c ∷ cs)

-- the line to the right from the middle of the pixel crosses the edge
abbrev pub is_right_of : Pixel → Edge → Bool
is_right_of p e =
    let px = pos (2 * p.x + 1) in
    let py = pos (2 * p.y + 1) in
    let ax = pos (2 * e.top.x) in
    let ay = pos (2 * e.top.y) in
    let bx = pos (2 * e.bottom.x) in
    let by = pos (2 * e.bottom.y) in
    int_lt ay py && int_lt py by && int_lt ((px -ℤ ax) *ℤ (by -ℤ ay)) ((bx -ℤ ax) *ℤ (py -ℤ ay))

-- an odd number of edges over all rings
abbrev pub is_inside : List (List Corner) → Pixel → Bool
is_inside rings p = count_by (is_right_of p) (flat_map ring_edges rings) % 2 == 1

-- the colour inside, and the background elsewhere
unfoldable pub filled_rings : ℕ → List (List Corner) → ℕ → Grid
filled_rings n rings c = grid_of n (λ p. if is_inside rings p then c else 0)

-- corners of pixels of the square
abbrev pub is_corner : ℕ → Corner → Bool
is_corner side c = nat_le c.x side && nat_le c.y side
