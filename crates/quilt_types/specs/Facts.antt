-- A map as a set of facts, which is what its records count.
use Rattle.std.specs.Prelude.{ℕ, ◌+◌, ◌-◌, ◌*◌, Bool, false, ◌&&◌, not, ◌==◌, List, [], ◌∷◌, ◌++◌, length, map, filter, flat_map, count_by, sum_by}
use Rattle.std.specs.List.{list_any}
use Rattle.std.specs.Str.{bytes_eq}
use Rattle.std.specs.FinMap as finmap
use Rattle.quilt_types.specs.Sets as finset
use Rattle.quilt_types.specs.declared.plane.Pixel.{Pixel}
use Rattle.quilt_types.specs.declared.plane.Block.{Block}
use Rattle.quilt_types.specs.declared.plane.Seg.{Seg}
use Rattle.quilt_types.specs.Plane.{in_block}
use Rattle.quilt_types.specs.Layers.{Layer, Region, Points, Lines, Map, PointMap, SegMap}
use Rattle.quilt_types.specs.Segments.{square, meets}
use Rattle.quilt_types.specs.Quadtrees.{leaves, point_blocks}

-- What one record of a layer says: the layer's kind (1 region, 2 points, 3 lines) with its capacity or threshold; a block's colour;
-- a block with a point in it, or without one; a segment under its id; a block with a segment that meets it, or with none.
pub data Fact : Type 0 where
  IsOfKind : (kind number : ℕ) → Fact
  HasColour : (b : Block) (colour : ℕ) → Fact
  HoldsPoint : (b : Block) (p : Pixel) (label : ℕ) → Fact
  HoldsNoPoint : (b : Block) → Fact
  IsSegment : (id : ℕ) (s : Seg) → Fact
  IsMetBy : (b : Block) (id : ℕ) → Fact
  IsMetByNone : (b : Block) → Fact

-- the facts on a block, or the one that says that there are none
abbrev pub or_none : Fact → List Fact → List Fact
or_none none [] = none ∷ []
or_none none (f ∷ fs) = f ∷ fs

-- the facts of a point layer on one of its blocks
abbrev pub point_facts : PointMap → Block → List Fact
point_facts points b =
    or_none (HoldsNoPoint b) (map (λ e. HoldsPoint b e.0 e.1) (filter (λ e. in_block b e.0) (finmap.entries points)))

-- the facts of a line layer on one of its blocks
abbrev pub line_facts : SegMap → Block → List Fact
line_facts segs b =
    or_none (IsMetByNone b) (map (λ e. IsMetBy b e.0) (filter (λ e. meets e.1 (square b)) (finmap.entries segs)))

-- the facts that a layer of a map of level n is, its kind first
abbrev pub facts : ℕ → Layer → List Fact
facts n (Region grid) = IsOfKind 1 0 ∷ map (λ leaf. HasColour leaf.0 leaf.1) (leaves n grid)
facts n (Points capacity points) = IsOfKind 2 capacity ∷ flat_map (point_facts points) (point_blocks n capacity points)
facts n (Lines threshold segs cover) =
    IsOfKind 3 threshold
    ∷ map (λ e. IsSegment e.0 e.1) (finmap.entries segs) ++ flat_map (line_facts segs) (finset.items cover)

-- how many facts a map is
abbrev pub records : ℕ → Map → ℕ
records n layers = sum_by (λ e. length (facts n e.1)) (finmap.entries layers)

-- how many records a file of so many home pages may hold
abbrev pub quota : ℕ → ℕ
quota pages = 64 * (pages - 8)

-- both blocks have the same corner and side
abbrev pub same_block : Block → Block → Bool
same_block a b = (a.x == b.x) && (a.y == b.y) && (a.side == b.side)

-- both are the same pixel
abbrev pub same_pixel : Pixel → Pixel → Bool
same_pixel p q = (p.x == q.x) && (p.y == q.y)

-- both segments have the same first and the same last end
abbrev pub same_seg : Seg → Seg → Bool
same_seg s t = (s.x1 == t.x1) && (s.y1 == t.y1) && (s.x2 == t.x2) && (s.y2 == t.y2)

-- both facts are of one kind and say the same
abbrev pub same_fact : Fact → Fact → Bool
same_fact (IsOfKind k t) (IsOfKind l u) = (k == l) && (t == u)
same_fact (HasColour a c) (HasColour b d) = same_block a b && (c == d)
same_fact (HoldsPoint a p k) (HoldsPoint b q l) = same_block a b && same_pixel p q && (k == l)
same_fact (HoldsNoPoint a) (HoldsNoPoint b) = same_block a b
same_fact (IsSegment i s) (IsSegment j t) = (i == j) && same_seg s t
same_fact (IsMetBy a i) (IsMetBy b j) = same_block a b && (i == j)
same_fact (IsMetByNone a) (IsMetByNone b) = same_block a b
same_fact f g = false

-- the facts of a map, each with its layer's name
abbrev pub all_facts : ℕ → Map → List (List ℕ × Fact)
all_facts n layers = flat_map (λ e. map (λ f. (e.0, f)) (facts n e.1)) (finmap.entries layers)

-- the list has this fact under this layer's name
abbrev pub is_fact_of : List (List ℕ × Fact) → List ℕ × Fact → Bool
is_fact_of fs f = list_any (λ g. bytes_eq f.0 g.0 && same_fact f.1 g.1) fs

-- how many facts are in exactly one of two maps
unfoldable pub changes : ℕ → Map → Map → ℕ
changes n old new =
    let was = all_facts n old in
    let is = all_facts n new in
    count_by (λ f. not (is_fact_of is f)) was + count_by (λ f. not (is_fact_of was f)) is
