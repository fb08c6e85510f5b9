-- What each fact of a layer says of it.
use Rattle.std.specs.Prelude.{◌≡◌, ℕ, true, Contains}
use Rattle.std.specs.FinMap as finmap
use Rattle.quilt_types.specs.declared.plane.Seg.{Seg}
use Rattle.quilt_types.specs.declared.plane.Pixel.{Pixel}
use Rattle.quilt_types.specs.Plane.{IsBlock, corner, in_block}
use Rattle.quilt_types.specs.Layers.{Layer, Region, Points, Lines, Grid, PointMap, SegMap, colour_at}
use Rattle.quilt_types.specs.Facts.{Fact, IsOfKind, HasColour, HoldsPoint, HoldsNoPoint, IsSegment, IsMetBy, IsMetByNone}
use Rattle.quilt_types.specs.Quadtrees.{holds_few}
use Rattle.quilt_types.specs.Segments.{square, meets}

-- what a fact of a region layer says: its kind, or the colour of a block by that of its corner; no other fact is one of it
abbrev pub RegionSays : ℕ → Grid → Fact → Type 0
RegionSays n grid (IsOfKind kind number) = (kind ≡ 1) × (number ≡ 0)
RegionSays n grid (HasColour b colour) = IsBlock n b × (colour ≡ colour_at n grid (corner b))
RegionSays n grid f = ⊥

-- what a fact of a point layer says: its kind and capacity, a point of the layer in a block that holds no more than the capacity, or a block
-- in which no point of the layer lies; no other fact is one of it
abbrev pub PointsSay : ℕ → ℕ → PointMap → Fact → Type 0
PointsSay n capacity points (IsOfKind kind number) = (kind ≡ 2) × (number ≡ capacity)
PointsSay n capacity points (HoldsPoint b p label) =
    IsBlock n b × (holds_few capacity points b ≡ true) × Contains (finmap.entries points) (p, label) × (in_block b p ≡ true)
PointsSay n capacity points (HoldsNoPoint b) =
    IsBlock n b × ((p : Pixel) (label : ℕ) → Contains (finmap.entries points) (p, label) → in_block b p ≡ true → ⊥)
PointsSay n capacity points f = ⊥

-- what a fact of a line layer says: its kind and threshold, a segment under its id, a block with a segment that meets its closed square, or a
-- block that none meets; no other fact is one of it
abbrev pub LinesSay : ℕ → ℕ → SegMap → Fact → Type 0
LinesSay n threshold segs (IsOfKind kind number) = (kind ≡ 3) × (number ≡ threshold)
LinesSay n threshold segs (IsSegment id s) = Contains (finmap.entries segs) (id, s)
LinesSay n threshold segs (IsMetBy b id) =
    IsBlock n b × ((s : Seg) × Contains (finmap.entries segs) (id, s) × (meets s (square b) ≡ true))
LinesSay n threshold segs (IsMetByNone b) =
    IsBlock n b × ((id : ℕ) (s : Seg) → Contains (finmap.entries segs) (id, s) → meets s (square b) ≡ true → ⊥)
LinesSay n threshold segs f = ⊥

-- what a fact of a layer says, by the layer's kind
abbrev pub LayerSays : ℕ → Layer → Fact → Type 0
LayerSays n (Region grid) f = RegionSays n grid f
LayerSays n (Points capacity points) f = PointsSay n capacity points f
LayerSays n (Lines threshold segs cover) f = LinesSay n threshold segs f
