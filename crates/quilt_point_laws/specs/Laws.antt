-- The laws that a caller may cite: a put and a del change one block and what lies in it, and a layer begins with no points.
use Rattle.std.specs.Prelude.{◌≡◌, ℕ, ◌+◌, ◌^◌, ◌<◌, ◌≤◌, true, List, [], ◌∷◌, length, map, filter, Contains, Some, None}
use Rattle.std.specs.FinMap as finmap
use Rattle.quilt_types.specs.declared.plane.Block.{Block}
use Rattle.quilt_types.specs.declared.plane.Pixel.{Pixel}
use Rattle.quilt_types.specs.Plane.{in_block, is_pixel, whole, Holds}
use Rattle.quilt_types.specs.Layers.{Points, PointMap, IsPointMap}
use Rattle.quilt_types.specs.Quadtrees.{holds_few, point_blocks}
use Rattle.quilt_types.specs.Facts.{IsOfKind, HoldsNoPoint}
use Rattle.quilt_record.specs.declared.record.Record.{Record}
use Rattle.quilt_record.specs.Records.{record_of}
use Rattle.quilt_spell.specs.Apart.{Apart, SameMembers}
use Rattle.quilt_spell.specs.Changing.{LeadsTo}
use Rattle.quilt_point_laws.specs.Climbing.{climb}
use Rattle.quilt_point_laws.specs.Plans.{without_it, with_it}

-- the points of a block, each once, in any order
pub record AreIn (points : PointMap) (b : Block) (held : List (Pixel × ℕ)) : Type 0 where
  pub once : Apart held
  pub members : SameMembers held (filter (λ e. in_block b e.0) (finmap.entries points))

-- c: the block around the pixel, k: the level of its side, held: its points
abbrev pub PutLaw : Type 0
PutLaw =
    (form n : ℕ) (name : List ℕ) (number capacity : ℕ) → n ≤ 12 → 1 ≤ number → (points : PointMap) → IsPointMap form n capacity points → (p : Pixel) (label : ℕ)
    → finmap.get points p ≡ None → is_pixel n p ≡ true → label < 2 ^ 32
    → (c : Block) → Contains (point_blocks n capacity points) c → Holds c p → (k : ℕ) → c.side ≡ 2 ^ k → (held : List (Pixel × ℕ)) → AreIn points c held
    → LeadsTo n name number (Some (Points capacity points)) (Some (Points capacity (finmap.insert points p label)))
    (map (record_of n capacity name number) (without_it capacity c held)) (map (record_of n capacity name number) (with_it capacity k c held p label))

-- b: the block around the pixel, j: the level of its side, d: how many levels are above it; c: the last block up from it
-- that holds few of the other points, k: the level of its side, held: the other points in it
abbrev pub DelLaw : Type 0
DelLaw =
    (form n : ℕ) (name : List ℕ) (number capacity : ℕ) → n ≤ 12 → 1 ≤ number → (points : PointMap) → IsPointMap form n capacity points → (p : Pixel) (label : ℕ)
    → finmap.get points p ≡ Some label
    → (b : Block) → Contains (point_blocks n capacity points) b → Holds b p → (j d : ℕ) → b.side ≡ 2 ^ j → j + d ≡ n
    → let after = finmap.remove points p in let c = climb (holds_few capacity after) d b in
    (k : ℕ) → c.side ≡ 2 ^ k → (held : List (Pixel × ℕ)) → AreIn after c held
    → LeadsTo n name number (Some (Points capacity points)) (Some (Points capacity after))
    (map (record_of n capacity name number) (with_it capacity k c held p label)) (map (record_of n capacity name number) (without_it capacity c held))

-- a del never makes more records than there were
abbrev pub DelCountLaw : Type 0
DelCountLaw =
    (form n : ℕ) (name : List ℕ) (number capacity : ℕ) → n ≤ 12 → 1 ≤ number → (points : PointMap) → IsPointMap form n capacity points → (p : Pixel) (label : ℕ)
    → finmap.get points p ≡ Some label → (removed added : List Record)
    → LeadsTo n name number (Some (Points capacity points)) (Some (Points capacity (finmap.remove points p))) removed added → length added ≤ length removed

-- a layer of no points comes: the record of its kind, and that of the whole square, which holds none
abbrev pub BeginLaw : Type 0
BeginLaw =
    (n : ℕ) (name : List ℕ) (number capacity : ℕ) → 1 ≤ number
    → LeadsTo n name number None (Some (Points capacity finmap.empty)) []
    (record_of n capacity name number (IsOfKind 2 capacity) ∷ record_of n capacity name number (HoldsNoPoint (whole n)) ∷ [])
