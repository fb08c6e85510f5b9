-- A map of points as the records of a point layer.
use Rattle.std.specs.Prelude.{◌≡◌, ℕ, ◌-◌, ◌^◌, List, [], map, flat_map, Contains, Option}
use Rattle.quilt_types.specs.declared.plane.Pixel.{Pixel}
use Rattle.quilt_types.specs.declared.plane.Point.{Point}
use Rattle.quilt_types.specs.Layers.{PointMap, IsPointMap}
use Rattle.quilt_types.specs.Facts.{Fact, point_facts}
use Rattle.quilt_types.specs.Quadtrees.{point_blocks}
use Rattle.quilt_loc.specs.Codes.{code_at}
use Rattle.quilt_record.specs.declared.key.Key.{Key}
use Rattle.quilt_record.specs.declared.record.Record.{Record}
use Rattle.quilt_record.specs.Records.{record_of}
use Rattle.quilt_btree.specs.declared.tree.Tree.{Tree}
use Rattle.quilt_btree.specs.Trees.{IsTree}

-- a point as an entry of a map
abbrev pub point_entry : Point → Pixel × ℕ
point_entry p = (p.at, p.label)

-- points as entries
abbrev pub point_entries : List Point → List (Pixel × ℕ)
point_entries points = map point_entry points

-- the facts on the layer's blocks: all but that of its kind
abbrev pub block_facts : ℕ → ℕ → PointMap → List Fact
block_facts n capacity points = flat_map (point_facts points) (point_blocks n capacity points)

-- the record of a fact on a block of the layer with this number, whose blocks hold at most so many points
abbrev pub block_record : ℕ → ℕ → ℕ → Fact → Record
block_record n capacity layer f = record_of n capacity [] layer f

-- the key to which a search for the block of a pixel goes: that of the pixel's code, behind each block that begins there
abbrev pub point_pixel_key : ℕ → Pixel → Key
point_pixel_key layer p = record { layer = layer; part = 2; code = code_at p; depth = 255; item = 2 ^ 32 - 1 }

-- Those of the records that are of the layer with this number are exactly the records of the facts on its blocks.
pub record SpellsPoints (rs : List Record) (layer n capacity : ℕ) (points : PointMap) : Type 0 where
  pub valid : IsPointMap 2 n capacity points
  pub each : (f : Fact) → Contains (block_facts n capacity points) f → Contains rs (block_record n capacity layer f)
  pub only : (r : Record) → Contains rs r → r.key.layer ≡ layer → Contains (map (block_record n capacity layer) (block_facts n capacity points)) r

-- the store tells pages over which the tree has records that spell the layer as this map of points
pub record HasPoints (told : Option (List (List ℕ))) (t : Tree) (layer n capacity : ℕ) (points : PointMap) : Type 0 where
  pub records : List Record
  pub tree : IsTree told t records
  pub spelled : SpellsPoints records layer n capacity points
