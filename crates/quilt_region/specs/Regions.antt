-- A grid as the records of a region layer.
use Rattle.std.specs.Prelude.{◌≡◌, ℕ, ◌-◌, ◌^◌, List, map, Contains, Option}
use Rattle.quilt_types.specs.declared.plane.Pixel.{Pixel}
use Rattle.quilt_types.specs.declared.plane.Block.{Block}
use Rattle.quilt_types.specs.Layers.{Grid, IsGrid}
use Rattle.quilt_types.specs.Quadtrees.{leaves}
use Rattle.quilt_loc.specs.Codes.{code_at}
use Rattle.quilt_record.specs.declared.key.Key.{Key}
use Rattle.quilt_record.specs.declared.record.Record.{Record}
use Rattle.quilt_blocks.specs.Cutting.{leaves_by_code}
use Rattle.quilt_btree.specs.declared.tree.Tree.{Tree}
use Rattle.quilt_btree.specs.Trees.{IsTree}
use Rattle.quilt_spell.specs.OfLayer.{leaf_record}

-- the records of the grid's leaves, in the order of their codes, which is that of their keys
unfoldable pub region_records : ℕ → ℕ → Grid → List Record
region_records n layer g = map (leaf_record n layer) (leaves_by_code n g)

-- the key to which a search for the leaf of a pixel goes: that of the pixel's code, behind each block that begins there
abbrev pub pixel_key : ℕ → Pixel → Key
pixel_key layer p = record { layer = layer; part = 1; code = code_at p; depth = 255; item = 2 ^ 32 - 1 }

-- Those of the records that are of the layer with this number are exactly the records of the grid's leaves.
pub record SpellsGrid (rs : List Record) (layer n : ℕ) (g : Grid) : Type 0 where
  pub grid : IsGrid 2 n g
  pub each : (e : Block × ℕ) → Contains (leaves n g) e → Contains rs (leaf_record n layer e)
  pub only : (r : Record) → Contains rs r → r.key.layer ≡ layer → Contains (map (leaf_record n layer) (leaves n g)) r

-- the store tells pages over which the tree has records that spell the layer as this grid
pub record HasRegion (told : Option (List (List ℕ))) (t : Tree) (layer n : ℕ) (g : Grid) : Type 0 where
  pub records : List Record
  pub tree : IsTree told t records
  pub spelled : SpellsGrid records layer n g
