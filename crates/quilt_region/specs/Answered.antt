-- What is answered of any records, also of such as spell no grid.
use Rattle.std.specs.Prelude.{◌≡◌, ℕ, true, List, Some}
use Rattle.quilt_types.specs.declared.plane.Pixel.{Pixel}
use Rattle.quilt_types.specs.declared.plane.Block.{Block}
use Rattle.quilt_types.specs.Plane.{in_block}
use Rattle.quilt_record.specs.declared.record.Record.{Record}
use Rattle.quilt_btree.specs.Lists.{floor_of}
use Rattle.quilt_spell.specs.OfLayer.{leaf_record}
use Rattle.quilt_region.specs.Regions.{pixel_key}

-- the record of the greatest key up to a pixel's is the leaf of this colour around it
pub record IsColourFound (n layer : ℕ) (rs : List Record) (p : Pixel) (colour : ℕ) : Type 0 where
  pub block : Block
  pub holds : in_block block p ≡ true
  pub is : floor_of (pixel_key layer p) rs ≡ Some (leaf_record n layer (block, colour))
