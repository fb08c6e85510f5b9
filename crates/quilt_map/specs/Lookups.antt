-- What a look-up in a catalog says of the map that has it.
use Rattle.std.specs.Prelude.{◌≡◌, ℕ, ◌<◌, List, Some, length, slice_index_or}
use Rattle.std.specs.FinMap as finmap
use Rattle.quilt_types.specs.Layers.{Layer, Map}
use Rattle.quilt_record.specs.declared.entry.Entry.{Entry}
use Rattle.quilt_record.specs.Records.{Numbering}
use Rattle.quilt_spell.specs.Catalogued.{catalog_entry}

-- the map has a layer under the name, whose entry stands at the place
pub record IsLayerAt (layers : Map) (numbers : Numbering) (entries : List Entry) (name : List ℕ) (place : ℕ) : Type 0 where
  pub layer : Layer
  pub got : finmap.get layers name ≡ Some layer
  pub inside : place < length entries
  pub entry : (d : Entry) → slice_index_or entries place d ≡ catalog_entry numbers (name, layer)
