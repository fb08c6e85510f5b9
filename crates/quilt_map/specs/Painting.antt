-- What is known of a region layer that is painted.
use Rattle.std.specs.Prelude.{◌≡◌, ℕ, List, Some}
use Rattle.std.specs.FinMap as finmap
use Rattle.quilt_types.specs.Layers.{Region, Map, Grid}
use Rattle.quilt_record.specs.declared.entry.Entry.{Entry}
use Rattle.quilt_record.specs.Records.{Numbering}
use Rattle.quilt_spell.specs.Catalogued.{IsCatalogOf}
use Rattle.quilt_spell.specs.Written.{number_of}

-- the map has the region layer under the name, and the entries give it this number
pub record IsRegionIn (layers : Map) (entries : List Entry) (name : List ℕ) (number : ℕ) (g : Grid) : Type 0 where
  pub got : finmap.get layers name ≡ Some (Region g)
  pub numbered : (numbers : Numbering) → IsCatalogOf layers numbers entries → number ≡ number_of numbers name
