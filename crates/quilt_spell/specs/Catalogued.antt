-- The catalog of a map: an entry for each of its layers.
use Rattle.std.specs.Prelude.{◌≡◌, ℕ, List, map}
use Rattle.std.specs.FinMap as finmap
use Rattle.quilt_types.specs.Layers.{Layer, Region, Points, Lines, Map}
use Rattle.quilt_types.specs.declared.plane.Kind.{Kind}
use Rattle.quilt_types.specs.declared.plane.Kind.TheVariants as kinds
use Rattle.quilt_record.specs.declared.entry.Entry.{Entry}
use Rattle.quilt_record.specs.Records.{Numbering}
use Rattle.quilt_spell.specs.Written.{number_of}

-- what kind of layer it is, with its capacity or threshold
abbrev pub kind_of : Layer → Kind
kind_of (Region grid) = kinds.Region
kind_of (Points capacity points) = kinds.Points capacity
kind_of (Lines threshold segs cover) = kinds.Lines threshold

-- the entry of a layer under its name
abbrev pub catalog_entry : Numbering → List ℕ × Layer → Entry
catalog_entry numbers e = record { number = number_of numbers e.0; name = e.0; kind = kind_of e.1 }

-- the entries are those of the map's layers under these numbers, in the order of the names
pub record IsCatalogOf (layers : Map) (numbers : Numbering) (entries : List Entry) : Type 0 where
  pub each : entries ≡ map (catalog_entry numbers) (finmap.entries layers)
