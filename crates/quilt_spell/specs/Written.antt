-- The records of a map as members, and numberings as functions from names.
use Rattle.std.specs.Prelude.{◌≡◌, ℕ, ◌≤◌, ◌==◌, if◌then◌else◌, List, map, Contains, Some, unwrap_or}
use Rattle.std.specs.FinMap as finmap
use Rattle.std.specs.declared.cmp.Ordering.{Ordering}
use Rattle.quilt_types.specs.Layers.{Layer, Map}
use Rattle.quilt_types.specs.Facts.{facts}
use Rattle.quilt_record.specs.declared.key.Key.{Key}
use Rattle.quilt_record.specs.declared.record.Record.{Record}
use Rattle.quilt_record.specs.Records.{Numbering, capacity_of, key_cmp, record_of}

-- the number under which a name is written
abbrev pub number_of : Numbering → List ℕ → ℕ
number_of numbers name = unwrap_or (finmap.get numbers name) 0

-- the records of a layer with this name and number
unfoldable pub layer_records : ℕ → List ℕ → ℕ → Layer → List Record
layer_records n name number layer = map (record_of n (capacity_of layer) name number) (facts n layer)

-- the record is one of a layer of the map, under its name and number
pub record IsWritten (n : ℕ) (numbers : Numbering) (layers : Map) (r : Record) : Type 0 where
  pub name : List ℕ
  pub layer : Layer
  pub at : finmap.get layers name ≡ Some layer
  pub written : Contains (layer_records n name (number_of numbers name) layer) r

-- exactly the names of the map have numbers, from 1 to 255, each another one
pub record IsNumbering (layers : Map) (numbers : Numbering) : Type 0 where
  pub has : (name : List ℕ) (layer : Layer) → finmap.get layers name ≡ Some layer → (k : ℕ) × (finmap.get numbers name ≡ Some k)
  pub only : (name : List ℕ) (k : ℕ) → finmap.get numbers name ≡ Some k → (layer : Layer) × (finmap.get layers name ≡ Some layer)
  pub in_range : (name : List ℕ) (k : ℕ) → finmap.get numbers name ≡ Some k → (1 ≤ k) × (k ≤ 255)
  pub differ : (a b : List ℕ) (k : ℕ) → finmap.get numbers a ≡ Some k → finmap.get numbers b ≡ Some k → a ≡ b

-- the number of the layer that a key is of
abbrev pub number_in : Key → ℕ
number_in k = if k.layer == 0 then k.item else k.layer

-- records by their keys
abbrev pub by_key : Record → Record → Ordering
by_key r s = key_cmp r.key s.key
