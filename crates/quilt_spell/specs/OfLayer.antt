-- What a list that spells a map says of one of its layers, and of its catalog.
use Rattle.std.specs.Prelude.{◌≡◌, ℕ, List, [], map, Contains}
use Rattle.quilt_types.specs.declared.plane.Block.{Block}
use Rattle.quilt_types.specs.Layers.{Layer, Region, Points, Lines, Grid}
use Rattle.quilt_types.specs.Facts.{Fact, IsOfKind, HasColour, facts}
use Rattle.quilt_types.specs.Quadtrees.{leaves}
use Rattle.quilt_record.specs.declared.record.Record.{Record}
use Rattle.quilt_record.specs.Records.{capacity_of, record_of}
use Rattle.quilt_spell.specs.Written.{number_in, layer_records}

-- the fact that says what kind of layer it is
abbrev pub kind_fact : Layer → Fact
kind_fact (Region grid) = IsOfKind 1 0
kind_fact (Points capacity points) = IsOfKind 2 capacity
kind_fact (Lines threshold segs cover) = IsOfKind 3 threshold

-- the record of the catalog for the layer
abbrev pub kind_record : ℕ → List ℕ → ℕ → Layer → Record
kind_record n name number layer = record_of n (capacity_of layer) name number (kind_fact layer)

-- Those of the records that are of the layer with this number are exactly the records of its facts.
pub record SpellsLayer (n : ℕ) (rs : List Record) (name : List ℕ) (number : ℕ) (layer : Layer) : Type 0 where
  pub each : (f : Fact) → Contains (facts n layer) f → Contains rs (record_of n (capacity_of layer) name number f)
  pub only : (r : Record) → Contains rs r → number_in r.key ≡ number → Contains (layer_records n name number layer) r

-- the record of a leaf of the layer with this number
abbrev pub leaf_record : ℕ → ℕ → Block × ℕ → Record
leaf_record n layer e = record_of n 0 [] layer (HasColour e.0 e.1)

-- Those of the records that are of the layer with this number are exactly the records of the grid's leaves.
pub record SpellsRegion (rs : List Record) (layer n : ℕ) (g : Grid) : Type 0 where
  pub each : (e : Block × ℕ) → Contains (leaves n g) e → Contains rs (leaf_record n layer e)
  pub only : (r : Record) → Contains rs r → r.key.layer ≡ layer → Contains (map (leaf_record n layer) (leaves n g)) r
