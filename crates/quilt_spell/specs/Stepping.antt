-- One command changes one layer of the map at most: what has to hold of the edits that it plans.
use Rattle.std.specs.Prelude.{◌≡◌, ℕ, ◌≤◌, true, List, Option, Some, None}
use Rattle.std.specs.FinMap as finmap
use Rattle.quilt_types.specs.Layers.{Layer, Map, is_name}
use Rattle.quilt_record.specs.declared.record.Record.{Record}
use Rattle.quilt_record.specs.Records.{Numbering}
use Rattle.quilt_spell.specs.Written.{number_of}
use Rattle.quilt_spell.specs.Changing.{KeepsCapacity, IsOne, LeadsTo}

-- a name that may come, with a number that no other has
pub record IsFree (layers : Map) (numbers : Numbering) (name : List ℕ) (number : ℕ) : Type 0 where
  pub named : is_name name ≡ true
  pub room : finmap.len layers ≤ 254
  pub least : 1 ≤ number
  pub most : number ≤ 255
  pub free : (other : List ℕ) → finmap.get numbers other ≡ Some number → ⊥

-- the number under which the name's layer is written: its own, or a free one where there is no such layer
abbrev pub IsPlaced : Map → Numbering → List ℕ → ℕ → Option Layer → Type 0
IsPlaced layers numbers name number None = IsFree layers numbers name number
IsPlaced layers numbers name number (Some layer) = number ≡ number_of numbers name

-- The records to remove and to add make the layer under the name the new one, or none.
pub record IsStep (form n : ℕ) (layers : Map) (numbers : Numbering) (name : List ℕ) (number : ℕ) (new : Option Layer)
    (removed added : List Record) : Type 0 where
  pub fits : IsOne form n new
  pub kept : KeepsCapacity (finmap.get layers name) new
  pub placed : IsPlaced layers numbers name number (finmap.get layers name)
  pub leads : LeadsTo n name number (finmap.get layers name) new removed added
