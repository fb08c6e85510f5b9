-- The laws of lists of records that spell maps.
use Rattle.std.specs.Prelude.{◌≡◌, ◌↔◌, ℕ, ◌+◌, ◌≤◌, List, length, Option, Some, None}
use Rattle.std.specs.FinMap as finmap
use Rattle.quilt_types.specs.Layers.{Layer, Map}
use Rattle.quilt_types.specs.Facts.{records, changes}
use Rattle.quilt_record.specs.declared.record.Record.{Record}
use Rattle.quilt_record.specs.Records.{Numbering, Spells}
use Rattle.quilt_spell.specs.Spelled.{SpellsUnder}
use Rattle.quilt_spell.specs.Changing.{with_layer, with_number}
use Rattle.quilt_spell.specs.OfLayer.{SpellsLayer}
use Rattle.quilt_spell.specs.Written.{number_of}
use Rattle.quilt_spell.specs.Stepping.{IsStep}
use Rattle.quilt_spell.specs.Applying.{taken, given}

-- what a command leaves, and what it counts
pub record IsStepped (form n : ℕ) (layers : Map) (numbers : Numbering) (rs : List Record) (name : List ℕ) (number : ℕ) (new : Option Layer)
    (removed added : List Record) : Type 0 where
  pub spelled : SpellsUnder form n (with_number numbers name number new) (given (taken rs removed) added) (with_layer layers name new)
  pub changed : changes n layers (with_layer layers name new) ≡ length removed + length added
  pub quota : records n (with_layer layers name new) + length removed ≡ length rs + length added

-- A command that changes one layer, by its records that go and come: the records then spell the new map, and the counts of changed facts and
-- of records follow from how many go and come.
abbrev pub StepLaw : Type 0
StepLaw =
    (form n : ℕ) (layers : Map) (numbers : Numbering) (rs : List Record) (name : List ℕ) (number : ℕ) (new : Option Layer) (removed added : List Record)
    → n ≤ 12 → SpellsUnder form n numbers rs layers → IsStep form n layers numbers name number new removed added
    → (finmap.get layers name ≡ None → new ≡ None → ⊥)
    → IsStepped form n layers numbers rs name number new removed added

-- Records spell a map just where there is a numbering of its layers under which they spell it.
abbrev pub SpellsLaw : Type 0
SpellsLaw =
    (form n : ℕ) (rs : List Record) (layers : Map) → n ≤ 12
    → Spells form n rs layers ↔ ((numbers : Numbering) × SpellsUnder form n numbers rs layers)

-- The records that spell a map are as many as its facts.
abbrev pub CountLaw : Type 0
CountLaw = (form n : ℕ) (rs : List Record) (layers : Map) → n ≤ 12 → Spells form n rs layers → length rs ≡ records n layers

-- Where records spell a map, those of each layer's number spell that layer.
abbrev pub LayerLaw : Type 0
LayerLaw =
    (form n : ℕ) (numbers : Numbering) (rs : List Record) (layers : Map) (name : List ℕ) (layer : Layer) → n ≤ 12
    → SpellsUnder form n numbers rs layers → finmap.get layers name ≡ Some layer → SpellsLayer n rs name (number_of numbers name) layer

-- Records spell one map at most in a format and at a level.
abbrev pub OneMapLaw : Type 0
OneMapLaw = (form n : ℕ) (rs : List Record) (a b : Map) → n ≤ 12 → Spells form n rs a → Spells form n rs b → a ≡ b
