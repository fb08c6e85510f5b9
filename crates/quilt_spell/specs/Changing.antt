-- One layer of a map becomes another, comes or goes, and the records that go and come with it.
use Rattle.std.specs.Prelude.{◌≡◌, ◌↔◌, ◌⊎◌, ℕ, Bool, not, List, [], map, filter, count_by, Contains, Option, Some, None}
use Rattle.std.specs.List.{list_any}
use Rattle.std.specs.FinMap as finmap
use Rattle.quilt_types.specs.Layers.{Layer, Map, IsLayer}
use Rattle.quilt_types.specs.Facts.{Fact, facts, same_fact, all_facts, is_fact_of}
use Rattle.quilt_record.specs.declared.record.Record.{Record}
use Rattle.quilt_record.specs.Records.{Numbering, capacity_of, record_of}
use Rattle.quilt_spell.specs.Apart.{Apart, SameMembers}

-- the map with this layer under the name, or with none
abbrev pub with_layer : Map → List ℕ → Option Layer → Map
with_layer layers name None = finmap.remove layers name
with_layer layers name (Some layer) = finmap.insert layers name layer

-- the numbering with a number for the name, or with none
abbrev pub with_number : Numbering → List ℕ → ℕ → Option Layer → Numbering
with_number numbers name number None = finmap.remove numbers name
with_number numbers name number (Some layer) = finmap.insert numbers name number

-- the facts of a layer, or none where there is no layer
abbrev pub facts_in : ℕ → Option Layer → List Fact
facts_in n None = []
facts_in n (Some layer) = facts n layer

-- the fact is one of these
abbrev pub is_among : List Fact → Fact → Bool
is_among fs f = list_any (same_fact f) fs

-- the facts that the first alone has
abbrev pub facts_alone : ℕ → Option Layer → Option Layer → List Fact
facts_alone n a b = filter (λ f. not (is_among (facts_in n b) f)) (facts_in n a)

-- the records of facts of this layer
abbrev pub records_with : ℕ → List ℕ → ℕ → Option Layer → List Fact → List Record
records_with n name number None fs = []
records_with n name number (Some layer) fs = map (record_of n (capacity_of layer) name number) fs

-- all records of the layer
abbrev pub records_in : ℕ → List ℕ → ℕ → Option Layer → List Record
records_in n name number layer = records_with n name number layer (facts_in n layer)

-- the records of the facts that the first alone has
abbrev pub records_alone : ℕ → List ℕ → ℕ → Option Layer → Option Layer → List Record
records_alone n name number a b = records_with n name number a (facts_alone n a b)

-- A layer under a name may become the other: a block holds as many points at most.
abbrev pub KeepsCapacity : Option Layer → Option Layer → Type 0
KeepsCapacity (Some a) (Some b) = capacity_of a ≡ capacity_of b
KeepsCapacity a b = Unit {0}

-- where there is a layer, its values are those of one of this format and level
abbrev pub IsOne : ℕ → ℕ → Option Layer → Type 0
IsOne form n None = Unit {0}
IsOne form n (Some layer) = IsLayer form n layer

-- The records that go are those of the facts that the old layer alone has, and those that come are those of the facts
-- that the new one alone has, each once.
pub record LeadsTo (n : ℕ) (name : List ℕ) (number : ℕ) (old new : Option Layer) (removed added : List Record) : Type 0 where
  pub remove : SameMembers removed (records_alone n name number old new)
  pub remove_once : Apart removed
  pub add : SameMembers added (records_alone n name number new old)
  pub add_once : Apart added

-- the records after the edits: those that were there and were not taken out, and those that were put in
abbrev pub IsEdited : List Record → List Record → List Record → List Record → Type 0
IsEdited rs removed added now = (r : Record) → Contains now r ↔ ((Contains rs r × (Contains removed r → ⊥)) ⊎ Contains added r)

-- how many facts the first map alone has
unfoldable pub lost : ℕ → Map → Map → ℕ
lost n a b = count_by (λ f. not (is_fact_of (all_facts n b) f)) (all_facts n a)
