-- Records of a map that come in the order of their keys: what is known of those that have come.
use Rattle.std.specs.Prelude.{◌≡◌, ◌⊎◌, ℕ, ◌+◌, ◌<◌, ◌≤◌, true, false, List, ◌∷◌, ◌++◌, length, Contains}
use Rattle.quilt_types.specs.Layers.{Map, is_name}
use Rattle.quilt_loc.specs.Codes.{Rises}
use Rattle.quilt_record.specs.declared.record.Record.{Record}
use Rattle.quilt_record.specs.declared.entry.Entry.{Entry}
use Rattle.quilt_record.specs.Records.{Numbering, record_of}
use Rattle.quilt_record.specs.Listing.{KindFits, fact_of_kind}
use Rattle.quilt_spell.specs.Spelled.{SpellsUnder}
use Rattle.quilt_spell.specs.Catalogued.{IsCatalogOf}
use Rattle.quilt_spell.specs.Written.{by_key}
use Rattle.quilt_audit.specs.declared.checker.Checker.{Checker}
use Rattle.quilt_audit.specs.declared.run.Run.{Run}
use Rattle.quilt_line_audit.specs.Layers.{IsLayerOf}
use Rattle.quilt_audit.specs.Runs.{IsRun, IsRunFinished}

-- the record of the catalog for a layer
abbrev pub entry_record : ℕ → Entry → Record
entry_record n e = record_of n 0 e.name e.number (fact_of_kind e.kind)

-- The records so far are those of a catalog, up to the number last, and of its layers: all records of each layer
-- below this one, and those of this one as far as the run says.
pub record IsSoFar (form n : ℕ) (entries : List Entry) (last layer : ℕ) (run : Run) (rs : List Record) : Type 0 where
  pub listed : (e : Entry) → Contains entries e → Contains rs (entry_record n e)
  pub named : (e : Entry) → Contains entries e → is_name e.name ≡ true
  pub fitting : (e : Entry) → Contains entries e → KindFits form e.kind
  pub least : (e : Entry) → Contains entries e → 1 ≤ e.number
  pub most : (e : Entry) → Contains entries e → e.number ≤ last
  pub differ : (d e : Entry) → Contains entries d → Contains entries e → d.number ≡ e.number → d ≡ e
  pub reached : (last ≡ 0) ⊎ ((e : Entry) × Contains entries e × (e.number ≡ last))
  pub entries_only : (r : Record) → Contains rs r → r.key.layer ≡ 0 → (e : Entry) × Contains entries e × (r ≡ entry_record n e)
  pub layers_only : (r : Record) → Contains rs r → 1 ≤ r.key.layer → (r.key.layer ≤ layer) × ((e : Entry) × Contains entries e × (e.number ≡ r.key.layer))
  pub whole : (e : Entry) → Contains entries e → e.number < layer → Rises by_key rs → IsLayerOf form n rs e.number e.kind
  pub current : 1 ≤ layer → (e : Entry) × Contains entries e × (e.number ≡ layer) × IsRun form n rs layer e.kind run

-- a record of this layer has come, where it is not the catalog
abbrev pub HasBegun : ℕ → List Record → Type 0
HasBegun layer rs = 1 ≤ layer → (r : Record) × Contains rs r × (r.key.layer ≡ layer)

-- the entry may be the next one of the catalog: under a new name and with a greater number, before any record of a layer
pub record MayList (c : Checker) (e : Entry) : Type 0 where
  pub first : c.layer ≡ 0
  pub above : c.last < e.number
  pub fresh : (d : Entry) → Contains c.catalog d → d.name ≡ e.name → ⊥

-- the records that a checker was given may be all
pub record IsComplete (c : Checker) : Type 0 where
  pub sound : c.sound ≡ true
  pub none_due : c.due ≡ 0
  pub covered : 1 ≤ c.layer → IsRunFinished c.level c.run
  pub reached : (e : Entry) → Contains c.catalog e → e.number ≤ c.layer

-- no map has these records first and then this one
abbrev pub Stops : ℕ → ℕ → List Record → Record → Type 0
Stops form n rs r =
    (rest : List Record) (numbers : Numbering) (layers : Map) → SpellsUnder form n numbers (rs ++ r ∷ rest) layers → ⊥

-- no map with so many records has these first
abbrev pub AreRefused : ℕ → ℕ → ℕ → List Record → Type 0
AreRefused form n total rs =
    (rest : List Record) (numbers : Numbering) (layers : Map) → SpellsUnder form n numbers (rs ++ rest) layers → length (rs ++ rest) ≡ total → ⊥

-- what a checker knows of the records that it was given, of a map of so many records
pub record IsFed (total : ℕ) (c : Checker) (rs : List Record) : Type 0 where
  pub sound : c.sound ≡ true → IsSoFar c.format c.level c.catalog c.last c.layer c.run rs × HasBegun c.layer rs × (length rs + c.due ≡ total)
  pub unsound : c.sound ≡ false → AreRefused c.format c.level total rs

-- the checker was given these records
pub record TakesRecords (old : Checker) (rs : List Record) (new : Checker) : Type 0 where
  pub level : new.level ≡ old.level
  pub format : new.format ≡ old.format
  pub fed : (total : ℕ) (before : List Record) → IsFed total old before → IsFed total new (before ++ rs)

-- The records spell a map, of which this is the catalog.
pub record SpellsSomeMap (form n : ℕ) (entries : List Entry) (rs : List Record) : Type 0 where
  pub numbers : Numbering
  pub layers : Map
  pub spelled : SpellsUnder form n numbers rs layers
  pub catalogued : IsCatalogOf layers numbers entries
