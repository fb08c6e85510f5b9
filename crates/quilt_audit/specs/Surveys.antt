-- What an audit finds of the tree of a map.
use Rattle.std.specs.Prelude.{◌≡◌, ℕ, ◌≤◌, List, length, Contains}
use Rattle.quilt_types.specs.declared.stop.Stop.{Stop}
use Rattle.quilt_types.specs.declared.stop.Stop.TheVariants.{Device, Memory, Damaged as Says}
use Rattle.quilt_types.specs.Layers.{Map}
use Rattle.quilt_record.specs.declared.record.Record.{Record}
use Rattle.quilt_record.specs.declared.entry.Entry.{Entry}
use Rattle.quilt_record.specs.Records.{Numbering, Spells}
use Rattle.quilt_record.specs.Listing.{KindFits}
use Rattle.quilt_node.specs.declared.head.Head.{Head}
use Rattle.quilt_node.specs.Tree.{Whole, walk_of, page_of_walk}
use Rattle.quilt_spell.specs.Spelled.{SpellsUnder}
use Rattle.quilt_spell.specs.Catalogued.{IsCatalogOf}
use Rattle.quilt_audit.specs.Bits.{Marks}

-- what holds of the page that is said to be damaged
abbrev pub OnDamaged : (ℕ → Type 0) → Stop → Type 0
OnDamaged P Device = Unit {0}
OnDamaged P Memory = Unit {0}
OnDamaged P (Says page) = P page

-- The tree spells a map with the head's number of records, of which this is the catalog, and these bits are those of its pages.
pub record IsSurvey (pages : List (List ℕ)) (head : Head) (catalog : List Entry) (used : List ℕ) : Type 0 where
  pub records : List Record
  pub visited : List ℕ
  pub tree : walk_of pages head.root head.height ≡ Whole records visited
  pub count : length records ≡ head.records
  pub numbers : Numbering
  pub layers : Map
  pub spelled : SpellsUnder head.format head.level numbers records layers
  pub catalogued : IsCatalogOf layers numbers catalog
  pub marks : Marks used visited

-- The page is the first damaged one, and the tree spells no map with the head's number of records.
pub record IsDamage (pages : List (List ℕ)) (head : Head) (page : ℕ) : Type 0 where
  pub first : page ≡ page_of_walk (walk_of pages head.root head.height)
  pub none : (records : List Record) (visited : List ℕ) (layers : Map) → walk_of pages head.root head.height ≡ Whole records visited
      → Spells head.format head.level records layers → length records ≡ head.records → ⊥

-- The entries have numbers from 1 to 255 that differ, and kinds of the format.
pub record AreNumbered (format : ℕ) (entries : List Entry) : Type 0 where
  pub least : (e : Entry) → Contains entries e → 1 ≤ e.number
  pub most : (e : Entry) → Contains entries e → e.number ≤ 255
  pub differ : (d e : Entry) → Contains entries d → Contains entries e → d.number ≡ e.number → d ≡ e
  pub kinds : (e : Entry) → Contains entries e → KindFits format e.kind
