-- The records of a layer of the work, whatever its kind.
use Rattle.std.specs.Prelude.{◌≡◌, ℕ, List, ◌∷◌}
use Rattle.quilt_record.specs.declared.entry.Entry.{Entry}
use Rattle.quilt_record.specs.declared.record.Record.{Record}
use Rattle.quilt_record.specs.Records.{record_of as record_in}
use Rattle.quilt_record.specs.Listing.{fact_of_kind}
use Rattle.quilt_region.specs.Laws.{records_under}

-- of the records of a map, those under the number of a layer
abbrev pub records_numbered : ℕ → List Record → List Record
records_numbered number rs = records_under number 4294967295 rs

-- the record of the catalog for this entry, and behind it these
abbrev pub BeginsWithEntry : Entry → List Record → List Record → Type 0
BeginsWithEntry e rs all = (first : Record) × (all ≡ first ∷ rs) × ((n capacity : ℕ) → first ≡ record_in n capacity e.name e.number (fact_of_kind e.kind))
