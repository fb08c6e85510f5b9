-- When a record is the one spelling of an entry of the catalog.
use Rattle.std.specs.Prelude.{◌≡◌, ℕ, ◌≤◌, ◌==◌, true, if◌then◌else◌}
use Rattle.quilt_types.specs.declared.plane.Kind.{Kind}
use Rattle.quilt_types.specs.declared.plane.Kind.TheVariants.{Region, Points, Lines}
use Rattle.quilt_types.specs.Layers.{is_name}
use Rattle.quilt_types.specs.Facts.{Fact, IsOfKind}
use Rattle.quilt_record.specs.declared.record.Record.{Record}
use Rattle.quilt_record.specs.declared.entry.Entry.{Entry}
use Rattle.quilt_record.specs.Records.{record_of}

-- the number by which a record tells a layer's kind: 1 region, 2 points, 3 lines
abbrev pub number_of_kind : Kind → ℕ
number_of_kind Region = 1
number_of_kind (Points bucket) = 2
number_of_kind (Lines threshold) = 3

-- the capacity of points, the threshold of lines, and else 0
abbrev pub number_beside : Kind → ℕ
number_beside Region = 0
number_beside (Points bucket) = bucket
number_beside (Lines threshold) = threshold

-- the fact that a layer is of this kind
abbrev pub fact_of_kind : Kind → Fact
fact_of_kind kind = IsOfKind (number_of_kind kind) (number_beside kind)

-- in a format: a capacity is 1 in format 1 and else 1 to 16, and a threshold is 1 to 32
abbrev pub KindFits : ℕ → Kind → Type 0
KindFits f Region = Unit {0}
KindFits f (Points bucket) = (1 ≤ bucket) × (bucket ≤ (if f == 1 then 1 else 16))
KindFits f (Lines threshold) = (1 ≤ threshold) × (threshold ≤ 32)

-- the record is the one spelling, in this format, of the catalog's entry: a layer's name, number from 1 to 255, and kind
pub record IsEntryOf (f : ℕ) (r : Record) (e : Entry) : Type 0 where
  pub least : 1 ≤ e.number
  pub most : e.number ≤ 255
  pub named : is_name e.name ≡ true
  pub kind : KindFits f e.kind
  pub written : (n capacity : ℕ) → r ≡ record_of n capacity e.name e.number (fact_of_kind e.kind)
