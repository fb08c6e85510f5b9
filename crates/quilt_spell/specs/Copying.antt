-- The records of a layer under another number.
use Rattle.std.specs.Prelude.{ℕ}
use Rattle.quilt_record.specs.declared.record.Record.{Record}

-- the record with another number of a layer
abbrev pub renumbered : ℕ → Record → Record
renumbered number r = record {
  key = record { layer = number; part = r.key.part; code = r.key.code; depth = r.key.depth; item = r.key.item };
  value = r.value;
}
