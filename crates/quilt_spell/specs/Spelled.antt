-- `Spells` by members: the handier form for proofs.
use Rattle.std.specs.Prelude.{◌↔◌, ℕ, List, Contains}
use Rattle.quilt_types.specs.Layers.{Map, IsMap}
use Rattle.quilt_record.specs.declared.record.Record.{Record}
use Rattle.quilt_record.specs.Records.{Numbering}
use Rattle.quilt_loc.specs.Codes.{Rises}
use Rattle.quilt_spell.specs.Written.{by_key, IsWritten, IsNumbering}

-- the records spell the map of this format and level under these numbers
pub record SpellsUnder (form n : ℕ) (numbers : Numbering) (records : List Record) (layers : Map) : Type 0 where
  pub map : IsMap form n layers
  pub numbering : IsNumbering layers numbers
  pub ascending : Rises by_key records
  pub written : (r : Record) → Contains records r ↔ IsWritten n numbers layers r
