-- Keys and records whose numbers fit their bytes.
use Rattle.std.specs.Prelude.{◌≡◌, ◌<◌, ◌^◌, List, [], ◌∷◌, length}
use Rattle.quilt_record.specs.declared.key.Key.{Key}
use Rattle.quilt_record.specs.declared.record.Record.{Record}

-- the numbers of more than a byte fit the bytes that they have
pub record KeyFits (k : Key) : Type 0 where
  pub layer : k.layer < 2 ^ 16
  pub code : k.code < 2 ^ 32
  pub item : k.item < 2 ^ 32

-- and the value has 16 bytes
pub record RecordFits (r : Record) : Type 0 where
  pub key : KeyFits r.key
  pub value : length r.value ≡ 16

-- the numbers of each record fit their bytes, and its value has 16 bytes
abbrev pub AllFit : List Record → Type 0
AllFit [] = Unit {0}
AllFit (r ∷ rs) = RecordFits r × AllFit rs

-- the numbers of each key fit their bytes
abbrev pub KeysFit : List Key → Type 0
KeysFit [] = Unit {0}
KeysFit (k ∷ ks) = KeyFits k × KeysFit ks
