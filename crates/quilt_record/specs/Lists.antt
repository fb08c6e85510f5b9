-- Lists of records that ascend by their keys, as records come and go.
use Rattle.std.specs.Prelude.{Bool, not, List, [], ◌∷◌, filter, if◌then◌else◌}
use Rattle.std.specs.Ordering.{is_lt, is_eq}
use Rattle.quilt_record.specs.declared.key.Key.{Key}
use Rattle.quilt_record.specs.declared.record.Record.{Record}
use Rattle.quilt_record.specs.Records.{key_cmp}

-- the record has this key
abbrev pub has_key : Key → Record → Bool
has_key k r = is_eq (key_cmp r.key k)

-- a record at its place among the others
abbrev pub put : Record → List Record → List Record
put r [] = r ∷ []
put r (s ∷ rs) = if is_lt (key_cmp r.key s.key) then r ∷ s ∷ rs else s ∷ put r rs

-- the records but the one with this key
unfoldable pub without : Key → List Record → List Record
without k rs = filter (λ r. not (has_key k r)) rs
