-- What the calls of a tree answer of its records, which ascend by their keys, and what they make of them.
use Rattle.std.specs.Prelude.{◌≡◌, ℕ, Bool, true, ◌&&◌, List, [], ◌∷◌, ◌++◌, Option, Some, None, MatchOption, find, filter, take}
use Rattle.std.specs.List.{last_or, list_all}
use Rattle.std.specs.Ordering.{is_le, is_lt}
use Rattle.quilt_record.specs.declared.key.Key.{Key}
use Rattle.quilt_record.specs.declared.record.Record.{Record}
use Rattle.quilt_record.specs.Records.{key_cmp}
use Rattle.quilt_record.specs.Lists.{has_key}

-- the 16 bytes of the record's value, where there is a record
abbrev pub value_in : Option Record → Option (List ℕ)
value_in None = None
value_in (Some r) = Some r.value

-- the value of the record with this key
unfoldable pub value_at_key : Key → List Record → Option (List ℕ)
value_at_key k rs = value_in (find (has_key k) rs)

-- the record's key is at most this one
abbrev pub is_at_most : Key → Record → Bool
is_at_most k r = is_le (key_cmp r.key k)

-- the record of the greatest key that is at most this one
unfoldable pub floor_of : Key → List Record → Option Record
floor_of k rs = last_or None (filter (is_at_most k) rs)

-- the record stands in the list, with keys below this one up to it, and none below it behind
pub record IsLast (k : Key) (rs : List Record) (r : Record) : Type 0 where
  pub before : List Record
  pub behind : List Record
  pub records : rs ≡ before ++ r ∷ behind
  pub lower : list_all (λ l. is_lt (key_cmp l.key k)) (before ++ r ∷ []) ≡ true
  pub higher : list_all (λ l. is_le (key_cmp k l.key)) behind ≡ true

-- the record of the greatest key below this one, or none where no key is below it
abbrev pub IsLower : Key → List Record → Option Record → Type 0
IsLower k rs o = MatchOption o (list_all (λ r. is_le (key_cmp k r.key)) rs ≡ true) (IsLast k rs)

-- the record's key is one of those from the first to the second
abbrev pub is_from_to : Key → Key → Record → Bool
is_from_to low high r = is_le (key_cmp low r.key) && is_le (key_cmp r.key high)

-- the first records with keys from the one to the other, both included
unfoldable pub range_of : Key → Key → ℕ → List Record → List Record
range_of low high most rs = take most (filter (is_from_to low high) rs)
