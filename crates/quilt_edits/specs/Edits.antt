-- What lists of records have to be to go and to come together.
use Rattle.std.specs.Prelude.{◌≡◌, true, List, Contains}
use Rattle.quilt_record.specs.declared.record.Record.{Record}
use Rattle.quilt_record.specs.declared.edits.Edits.{Edits}
use Rattle.quilt_node.specs.Pages.{is_ascending}
use Rattle.quilt_node.specs.Nodes.{keys_of}
use Rattle.quilt_spell.specs.Apart.{Apart}

-- the keys of both lists ascend
pub record EditsAscend (edits : Edits) : Type 0 where
  pub remove : is_ascending (keys_of edits.remove) ≡ true
  pub add : is_ascending (keys_of edits.add) ≡ true

-- no record stands twice, and no two have one key
pub record HaveOwnKeys (records : List Record) : Type 0 where
  pub once : Apart records
  pub keys : (r s : Record) → Contains records r → Contains records s → r.key ≡ s.key → r ≡ s

-- records that can be edits
pub record CanBeEdits (remove add : List Record) : Type 0 where
  pub remove_keys : HaveOwnKeys remove
  pub add_keys : HaveOwnKeys add
  pub apart : (r : Record) → Contains remove r → Contains add r → ⊥
