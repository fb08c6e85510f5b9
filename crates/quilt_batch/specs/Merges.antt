-- The edits that merge two lists of records: the first of them, and all.
use Rattle.std.specs.Prelude.{◌≡◌, ℕ, ◌+◌, true, false, List, [], ◌∷◌, ◌++◌, length, take}
use Rattle.std.specs.Ordering.{is_lt}
use Rattle.quilt_record.specs.declared.record.Record.{Record}
use Rattle.quilt_record.specs.Records.{key_cmp}
use Rattle.quilt_node.specs.Pages.{is_ascending}
use Rattle.quilt_node.specs.Nodes.{keys_of}
use Rattle.quilt_btree.specs.declared.edit.Edit.{Edit}
use Rattle.quilt_btree.specs.declared.edit.Edit.TheVariants as edit
use Rattle.quilt_btree.specs.Batches.{edit_keys, are_due, removed, records_put, more, fewer}
use Rattle.quilt_btree.specs.Runs.{without_all, has_each, has_any}

-- how many of the records that go, and of those that come, an edit is about
abbrev pub goes_of : Edit → ℕ
goes_of (edit.Remove k) = 1
goes_of (edit.Put r) = 0
goes_of (edit.Replace r) = 1

abbrev pub comes_of : Edit → ℕ
comes_of (edit.Remove k) = 0
comes_of (edit.Put r) = 1
comes_of (edit.Replace r) = 1

-- the edit is about the least key of the records that go and of those that come, whose lists are these
abbrev pub IsFirstEdit : Edit → List Record → List Record → Type 0
IsFirstEdit (edit.Remove k) (r ∷ goes) [] = k ≡ r.key
IsFirstEdit (edit.Remove k) (r ∷ goes) (a ∷ comes) = (k ≡ r.key) × (is_lt (key_cmp r.key a.key) ≡ true)
IsFirstEdit (edit.Remove k) [] comes = ⊥
IsFirstEdit (edit.Put p) [] (a ∷ comes) = p ≡ a
IsFirstEdit (edit.Put p) (r ∷ goes) (a ∷ comes) = (p ≡ a) × (is_lt (key_cmp a.key r.key) ≡ true)
IsFirstEdit (edit.Put p) goes [] = ⊥
IsFirstEdit (edit.Replace p) (r ∷ goes) (a ∷ comes) = (p ≡ a) × (r.key ≡ a.key)
IsFirstEdit (edit.Replace p) [] comes = ⊥
IsFirstEdit (edit.Replace p) (r ∷ goes) [] = ⊥

-- the run begins with the first edit of two lists; where it has none, they are what is left
abbrev pub StartsMerge : (old new : List Record) → List Edit → (goes comes : List Record) → Type 0
StartsMerge old new [] goes comes = (goes ≡ old) × (comes ≡ new)
StartsMerge old new (e ∷ run) goes comes = IsFirstEdit e old new

-- The first of the edits that merge two lists, and what they leave of each: they are about the records in front of that, and their keys ascend, also up to
-- the first record that is left of each list.
pub record IsMergePart (old new : List Record) (run : List Edit) (goes comes : List Record) : Type 0 where
  pub gone : removed run ++ keys_of goes ≡ keys_of old
  pub come : records_put run ++ comes ≡ new
  pub starts : StartsMerge old new run goes comes
  pub ascends : is_ascending (edit_keys run) ≡ true
  pub border : (is_ascending (edit_keys run ++ keys_of (take 1 goes)) ≡ true) × (is_ascending (edit_keys run ++ keys_of (take 1 comes)) ≡ true)

-- The edits take out the records of the first list and put in those of the second. Where both lists are in the order of their keys, each edit is due
-- where the records that go are there, and none that comes is there without them.
pub record IsMerge (old new : List Record) (run : List Edit) : Type 0 where
  pub goes : removed run ≡ keys_of old
  pub comes : records_put run ≡ new
  pub due : (rs : List Record) → is_ascending (keys_of old) ≡ true → is_ascending (keys_of new) ≡ true → is_ascending (keys_of rs) ≡ true
      → has_each (keys_of old) rs ≡ true → has_any new (without_all (keys_of old) rs) ≡ false → are_due run rs ≡ true
  pub counts : more run + length old ≡ fewer run + length new
