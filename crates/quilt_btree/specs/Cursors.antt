-- A place between the records of a tree.
use Rattle.std.specs.Prelude.{◌≡◌, ℕ, ◌≤◌, true, List, [], ◌∷◌, ◌++◌, Option, Some, MatchOption, length, take, drop}
use Rattle.std.specs.List.{list_all}
use Rattle.std.specs.Ordering.{is_le, is_lt}
use Rattle.quilt_record.specs.declared.key.Key.{Key}
use Rattle.quilt_record.specs.declared.record.Record.{Record}
use Rattle.quilt_record.specs.Records.{key_cmp}
use Rattle.quilt_node.specs.Nodes.{page_records}
use Rattle.quilt_btree.specs.declared.tree.Tree.{Tree}
use Rattle.quilt_btree.specs.declared.cursor.Cursor.{Cursor}
use Rattle.quilt_btree.specs.Trees.{Divides}

-- the key parts two children of the tree, and stands between these records
pub record IsParted (told : Option (List (List ℕ))) (t : Tree) (k : Key) (before after : List Record) : Type 0 where
  pub pages : List (List ℕ)
  pub is_told : told ≡ Some pages
  pub divides : Divides pages t.height t.root k
  pub lower : list_all (λ r. is_lt (key_cmp r.key k)) before ≡ true
  pub higher : list_all (λ r. is_le (key_cmp k r.key)) after ≡ true

-- a place in a leaf, behind as many of its records, stands between these records of the tree
pub record StandsAt (told : Option (List (List ℕ))) (t : Tree) (bytes : List ℕ) (place : ℕ) (high : Option Key) (before after : List Record) : Type 0 where
  pub first : List Record
  pub last : List Record
  pub some : 1 ≤ length (page_records bytes)
  pub in_range : place ≤ length (page_records bytes)
  pub is_before : before ≡ first ++ take place (page_records bytes)
  pub is_after : after ≡ drop place (page_records bytes) ++ last
  pub further : MatchOption high (last ≡ []) (λ k. IsParted told t k (first ++ page_records bytes) last)

-- the cursor stands between these records of the tree: in its leaf, behind as many records as its place says
abbrev pub StandsIn : Option (List (List ℕ)) → Tree → Cursor → List Record → List Record → Type 0
StandsIn told t c before after = StandsAt told t c.bytes c.place c.high before after

-- the place in a leaf is behind all records of the tree whose keys are below this one
pub record IsSoughtAt (told : Option (List (List ℕ))) (t : Tree) (bytes : List ℕ) (place : ℕ) (high : Option Key) (k : Key)
    (rs : List Record) : Type 0 where
  pub before : List Record
  pub after : List Record
  pub records : rs ≡ before ++ after
  pub lower : list_all (λ r. is_lt (key_cmp r.key k)) before ≡ true
  pub higher : list_all (λ r. is_le (key_cmp k r.key)) after ≡ true
  pub stands : StandsAt told t bytes place high before after

-- the cursor stands at the place that is looked for: behind all records whose keys are below this one
abbrev pub IsSought : Option (List (List ℕ)) → Tree → Cursor → Key → List Record → Type 0
IsSought told t c k rs = IsSoughtAt told t c.bytes c.place c.high k rs

-- the place is behind the next record
pub record GoesOverTo (told : Option (List (List ℕ))) (t : Tree) (r : Record) (bytes : List ℕ) (place : ℕ) (high : Option Key)
    (before after : List Record) : Type 0 where
  pub rest : List Record
  pub records : after ≡ r ∷ rest
  pub stands : StandsAt told t bytes place high (before ++ r ∷ []) rest

-- the cursor has gone over the next record
abbrev pub GoesOver : Option (List (List ℕ)) → Tree → Record → Cursor → List Record → List Record → Type 0
GoesOver told t r c before after = GoesOverTo told t r c.bytes c.place c.high before after

-- the place is before the record before
pub record GoesBackTo (told : Option (List (List ℕ))) (t : Tree) (r : Record) (bytes : List ℕ) (place : ℕ) (high : Option Key)
    (before after : List Record) : Type 0 where
  pub rest : List Record
  pub records : before ≡ rest ++ r ∷ []
  pub stands : StandsAt told t bytes place high rest (r ∷ after)

-- the cursor has gone back over the record before
abbrev pub GoesBack : Option (List (List ℕ)) → Tree → Record → Cursor → List Record → List Record → Type 0
GoesBack told t r c before after = GoesBackTo told t r c.bytes c.place c.high before after
