-- The tree of a store that tells its pages, and what the numbers of a tree have to be.
use Rattle.std.specs.Prelude.{◌≡◌, ◌⊎◌, ℕ, zero, suc, slice_get, slice_index, ◌<◌, ◌≤◌, Bool, true, false, List, [], ◌++◌, Option, Some, None, length}
use Rattle.std.specs.Prelude.{slice_index_or}
use Rattle.std.specs.List.{list_all}
use Rattle.std.specs.Ordering.{is_le, is_lt}
use Rattle.quilt_types.specs.Facts.{quota}
use Rattle.quilt_record.specs.declared.key.Key.{Key}
use Rattle.quilt_record.specs.declared.record.Record.{Record}
use Rattle.quilt_record.specs.Records.{key_cmp}
use Rattle.quilt_node.specs.Pages.{Inner, leaf_of, inner_of}
use Rattle.quilt_node.specs.Nodes.{IsPlace}
use Rattle.quilt_node.specs.Tree.{Bounds, Whole, walk_of, is_below}
use Rattle.quilt_btree.specs.Lists.{range_of}
use Rattle.quilt_btree.specs.declared.tree.Tree.{Tree}
use Rattle.quilt_btree.specs.Subtree.{Subtree}

-- what the numbers of a tree are in a store of so many home pages
pub record IsRooted (size : ℕ) (t : Tree) : Type 0 where
  pub height : t.height ≤ 3
  pub records : t.records ≤ quota size
  pub tree : 1 ≤ t.height → (1 ≤ t.root) × (t.root < size) × (1 ≤ t.records)
  pub none : t.height ≡ 0 → (t.root ≡ 0) × (t.records ≡ 0)

-- the store tells pages over which the tree is these records, in these pages
pub record IsTree (told : Option (List (List ℕ))) (t : Tree) (rs : List Record) : Type 0 where
  pub pages : List (List ℕ)
  pub is_told : told ≡ Some pages
  pub visited : List ℕ
  pub walk : walk_of pages t.root t.height ≡ Whole rs visited

-- the subtree at the page, in the pages that are told, spells these records
pub record SpellsSubtree (told : Option (List (List ℕ))) (page height : ℕ) (rs : List Record) : Type 0 where
  pub pages : List (List ℕ)
  pub is_told : told ≡ Some pages
  pub is_root : Bool
  pub bounds : Bounds
  pub used : List ℕ
  pub subtree : Subtree pages height is_root (page, bounds) rs used

-- the page is a leaf with these records, where the store tells its bytes
abbrev pub ReadsLeaf : Option (List (List ℕ)) → ℕ → List Record → Type 0
ReadsLeaf told page rs = (pages : List (List ℕ)) → told ≡ Some pages → leaf_of (slice_index_or pages page []) ≡ Some rs

-- the page is this inner page, where the store tells its bytes
abbrev pub ReadsInner : Option (List (List ℕ)) → ℕ → Inner → Type 0
ReadsInner told page inner = (pages : List (List ℕ)) → told ≡ Some pages → inner_of (length pages) (slice_index_or pages page []) ≡ Some inner

-- the key is from the bound on, where there is one
abbrev pub is_past : Option Key → Key → Bool
is_past None k = false
is_past (Some high) k = is_le (key_cmp high k)

-- The leaf to which a key leads: the records before it are below the key, and those behind it above the key and from the leaf's upper bound on.
-- That bound is at most the one at the start.
pub record LeadsToLeaf (k : Key) (rs here : List Record) (start high : Option Key) : Type 0 where
  pub before : List Record
  pub behind : List Record
  pub records : rs ≡ before ++ (here ++ behind)
  pub lower : list_all (λ r. is_lt (key_cmp r.key k)) before ≡ true
  pub higher : list_all (λ r. is_lt (key_cmp k r.key)) behind ≡ true
  pub bounded : list_all (λ r. is_past high r.key) behind ≡ true
  pub nearer : (m : Key) → is_past start m ≡ true → is_past high m ≡ true
  pub key_under : is_below start k ≡ true → is_below high k ≡ true
  pub here_under : list_all (λ r. is_below high r.key) here ≡ true

-- the key is one that parts two children, here or in the child to which it leads
pub record IsDivided (D : ℕ → Key → Type 0) (pages : List (List ℕ)) (page : ℕ) (k : Key) : Type 0 where
  pub inner : Inner
  pub page_is : inner_of (length pages) (slice_index_or pages page []) ≡ Some inner
  pub place : ℕ
  pub is_place : IsPlace inner.keys k place
  pub parts : ((j : ℕ) × (place ≡ suc j) × (slice_get inner.keys j ≡ Some k)) ⊎ D (slice_index inner.children place) k

-- the key parts two children somewhere in the subtree
abbrev pub Divides : List (List ℕ) → ℕ → ℕ → Key → Type 0
Divides pages zero page k = ⊥
Divides pages (suc zero) page k = ⊥
Divides pages (suc (suc h)) page k = IsDivided (Divides pages (suc h)) pages page k

-- the bound is the one at the start, or a key that parts two children below it
abbrev pub IsBound : List (List ℕ) → ℕ → ℕ → Option Key → Option Key → Type 0
IsBound pages height page start high = (high ≡ start) ⊎ ((k : Key) × (high ≡ Some k) × Divides pages height page k × (is_below start k ≡ true))

-- what a leaf is that a search came to: from the key on where that parts two children, and up to another such
pub record IsCut (told : Option (List (List ℕ))) (page height : ℕ) (k : Key) (start : Option Key) (leaf : List Record) (high : Option Key) : Type 0 where
  pub starts : (pages : List (List ℕ)) (rs : List Record) → told ≡ Some pages → (s : SpellsSubtree told page height rs) → s.bounds.high ≡ start
      → Divides pages height page k → list_all (λ r. is_le (key_cmp k r.key)) leaf ≡ true
  pub ends : (pages : List (List ℕ)) (rs : List Record) (s : SpellsSubtree told page height rs) → told ≡ Some pages → s.bounds.high ≡ start
      → is_below start k ≡ true → IsBound pages height page start high

-- these are the records of a range with keys below one, in a list that goes on with the others
pub record IsAsFar (low high : Key) (most : ℕ) (k : Key) (rs items : List Record) : Type 0 where
  pub done : List Record
  pub rest : List Record
  pub records : rs ≡ done ++ rest
  pub lower : list_all (λ r. is_lt (key_cmp r.key k)) done ≡ true
  pub from_here : list_all (λ r. is_le (key_cmp k r.key)) rest ≡ true
  pub items_are : items ≡ range_of low high most done

-- what the list is before the leaf
abbrev pub Before : Option (List (List ℕ)) → Tree → Key → Key → ℕ → Key → List Record → List Record → Type 0
Before told t low high most from rs old =
    (pages : List (List ℕ)) × (told ≡ Some pages) × Divides pages t.height t.root from × (is_le (key_cmp low from) ≡ true) × IsAsFar low high most from rs old
