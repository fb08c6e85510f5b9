-- What an edit of a tree does to its list and to its pages.
use Rattle.std.specs.Prelude.{◌≡◌, ℕ, zero, suc, ◌+◌, ◌<◌, ◌≤◌, ◌==◌, cond, if◌then◌else◌, not, IfOk, Result, Bool, true, false, List, [], ◌∷◌, ◌++◌, Option, Some, length, slice_index_or}
use Rattle.std.specs.List.{list_any}
use Rattle.quilt_record.specs.declared.key.Key.{Key}
use Rattle.quilt_record.specs.declared.record.Record.{Record}
use Rattle.quilt_node.specs.Pages.{Inner, leaf_of, inner_of}
use Rattle.quilt_node.specs.Tree.{Bounds, is_above, is_below}
use Rattle.quilt_store.specs.Store.{count_free}
use Rattle.quilt_btree.specs.declared.tree.Tree.{Tree}
use Rattle.quilt_btree.specs.declared.outcomes.Inserted.{Inserted}
use Rattle.quilt_btree.specs.declared.outcomes.Inserted.TheVariants as inserted
use Rattle.quilt_btree.specs.declared.outcomes.Removed.{Removed}
use Rattle.quilt_btree.specs.declared.outcomes.Removed.TheVariants as removed
use Rattle.quilt_record.specs.Lists.{has_key, put, without}
use Rattle.quilt_btree.specs.Subtree.{Subtree}
use Rattle.quilt_btree.specs.Trees.{IsTree}
use Rattle.quilt_types.specs.declared.stop.Stop.{Stop}
use Rattle.quilt_store.specs.declared.store.PageStore.{Ghosts}

-- how often a page stands in a list
abbrev pub multiplicity : ℕ → List ℕ → ℕ
multiplicity p [] = 0
multiplicity p (q ∷ qs) = cond (q == p) 1 0 + multiplicity p qs

-- how often a page is spoken for: once where it is free, and as often as the list has it
abbrev pub account : (ℕ → Bool) → List ℕ → ℕ → ℕ
account free used p = cond (free p) 1 0 + multiplicity p used

-- From these used pages to those: only pages that were used or free have other bytes, and each page is spoken for as often as before.
pub record KeepsAccount (pages news : List (List ℕ)) (free now : ℕ → Bool) (used uses : List ℕ) : Type 0 where
  pub size : length news ≡ length pages
  pub others : (p : ℕ) → account free used p ≡ 0 → slice_index_or news p [] ≡ slice_index_or pages p []
  pub balance : (p : ℕ) → account now uses p ≡ account free used p

-- one subtree spells this list now
pub record Becomes (pages news : List (List ℕ)) (free now : ℕ → Bool) (page height : ℕ) (is_root : Bool) (b : Bounds) (used : List ℕ)
    (all : List Record) : Type 0 where
  pub uses : List ℕ
  pub subtree : Subtree news height is_root (page, b) all uses
  pub moves : KeepsAccount pages news free now used uses

-- two subtrees spell it now, separated at a key
pub record Separated (pages news : List (List ℕ)) (free now : ℕ → Bool) (page height : ℕ) (b : Bounds) (used : List ℕ) (all : List Record)
    (key : Key) (right : ℕ) : Type 0 where
  pub first : List Record
  pub rest : List Record
  pub first_uses : List ℕ
  pub rest_uses : List ℕ
  pub is_left : Subtree news height false (page, record { low = b.low; high = Some key }) first first_uses
  pub is_right : Subtree news height false (right, record { low = Some key; high = b.high }) rest rest_uses
  pub records : all ≡ first ++ rest
  pub low : is_above b.low key ≡ true
  pub high : is_below b.high key ≡ true
  pub moves : KeepsAccount pages news free now used (rest_uses ++ first_uses)

-- what became of the subtree at a page when a record was put in
abbrev pub HasInserted : Record → (pages news : List (List ℕ)) (free now : ℕ → Bool) → ℕ → ℕ → Bool → Bounds → List Record → List ℕ → Inserted → Type 0
HasInserted r pages news free now page height is_root b rs used inserted.There = list_any (has_key r.key) rs ≡ true
HasInserted r pages news free now page height is_root b rs used inserted.Done =
    (list_any (has_key r.key) rs ≡ false) × Becomes pages news free now page height is_root b used (put r rs)
HasInserted r pages news free now page height is_root b rs used (inserted.Split key right) =
    (list_any (has_key r.key) rs ≡ false) × Separated pages news free now page height b used (put r rs) key right

-- A subtree in a store that tells its pages, none of them used twice or free.
pub record CanEdit (told : Option (List (List ℕ))) (free : ℕ → Bool) (page height : ℕ) (is_root : Bool) (b : Bounds) (rs : List Record)
    (used : List ℕ) : Type 0 where
  pub pages : List (List ℕ)
  pub is_told : told ≡ Some pages
  pub subtree : Subtree pages height is_root (page, b) rs used
  pub apart : (p : ℕ) → account free used p ≤ 1

-- A subtree with room for a record: its key lies within the bounds, and a page is free for each level that may be split.
pub record CanInsert (told : Option (List (List ℕ))) (free : ℕ → Bool) (size page height : ℕ) (is_root : Bool) (b : Bounds) (k : Key)
    (rs : List Record) (used : List ℕ) : Type 0 where
  pub can_edit : CanEdit told free page height is_root b rs used
  pub low : is_above b.low k ≡ true
  pub high : is_below b.high k ≡ true
  pub room : height ≤ count_free free size

-- what the store told before and tells now
pub record DidInsert (r : Record) (told now_told : Option (List (List ℕ))) (free now : ℕ → Bool) (page height : ℕ) (is_root : Bool) (b : Bounds)
    (rs : List Record) (used : List ℕ) (o : Inserted) : Type 0 where
  pub pages : List (List ℕ)
  pub news : List (List ℕ)
  pub was : told ≡ Some pages
  pub is : now_told ≡ Some news
  pub done : HasInserted r pages news free now page height is_root b rs used o

-- at most one record or child is missing to the minimum of a page that is not the root
abbrev pub IsNearlyFull : List (List ℕ) → ℕ → ℕ → Type 0
IsNearlyFull pages zero page = ⊥
IsNearlyFull pages (suc zero) page = (rs : List Record) → leaf_of (slice_index_or pages page []) ≡ Some rs → 71 ≤ length rs
IsNearlyFull pages (suc (suc h)) page = (inner : Inner) → inner_of (length pages) (slice_index_or pages page []) ≡ Some inner → 126 ≤ length inner.children

-- the page has one child left, whose subtree spells this list now
pub record OnlyChild (pages news : List (List ℕ)) (free now : ℕ → Bool) (page height : ℕ) (b : Bounds) (used : List ℕ) (all : List Record)
    (child : ℕ) : Type 0 where
  pub below : ℕ
  pub is_height : height ≡ suc below
  pub uses : List ℕ
  pub subtree : Subtree news below false (child, b) all uses
  pub moves : KeepsAccount pages news free now used (uses ++ page ∷ [])

-- the leaf at the root had one record, which is still written there
pub record IsEmptied (pages news : List (List ℕ)) (free now : ℕ → Bool) (page height : ℕ) (is_root : Bool) (used : List ℕ) (all : List Record) : Type 0 where
  pub root : is_root ≡ true
  pub is_leaf : height ≡ 1
  pub none : all ≡ []
  pub stays : news ≡ pages
  pub frees : now ≡ free
  pub is_used : used ≡ page ∷ []

-- what is left of the subtree at a page, which spells this list now
abbrev pub HasLeft : (pages news : List (List ℕ)) (free now : ℕ → Bool) → ℕ → ℕ → Bool → Bounds → List ℕ → List Record → Removed → Type 0
HasLeft pages news free now page height is_root b used all removed.Missing = ⊥
HasLeft pages news free now page height is_root b used all removed.Done = Becomes pages news free now page height is_root b used all
HasLeft pages news free now page height is_root b used all removed.Underfull =
    (is_root ≡ false → IsNearlyFull news height page) × Becomes pages news free now page height true b used all
HasLeft pages news free now page height is_root b used all removed.Emptied = IsEmptied pages news free now page height is_root used all
HasLeft pages news free now page height is_root b used all (removed.Only child) =
    (is_root ≡ true) × OnlyChild pages news free now page height b used all child

-- what the store told before and tells now, where a subtree has come to spell this list
pub record DidLeave (told now_told : Option (List (List ℕ))) (free now : ℕ → Bool) (page height : ℕ) (is_root : Bool) (b : Bounds) (used : List ℕ)
    (all : List Record) (o : Removed) : Type 0 where
  pub pages : List (List ℕ)
  pub news : List (List ℕ)
  pub was : told ≡ Some pages
  pub is : now_told ≡ Some news
  pub left : HasLeft pages news free now page height is_root b used all o

-- what became of the subtree at a page when the record of a key was taken out
abbrev pub DidRemove : Key → (told now_told : Option (List (List ℕ))) (free now : ℕ → Bool) → ℕ → ℕ → Bool → Bounds → List Record → List ℕ → Removed → Type 0
DidRemove k told now_told free now page height is_root b rs used removed.Missing = list_any (has_key k) rs ≡ false
DidRemove k told now_told free now page height is_root b rs used removed.Done =
    (list_any (has_key k) rs ≡ true) × DidLeave told now_told free now page height is_root b used (without k rs) removed.Done
DidRemove k told now_told free now page height is_root b rs used removed.Underfull =
    (list_any (has_key k) rs ≡ true) × DidLeave told now_told free now page height is_root b used (without k rs) removed.Underfull
DidRemove k told now_told free now page height is_root b rs used removed.Emptied =
    (list_any (has_key k) rs ≡ true) × DidLeave told now_told free now page height is_root b used (without k rs) removed.Emptied
DidRemove k told now_told free now page height is_root b rs used (removed.Only child) =
    (list_any (has_key k) rs ≡ true) × DidLeave told now_told free now page height is_root b used (without k rs) (removed.Only child)

-- a child that is left alone is a page from 1 on
abbrev pub HasPageIn : ℕ → Removed → Type 0
HasPageIn size removed.Missing = Unit {0}
HasPageIn size removed.Done = Unit {0}
HasPageIn size removed.Underfull = Unit {0}
HasPageIn size removed.Emptied = Unit {0}
HasPageIn size (removed.Only child) = (1 ≤ child) × (child < size)

-- A tree that the walk accepts, and none of whose pages is free.
pub record HasItsPages (told : Option (List (List ℕ))) (free : ℕ → Bool) (t : Tree) (rs : List Record) : Type 0 where
  pub tree : IsTree told t rs
  pub apart : (p : ℕ) → account free tree.visited p ≤ 1

-- The whole tree: its records, their number, and the pages from 1 on that are free are exactly those that it does not use.
pub record IsWhole (told : Option (List (List ℕ))) (free : ℕ → Bool) (size : ℕ) (t : Tree) (rs : List Record) : Type 0 where
  pub tree : IsTree told t rs
  pub number : length rs ≡ t.records
  pub balance : (p : ℕ) → 1 ≤ p → p < size → account free tree.visited p ≡ 1

-- What an insertion makes of a tree and answers: over the whole tree, over every tree, and where none of the tree's pages is free and more pages are free
-- than it is high; and how many records the tree then has.
pub record InsertsInto {S : Type 0} (g : Ghosts S) (r : Record) (t u : Tree) (old new : S) (result : Result Bool Stop) : Type 0 where
  pub inserted : IfOk result (λ is_new. (rs : List Record) → IsWhole (g.told old) (g.free old) (g.size old) t rs
      → (is_new ≡ not (list_any (has_key r.key) rs))
      × IsWhole (g.told new) (g.free new) (g.size old) u (if is_new then put r rs else rs))
  pub answer : IfOk result (λ is_new. (rs : List Record) → IsTree (g.told old) t rs → is_new ≡ not (list_any (has_key r.key) rs))
  pub changes : IfOk result (λ is_new. (rs : List Record) → HasItsPages (g.told old) (g.free old) t rs → t.height < count_free (g.free old) (g.size old)
      → HasItsPages (g.told new) (g.free new) u (if is_new then put r rs else rs))
  pub count : IfOk result (λ is_new. is_new ≡ true → u.records ≡ t.records + 1)

-- what a removal makes of a tree and answers: over the whole tree, over every tree, and where none of the tree's pages is free
pub record RemovesFrom {S : Type 0} (g : Ghosts S) (k : Key) (t u : Tree) (old new : S) (result : Result Bool Stop) : Type 0 where
  pub removed : IfOk result (λ is_out. (rs : List Record) → IsWhole (g.told old) (g.free old) (g.size old) t rs
      → (is_out ≡ list_any (has_key k) rs) × IsWhole (g.told new) (g.free new) (g.size old) u (without k rs))
  pub answer : IfOk result (λ is_out. (rs : List Record) → IsTree (g.told old) t rs → is_out ≡ list_any (has_key k) rs)
  pub changes : IfOk result (λ is_out. (rs : List Record) → HasItsPages (g.told old) (g.free old) t rs
      → HasItsPages (g.told new) (g.free new) u (without k rs))
