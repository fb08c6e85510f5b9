-- What rebalances a page with one record or child too few.
use Rattle.std.specs.Prelude.{◌≡◌, ◌≢◌, ℕ, suc, ◌+◌, ◌≤◌, ◌==◌, IfOk, Result, Bool, true, false, ◌||◌, nat_le, List, [], ◌∷◌, ◌++◌, Option, Some, length, slice_index}
use Rattle.std.specs.Prelude.{slice_index_or, slice_set}
use Rattle.quilt_record.specs.declared.key.Key.{Key}
use Rattle.quilt_record.specs.declared.record.Record.{Record}
use Rattle.quilt_node.specs.Pages.{Inner, inner_of}
use Rattle.quilt_node.specs.Edits.{without_child}
use Rattle.quilt_node.specs.Tree.{Bounds, bounded, are_within, is_above, is_below}
use Rattle.quilt_btree.specs.declared.outcomes.Rebalanced.{Rebalanced}
use Rattle.quilt_btree.specs.declared.outcomes.Rebalanced.TheVariants as rebalanced
use Rattle.quilt_btree.specs.declared.outcomes.Removed.{Removed}
use Rattle.quilt_btree.specs.declared.outcomes.Removed.TheVariants as removed
use Rattle.quilt_types.specs.declared.stop.Stop.{Stop}
use Rattle.quilt_store.specs.declared.store.PageStore.{Ghosts}
use Rattle.quilt_btree.specs.Costs.{IsUntouched}
use Rattle.quilt_btree.specs.Edits.{account, Becomes, Separated, IsNearlyFull, HasPageIn}
use Rattle.quilt_btree.specs.Subtree.{Row, Subtree}

-- a subtree whose page may have one record or child too few
pub record IsNear (pages : List (List ℕ)) (height : ℕ) (at : ℕ × Bounds) (rs : List Record) (used : List ℕ) : Type 0 where
  pub subtree : Subtree pages height true at rs used
  pub nearly : IsNearlyFull pages height at.0

-- Two such subtrees one behind the other, separated at a key, in a store that tells its pages, none of them used twice or free.
pub record CanRebalance (told : Option (List (List ℕ))) (free : ℕ → Bool) (height left : ℕ) (key : Key) (right : ℕ) (b : Bounds) (rs : List Record)
    (used : List ℕ) : Type 0 where
  pub pages : List (List ℕ)
  pub is_told : told ≡ Some pages
  pub first : List Record
  pub rest : List Record
  pub first_used : List ℕ
  pub rest_used : List ℕ
  pub is_left : IsNear pages height (left, record { low = b.low; high = Some key }) first first_used
  pub is_right : IsNear pages height (right, record { low = Some key; high = b.high }) rest rest_used
  pub records : rs ≡ first ++ rest
  pub is_used : used ≡ rest_used ++ first_used
  pub low : is_above b.low key ≡ true
  pub high : is_below b.high key ≡ true
  pub apart : (p : ℕ) → account free used p ≤ 1

-- the left page has all of it now, or both have enough
abbrev pub HasRebalanced : (pages news : List (List ℕ)) (free now : ℕ → Bool) → ℕ → ℕ → ℕ → Bounds → List Record → List ℕ → Rebalanced → Type 0
HasRebalanced pages news free now height left right b rs used rebalanced.Joined = Becomes pages news free now left height false b used rs
HasRebalanced pages news free now height left right b rs used (rebalanced.Redistributed key) = Separated pages news free now left height b used rs key right

-- what the store told before and tells now
pub record DidRebalance (told now_told : Option (List (List ℕ))) (free now : ℕ → Bool) (height left right : ℕ) (b : Bounds) (rs : List Record)
    (used : List ℕ) (o : Rebalanced) : Type 0 where
  pub pages : List (List ℕ)
  pub news : List (List ℕ)
  pub was : told ≡ Some pages
  pub is : now_told ≡ Some news
  pub done : HasRebalanced pages news free now height left right b rs used o

-- the subtree at a place, which may be underfull at one page
abbrev pub Partly : List (List ℕ) → ℕ → ℕ → ℕ × Bounds → List Record → List ℕ → Type 0
Partly pages height underfull at rs used = Subtree pages height (at.0 == underfull) at rs used

-- An inner page of which child i may have one record or child too few, in a store that tells its pages, none of them used twice or free.
pub record HasUnderfull (told : Option (List (List ℕ))) (free : ℕ → Bool) (page height : ℕ) (inner : Inner) (i : ℕ) (is_root : Bool) (b : Bounds)
    (rs : List Record) (used : List ℕ) : Type 0 where
  pub pages : List (List ℕ)
  pub is_told : told ≡ Some pages
  pub below : ℕ
  pub is_height : height ≡ suc (suc below)
  pub page_is : inner_of (length pages) (slice_index_or pages page []) ≡ Some inner
  pub inner_height : inner.height ≡ height
  pub enough : (is_root || nat_le 127 (length inner.children)) ≡ true
  pub within : are_within b inner.keys ≡ true
  pub under : List ℕ
  pub children : Row (Partly pages (suc below) (slice_index inner.children i)) (bounded inner.children inner.keys b) rs under
  pub nearly : IsNearlyFull pages (suc below) (slice_index inner.children i)
  pub is_used : used ≡ under ++ page ∷ []
  pub apart : (p : ℕ) → account free used p ≤ 1

-- the store has this inner page at a page now, and else what it had
pub record IsInnerWritten (page : ℕ) (inner : Inner) (pages : List (List ℕ)) (now_told : Option (List (List ℕ))) : Type 0 where
  pub bytes : List ℕ
  pub is : now_told ≡ Some (slice_set pages page bytes)
  pub inner_is : inner_of (length pages) bytes ≡ Some inner

-- a store that tells its pages has this inner page at the page afterwards, and all other pages as before
abbrev pub WritesInner : ℕ → Inner → Option (List (List ℕ)) → Option (List (List ℕ)) → Type 0
WritesInner page inner told now_told = (pages : List (List ℕ)) → told ≡ Some pages → IsInnerWritten page inner pages now_told

-- what became of an inner page without key j and the child behind it
abbrev pub HasDropped : ℕ → Inner → ℕ → Option (List (List ℕ)) → Option (List (List ℕ)) → Removed → Type 0
HasDropped page inner j told now_told removed.Missing = ⊥
HasDropped page inner j told now_told removed.Done = (128 ≤ length inner.children) × WritesInner page (without_child inner j) told now_told
HasDropped page inner j told now_told removed.Underfull = (length inner.children ≤ 127) × WritesInner page (without_child inner j) told now_told
HasDropped page inner j told now_told removed.Emptied = ⊥
HasDropped page inner j told now_told (removed.Only child) =
    (length inner.children ≡ 2) × (child ≡ slice_index inner.children 0) × (now_told ≡ told)

-- a page was given back, and may hold anything
pub record HasGiven (page : ℕ) (pages news : List (List ℕ)) : Type 0 where
  pub size : length news ≡ length pages
  pub others : (q : ℕ) → q ≢ page → slice_index_or news q [] ≡ slice_index_or pages q []

-- What a removal from a subtree leaves for the page above: where there was no such record nothing was written, a child that is left alone is a page
-- from 1 on, and only where the page above stays as it is may as many pages have changed as are allowed.
pub record LeavesRemoved {S : Type 0} (g : Ghosts S) (changes : ℕ) (old new : S) (result : Result Removed Stop) : Type 0 where
  pub same : IfOk result (λ o. o ≡ removed.Missing → IsUntouched g old new)
  pub child : IfOk result (λ o. HasPageIn (g.size old) o)
  pub less : IfOk result (λ o. o ≢ removed.Done → g.changed new + 1 ≤ g.changed old + changes)

-- what a child that was rebalanced leaves for the page above: it was edited, and the rest is as behind a removal
pub record LeavesRebalanced {S : Type 0} (g : Ghosts S) (changes : ℕ) (old new : S) (result : Result Removed Stop) : Type 0 where
  pub some : IfOk result (λ o. o ≡ removed.Missing → ⊥)
  pub child : IfOk result (λ o. HasPageIn (g.size old) o)
  pub less : IfOk result (λ o. o ≢ removed.Done → g.changed new + 1 ≤ g.changed old + changes)
