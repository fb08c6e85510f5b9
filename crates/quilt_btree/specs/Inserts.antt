-- What the steps of an insertion need and make.
use Rattle.std.specs.Prelude.{◌≡◌, ◌≢◌, ℕ, suc, ◌+◌, ◌<◌, ◌≤◌, IfOk, OnOk, Result, Bool, true, false, ◌||◌, nat_le, List, [], ◌∷◌, ◌++◌, Option, Some, length}
use Rattle.quilt_record.specs.declared.record.Record.{Record}
use Rattle.quilt_node.specs.Pages.{Inner, is_ascending}
use Rattle.quilt_node.specs.Nodes.{are_pages}
use Rattle.quilt_node.specs.Tree.{Bounds, bounded, are_within}
use Rattle.quilt_types.specs.declared.stop.Stop.{Stop}
use Rattle.quilt_store.specs.declared.store.PageStore.{Ghosts}
use Rattle.quilt_store.specs.Store.{count_free}
use Rattle.quilt_btree.specs.Costs.{IsUntouched}
use Rattle.quilt_btree.specs.Subtree.{Row, Subtree}
use Rattle.quilt_btree.specs.Edits.{account, Becomes, Separated}
use Rattle.quilt_btree.specs.declared.outcomes.Inserted.{Inserted}
use Rattle.quilt_btree.specs.declared.outcomes.Inserted.TheVariants as inserted

-- a new page to the right is one from 1 on
abbrev pub HasRight : ℕ → Inserted → Type 0
HasRight size inserted.There = Unit {0}
HasRight size inserted.Done = Unit {0}
HasRight size (inserted.Split key right) = (1 ≤ right) × (right < size)

-- fewer records than there are under a page of height 3 with 254 children
abbrev pub AreFew : List Record → Type 0
AreFew rs = length rs < 2322576

-- An inner page that is to be written: the subtrees of its children stand in the store, and their pages are neither it, nor free, nor used twice.
pub record IsPending (told : Option (List (List ℕ))) (free : ℕ → Bool) (page : ℕ) (is_root : Bool) (b : Bounds) (inner : Inner) (all : List Record)
    (under : List ℕ) : Type 0 where
  pub pages : List (List ℕ)
  pub is_told : told ≡ Some pages
  pub below : ℕ
  pub is_height : inner.height ≡ suc (suc below)
  pub in_range : are_pages (length pages) inner.children ≡ true
  pub many : length inner.children ≡ suc (length inner.keys)
  pub enough : (is_root || nat_le 127 (length inner.children)) ≡ true
  pub ascends : is_ascending inner.keys ≡ true
  pub within : are_within b inner.keys ≡ true
  pub children : Row (Subtree pages (suc below) false) (bounded inner.children inner.keys b) all under
  pub apart : (p : ℕ) → account free (under ++ page ∷ []) p ≤ 1

-- the page was written, or it and one to its right
abbrev pub HasPut : (pages news : List (List ℕ)) (free now : ℕ → Bool) → ℕ → ℕ → Bool → Bounds → List ℕ → List Record → Inserted → Type 0
HasPut pages news free now page height is_root b used all inserted.There = ⊥
HasPut pages news free now page height is_root b used all inserted.Done = Becomes pages news free now page height is_root b used all
HasPut pages news free now page height is_root b used all (inserted.Split key right) = Separated pages news free now page height b used all key right

-- what the store told before and tells now
pub record DidPut (told now_told : Option (List (List ℕ))) (free now : ℕ → Bool) (page height : ℕ) (is_root : Bool) (b : Bounds) (used : List ℕ)
    (all : List Record) (o : Inserted) : Type 0 where
  pub pages : List (List ℕ)
  pub news : List (List ℕ)
  pub was : told ≡ Some pages
  pub is : now_told ≡ Some news
  pub done : HasPut pages news free now page height is_root b used all o

-- What an insertion into a subtree with so many levels leaves for the page above: a new page to the right is one from 1 on, at most one page for each
-- level was taken, and where the key was there nothing was written.
pub record LeavesInserted {S : Type 0} (g : Ghosts S) (levels : ℕ) (old new : S) (result : Result Inserted Stop) : Type 0 where
  pub right : IfOk result (λ o. HasRight (g.size old) o)
  pub room : OnOk result (count_free (g.free old) (g.size old) ≤ count_free (g.free new) (g.size old) + levels)
  pub same : IfOk result (λ o. o ≡ inserted.There → IsUntouched g old new)

-- what one page that was put somewhat into leaves for the page above: a new page to the right is one from 1 on, and it is the only one that was taken
pub record LeavesPut {S : Type 0} (g : Ghosts S) (before now : S) (result : Result Inserted Stop) : Type 0 where
  pub right : IfOk result (λ o. HasRight (g.size before) o)
  pub room : OnOk result (count_free (g.free before) (g.size before) ≤ count_free (g.free now) (g.size before) + 1)
  pub new : IfOk result (λ o. o ≢ inserted.There)
