-- What a record and those of a run behind it do to a subtree when they are put in together.
use Rattle.std.specs.Prelude.{◌≡◌, ℕ, ◌+◌, ◌≤◌, Bool, true, false, List, Option, IfOk, OnOk, Result, length, take, Some}
use Rattle.std.specs.List.{list_all}
use Rattle.quilt_record.specs.declared.record.Record.{Record}
use Rattle.quilt_node.specs.Tree.{Bounds, is_below}
use Rattle.quilt_types.specs.declared.stop.Stop.{Stop}
use Rattle.quilt_store.specs.declared.store.PageStore.{Ghosts}
use Rattle.quilt_store.specs.Store.{count_free}
use Rattle.quilt_btree.specs.declared.edit.Edit.{Edit}
use Rattle.quilt_btree.specs.declared.edit.Edit.TheVariants as edit
use Rattle.quilt_btree.specs.declared.outcomes.Inserted.{Inserted}
use Rattle.quilt_btree.specs.declared.outcomes.Inserted.TheVariants as inserted
use Rattle.quilt_btree.specs.declared.outcomes.Placed.{Placed}
use Rattle.quilt_btree.specs.Batches.{are_due, edit_all, edit_keys}
use Rattle.quilt_btree.specs.Edits.{Becomes, Separated}
use Rattle.quilt_btree.specs.Inserts.{HasRight}

-- the edit puts a record in
abbrev pub puts_one : Edit → Bool
puts_one (edit.Put r) = true
puts_one (edit.Remove k) = false
puts_one (edit.Replace r) = false

-- what became of the subtree at a page
abbrev pub HasPlaced : List Edit → (pages news : List (List ℕ)) (free now : ℕ → Bool) → ℕ → ℕ → Bool → Bounds → List Record → List ℕ → Inserted → Type 0
HasPlaced run pages news free now page height is_root b rs used inserted.There = are_due run rs ≡ false
HasPlaced run pages news free now page height is_root b rs used inserted.Done =
    (are_due run rs ≡ true) × Becomes pages news free now page height is_root b used (edit_all run rs)
HasPlaced run pages news free now page height is_root b rs used (inserted.Split key right) =
    (are_due run rs ≡ true) × Separated pages news free now page height b used (edit_all run rs) key right

-- what the store told before and tells now
pub record DidPlace (run : List Edit) (told now_told : Option (List (List ℕ))) (free now : ℕ → Bool) (page height : ℕ) (is_root : Bool) (b : Bounds)
    (rs : List Record) (used : List ℕ) (o : Inserted) : Type 0 where
  pub pages : List (List ℕ)
  pub news : List (List ℕ)
  pub was : told ≡ Some pages
  pub is : now_told ≡ Some news
  pub under : list_all (is_below b.high) (edit_keys run) ≡ true
  pub done : HasPlaced run pages news free now page height is_root b rs used o

-- so many of the first edits of a run were made behind another: each puts a record in
pub record PutsFirst (run : List Edit) (n : ℕ) : Type 0 where
  pub number : n ≤ length run
  pub puts : list_all puts_one (take n run) ≡ true

-- what records that were put into a subtree with so many levels leave for the page above: a new page to the right is one from 1 on, and at most one
-- page for each level was taken
pub record LeavesPlaced {S : Type 0} (g : Ghosts S) (levels : ℕ) (old new : S) (result : Result Placed Stop) : Type 0 where
  pub right : IfOk result (λ o. HasRight (g.size old) o.outcome)
  pub room : OnOk result (count_free (g.free old) (g.size old) ≤ count_free (g.free new) (g.size old) + levels)
