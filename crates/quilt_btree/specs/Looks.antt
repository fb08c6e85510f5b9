-- What a look at one page tells, where it is well formed, and what it leaves of the store.
use Rattle.std.specs.Prelude.{◌≡◌, ℕ, ◌+◌, ◌-◌, ◌≤◌, ◌==◌, IsTrue, IfSome, List, Option, Some, None, OnOk, Result, length, slice_index, take, filter, ◌++◌}
use Rattle.std.specs.List.{last_or, list_any}
use Rattle.quilt_types.specs.declared.stop.Stop.{Stop}
use Rattle.quilt_record.specs.declared.key.Key.{Key}
use Rattle.quilt_record.specs.declared.record.Record.{Record}
use Rattle.quilt_node.specs.Pages.{Inner, leaf_of, inner_of}
use Rattle.quilt_store.specs.Calls.{OnlyReads}
use Rattle.quilt_store.specs.Store.{Touches}
use Rattle.quilt_world.specs.Tale.{Goes}
use Rattle.quilt_store.specs.declared.store.PageStore.{Ghosts}
use Rattle.quilt_btree.specs.Damage.{HasChild}
use Rattle.quilt_btree.specs.Lists.{floor_of, is_from_to, IsLower}
use Rattle.quilt_btree.specs.Searches.{AreOf, IsFork, IsStepDown}

-- what a call leaves that looks at one page: at most one page is read from the device, and none where the page is held
pub record LooksAt {S T : Type 0} (g : Ghosts S) (page : ℕ) (old new : S) (result : Result T Stop) : Type 0 where
  pub left : OnlyReads g old new result
  pub held : OnOk result (Goes (Touches page) (g.held old) (g.held new))
  pub reads : Goes (λ before now. now ≤ before + 1) (g.reads old) (g.reads new)
  pub held_is_free : IfSome (g.held old) (λ pages. IsTrue (list_any (λ p. p == page) pages)
      → Goes (λ before now. now ≤ before) (g.reads old) (g.reads new))

-- the page has some bytes, which have these children where a key belongs
pub record ShowsFork (told : Option (List (List ℕ))) (page size : ℕ) (k : Key) (child : ℕ) (prior : Option ℕ) : Type 0 where
  pub bytes : List ℕ
  pub are : AreOf told page bytes
  pub stands : HasChild size bytes child
  pub prior_stands : IfSome prior (HasChild size bytes)
  pub fork : (inner : Inner) → inner_of size bytes ≡ Some inner → IsFork k inner child prior

-- the page has some bytes, which have this child where a key belongs, with its keys below a bound
pub record ShowsStep (told : Option (List (List ℕ))) (page size : ℕ) (k : Key) (high : Option Key) (child : ℕ) (next : Option Key) : Type 0 where
  pub bytes : List ℕ
  pub are : AreOf told page bytes
  pub stands : HasChild size bytes child
  pub step : (inner : Inner) → inner_of size bytes ≡ Some inner → IsStepDown k inner high child next

-- the page has some bytes, which have this last child
pub record ShowsLast (told : Option (List (List ℕ))) (page size child : ℕ) : Type 0 where
  pub bytes : List ℕ
  pub are : AreOf told page bytes
  pub stands : HasChild size bytes child
  pub last : (inner : Inner) → inner_of size bytes ≡ Some inner → Some child ≡ Some (slice_index inner.children (length inner.children - 1))

-- the page has some bytes, and this is the floor of a key among the records of a leaf that they are
pub record ShowsFloor (told : Option (List (List ℕ))) (page : ℕ) (k : Key) (r : Option Record) : Type 0 where
  pub bytes : List ℕ
  pub are : AreOf told page bytes
  pub floor : (rs : List Record) → leaf_of bytes ≡ Some rs → r ≡ floor_of k rs

-- the page has some bytes, and this is the record of the greatest key below one among those of a leaf that they are
pub record ShowsLower (told : Option (List (List ℕ))) (page : ℕ) (k : Key) (r : Option Record) : Type 0 where
  pub bytes : List ℕ
  pub are : AreOf told page bytes
  pub lower : (rs : List Record) → leaf_of bytes ≡ Some rs → IsLower k rs r

-- the page has some bytes, and this is the last record of a leaf that they are
pub record ShowsEnd (told : Option (List (List ℕ))) (page : ℕ) (r : Record) : Type 0 where
  pub bytes : List ℕ
  pub are : AreOf told page bytes
  pub last : (rs : List Record) → leaf_of bytes ≡ Some rs → last_or None rs ≡ Some r

-- the page has some bytes, and those of its records in the range came behind the others, as many as there may be
pub record AddsFrom (told : Option (List (List ℕ))) (page : ℕ) (low high : Key) (most : ℕ) (old new : List Record) : Type 0 where
  pub bytes : List ℕ
  pub are : AreOf told page bytes
  pub some : List Record
  pub added : new ≡ take most (old ++ filter (is_from_to low high) some)
  pub same : (rs : List Record) → leaf_of bytes ≡ Some rs → filter (is_from_to low high) some ≡ filter (is_from_to low high) rs

-- the page has some bytes that are no leaf
pub record IsSpoilt (told : Option (List (List ℕ))) (page : ℕ) : Type 0 where
  pub bytes : List ℕ
  pub are : AreOf told page bytes
  pub is_none : leaf_of bytes ≡ None
