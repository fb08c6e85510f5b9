-- The pages that a floor reads, and what a call that reads some pages does to those that a store holds.
use Rattle.std.specs.Prelude.{◌≡◌, ℕ, zero, suc, ◌+◌, ◌*◌, ◌-◌, ◌≤◌, IfOk, Result, Bool, true, false, ◌||◌, ◌==◌, nat_lt, List, [], ◌∷◌, ◌++◌, length, Option, Some, None, IfSome}
use Rattle.std.specs.Prelude.{if◌then◌else◌, slice_index, slice_index_or, count_by}
use Rattle.std.specs.List.{list_all, list_any}
use Rattle.std.specs.Option.{is_some}
use Rattle.std.specs.Ordering.{is_le}
use Rattle.quilt_record.specs.declared.key.Key.{Key}
use Rattle.quilt_record.specs.declared.record.Record.{Record}
use Rattle.quilt_record.specs.Records.{key_cmp}
use Rattle.quilt_node.specs.Pages.{Inner, leaf_of, inner_of}
use Rattle.quilt_store.specs.Store.{Touches, first_eight}
use Rattle.quilt_world.specs.Tale.{Goes}
use Rattle.quilt_types.specs.declared.stop.Stop.{Stop}
use Rattle.quilt_btree.specs.Lists.{floor_of}
use Rattle.quilt_btree.specs.Trees.{SpellsSubtree}

-- the pages below an inner page that lead to its last record
abbrev pub last_below : (ℕ → List ℕ) → Option Inner → List ℕ
last_below under None = []
last_below under (Some inner) = under (slice_index inner.children (length inner.children - 1))

-- the pages that lead to the last record under a page at a height, the upper first
abbrev pub last_pages : List (List ℕ) → (height : ℕ) → (page : ℕ) → List ℕ
last_pages pages zero page = []
last_pages pages (suc zero) page = page ∷ []
last_pages pages (suc (suc h)) page =
    page ∷ last_below (last_pages pages (suc h)) (inner_of (length pages) (slice_index_or pages page []))

-- the place of the child to which a key leads
abbrev pub child_place : Key → Inner → ℕ
child_place k inner = count_by (λ l. is_le (key_cmp l k)) inner.keys

-- a leaf has a record whose key is at most this one
abbrev pub finds_in_leaf : Key → Option (List Record) → Bool
finds_in_leaf k None = false
finds_in_leaf k (Some rs) = is_some (floor_of k rs)

-- a child stands before the one to which the key leads, or that one has the record
abbrev pub finds_below : (ℕ → Bool) → Key → Option Inner → Bool
finds_below under k None = false
finds_below under k (Some inner) = nat_lt 0 (child_place k inner) || under (slice_index inner.children (child_place k inner))

-- a search under a page at a height comes to a record whose key is at most this one
abbrev pub finds_floor : List (List ℕ) → Key → (height : ℕ) → (page : ℕ) → Bool
finds_floor pages k zero page = false
finds_floor pages k (suc zero) page = finds_in_leaf k (leaf_of (slice_index_or pages page []))
finds_floor pages k (suc (suc h)) page =
    finds_below (finds_floor pages k (suc h)) k (inner_of (length pages) (slice_index_or pages page []))

-- the pages that are read behind the child at a place: where it has no floor, those of the last record before it
abbrev pub before_child : (ℕ → Bool) → (ℕ → List ℕ) → Inner → ℕ → List ℕ
before_child finds last inner place =
    if finds (slice_index inner.children place) || place == 0 then [] else last (slice_index inner.children (place - 1))

-- the pages below an inner page that a floor reads
abbrev pub floor_below : (ℕ → List ℕ) → (ℕ → Bool) → (ℕ → List ℕ) → Key → Option Inner → List ℕ
floor_below under finds last k None = []
floor_below under finds last k (Some inner) =
    under (slice_index inner.children (child_place k inner)) ++ before_child finds last inner (child_place k inner)

-- the pages that a floor reads from a page at a height on, in order
abbrev pub floor_pages : List (List ℕ) → Key → (height : ℕ) → (page : ℕ) → List ℕ
floor_pages pages k zero page = []
floor_pages pages k (suc zero) page = page ∷ []
floor_pages pages k (suc (suc h)) page =
    page ∷ floor_below (floor_pages pages k (suc h)) (finds_floor pages k (suc h)) (last_pages pages (suc h)) k
    (inner_of (length pages) (slice_index_or pages page []))

-- these pages came to the front of those that are held, one after the other
abbrev pub TouchesEach : List ℕ → List ℕ → List ℕ → Type 0
TouchesEach [] old new = new ≡ old
TouchesEach (p ∷ ps) old new = (between : List ℕ) × Touches p old between × TouchesEach ps between new

-- each of these pages is among the first eight that are held
pub record AreAmongFirst (ps held : List ℕ) : Type 0 where
  pub each : list_all (λ p. list_any (λ q. q == p) (first_eight held)) ps ≡ true

-- where the pages are told, those that a call reads came to the front of those that are held, in this order
abbrev pub TouchesInTurn : (List (List ℕ) → List ℕ) → Option (List (List ℕ)) → Option (List ℕ) → Option (List ℕ) → Type 0
TouchesInTurn reads told old new =
    (pages : List (List ℕ)) → told ≡ Some pages → Goes (TouchesEach (reads pages)) old new

-- where the pages are told, those that a call reads are then among the first eight that are held
abbrev pub HoldsFirst : (List (List ℕ) → List ℕ) → Option (List (List ℕ)) → Option (List ℕ) → Option (List ℕ) → Type 0
HoldsFirst reads told old new =
    (pages : List (List ℕ)) → told ≡ Some pages → Goes (λ before now. AreAmongFirst (reads pages) now) old new

-- where the pages are told, and those that a call reads are among the first eight that are held, the device below is not read
abbrev pub ReadsNone : (List (List ℕ) → List ℕ) → Option (List (List ℕ)) → Option (List ℕ) → Option ℕ → Option ℕ → Type 0
ReadsNone reads told held old new =
    (pages : List (List ℕ)) → told ≡ Some pages
    → IfSome held (λ first. AreAmongFirst (reads pages) first → Goes (λ before now. now ≤ before) old new)

-- the floor in a subtree was found, where there is one
pub record FindsFloor (told : Option (List (List ℕ))) (page height : ℕ) (k : Key) (result : Result (Option Record) Stop) : Type 0 where
  pub floor : IfOk result (λ r. (rs : List Record) → SpellsSubtree told page height rs → r ≡ floor_of k rs)
  pub found : IfOk result (λ r. (rs : List Record) → SpellsSubtree told page height rs → (pages : List (List ℕ)) → told ≡ Some pages
      → finds_floor pages k height page ≡ is_some r)

-- how many pages a floor under a page reads: two at each height but the lowest, and one at each where there is none
pub record ReadsForFloor (height : ℕ) (old now : Option ℕ) (result : Result (Option Record) Stop) : Type 0 where
  pub reads : Goes (λ old new. new + 1 ≤ old + 2 * height) old now
  pub straight : IfOk result (λ r. r ≡ None → Goes (λ old new. new ≤ old + height) old now)
