-- A tree of pages as the list of its records, or the first page that is damaged.
use Rattle.std.specs.Prelude.{ℕ, zero, suc, Bool, true, false, ◌&&◌, ◌||◌, ◌==◌, nat_le, List, [], ◌∷◌, ◌++◌, length, map, Option, Some, None, if◌then◌else◌}
use Rattle.std.specs.Prelude.{slice_index_or}
use Rattle.std.specs.List.{list_all, list_any}
use Rattle.std.specs.Ordering.{is_lt, is_le}
use Rattle.quilt_record.specs.declared.key.Key.{Key}
use Rattle.quilt_record.specs.declared.record.Record.{Record}
use Rattle.quilt_record.specs.Records.{key_cmp}
use Rattle.quilt_node.specs.Pages.{Inner, leaf_of, inner_of}

-- the keys that may stand under a page: from low on, and below high
pub record Bounds : Type 0 where
  pub low : Option Key
  pub high : Option Key

-- the key is the lower bound or greater; any key is where there is no bound
abbrev pub is_above : Option Key → Key → Bool
is_above None k = true
is_above (Some low) k = is_le (key_cmp low k)

-- the key is less than the upper bound; any key is where there is no bound
abbrev pub is_below : Option Key → Key → Bool
is_below None k = true
is_below (Some high) k = is_lt (key_cmp k high)

-- each key lies within both bounds
abbrev pub are_within : Bounds → List Key → Bool
are_within b ks = list_all (λ k. is_above b.low k && is_below b.high k) ks

-- what a walk found: the records, with the pages that it has visited, or the first damaged page
pub data Walk : Type 0 where
  Whole : (records : List Record) (visited : List ℕ) → Walk
  Damaged : (page : ℕ) → Walk

-- the children with their bounds, from left to right
abbrev pub bounded : List ℕ → List Key → Bounds → List (ℕ × Bounds)
bounded [] ks b = []
bounded (c ∷ cs) [] b = (c, b) ∷ bounded cs [] b
bounded (c ∷ cs) (k ∷ ks) b =
    (c, record { low = b.low; high = Some k }) ∷ bounded cs ks (record { low = Some k; high = b.high })

-- what a walk found behind these records
abbrev pub behind : List Record → Walk → Walk
behind rs (Damaged page) = Damaged page
behind rs (Whole more visited) = Whole (rs ++ more) visited

-- the walk goes on with a page behind what it has found
abbrev pub and_then : Walk → (List ℕ → Walk) → Walk
and_then (Damaged page) next = Damaged page
and_then (Whole records visited) next = behind records (next visited)

-- the walk goes on with the children, from left to right, behind what it has found
abbrev pub each_child : (ℕ × Bounds → List ℕ → Walk) → List (ℕ × Bounds) → Walk → Walk
each_child visit [] found = found
each_child visit (c ∷ cs) found = each_child visit cs (and_then found (visit c))

-- the walk at a leaf page: it is damaged where it is not well formed, has fewer than 72 records and is not the root,
-- or has a key out of bounds
abbrev pub leaf_walk : Bool → Bounds → ℕ → List ℕ → Option (List Record) → Walk
leaf_walk is_root b page visited None = Damaged page
leaf_walk is_root b page visited (Some rs) =
    if (is_root || nat_le 72 (length rs)) && are_within b (map (λ r. r.key) rs)
    then Whole rs (page ∷ visited) else Damaged page

-- the walk at an inner page and all below it: it is damaged where it is not well formed, has another height,
-- has fewer than 127 children and is not the root, or has a key out of bounds
abbrev pub inner_walk : (ℕ × Bounds → List ℕ → Walk) → ℕ → Bool → Bounds → ℕ → List ℕ → Option Inner → Walk
inner_walk visit height is_root b page visited None = Damaged page
inner_walk visit height is_root b page visited (Some inner) =
    if (inner.height == height) && (is_root || nat_le 127 (length inner.children)) && are_within b inner.keys
    then each_child visit (bounded inner.children inner.keys b) (Whole [] (page ∷ visited)) else Damaged page

-- a page of the tree at this height, and all below it: a page before its children, and these from left to right
abbrev pub walk : List (List ℕ) → ℕ → Bool → ℕ × Bounds → List ℕ → Walk
walk pages zero is_root at visited = Damaged at.0
walk pages (suc zero) is_root at visited =
    if list_any (λ v. v == at.0) visited then Damaged at.0
    else leaf_walk is_root at.1 at.0 visited (leaf_of (slice_index_or pages at.0 []))
walk pages (suc (suc h)) is_root at visited =
    if list_any (λ v. v == at.0) visited then Damaged at.0
    else inner_walk (walk pages (suc h) false) (suc (suc h)) is_root at.1 at.0 visited (inner_of (length pages) (slice_index_or pages at.0 []))

-- the whole tree
unfoldable pub walk_of : List (List ℕ) → ℕ → ℕ → Walk
walk_of pages root zero = Whole [] []
walk_of pages root (suc h) = walk pages (suc h) true (root, record { low = None; high = None }) []

-- the first damaged page in the order of the walk, and 0 where every page passes
abbrev pub page_of_walk : Walk → ℕ
page_of_walk (Damaged page) = page
page_of_walk (Whole records visited) = 0
