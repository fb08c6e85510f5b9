-- What the walk of a subtree has found, part by part.
use Rattle.std.specs.Prelude.{◌≡◌, ℕ, zero, suc, true, false, ◌||◌, ◌==◌, Bool, nat_le, List, [], ◌∷◌, ◌++◌, length, map, Some, slice_index_or}
use Rattle.std.specs.List.{list_any}
use Rattle.quilt_record.specs.declared.record.Record.{Record}
use Rattle.quilt_node.specs.Pages.{Inner, leaf_of, inner_of}
use Rattle.quilt_node.specs.Tree.{Bounds, are_within, bounded}

-- A place of the tree (a page and its bounds) spells these records, and uses these pages, the last visited first.
abbrev pub Reading : Type 1
Reading = ℕ × Bounds → List Record → List ℕ → Type 0

-- the page is a leaf with these records
pub record IsLeafPlace (pages : List (List ℕ)) (is_root : Bool) (at : ℕ × Bounds) (rs : List Record) (used : List ℕ) : Type 0 where
  pub page : leaf_of (slice_index_or pages at.0 []) ≡ Some rs
  pub enough : (is_root || nat_le 72 (length rs)) ≡ true
  pub within : are_within at.1 (map (λ r. r.key) rs) ≡ true
  pub is_used : used ≡ at.0 ∷ []

-- one part, and then another
pub record InTurn (S T : List Record → List ℕ → Type 0) (rs : List Record) (used : List ℕ) : Type 0 where
  pub first : List Record
  pub rest : List Record
  pub first_used : List ℕ
  pub rest_used : List ℕ
  pub here : S first first_used
  pub after : T rest rest_used
  pub records : rs ≡ first ++ rest
  pub is_used : used ≡ rest_used ++ first_used

-- the places from left to right spell these records
abbrev pub Row : Reading → List (ℕ × Bounds) → List Record → List ℕ → Type 0
Row S [] rs used = (rs ≡ []) × (used ≡ [])
Row S (c ∷ cs) rs used = InTurn (S c) (Row S cs) rs used

-- the page is an inner page of this height, and its children spell these records
pub record IsInnerPlace (S : Reading) (pages : List (List ℕ)) (height : ℕ) (is_root : Bool) (at : ℕ × Bounds) (rs : List Record) (used : List ℕ) : Type 0 where
  pub inner : Inner
  pub page : inner_of (length pages) (slice_index_or pages at.0 []) ≡ Some inner
  pub is_height : inner.height ≡ height
  pub enough : (is_root || nat_le 127 (length inner.children)) ≡ true
  pub within : are_within at.1 inner.keys ≡ true
  pub under : List ℕ
  pub children : Row S (bounded inner.children inner.keys at.1) rs under
  pub is_used : used ≡ under ++ at.0 ∷ []

-- the subtree at a place
abbrev pub Subtree : List (List ℕ) → ℕ → Bool → ℕ × Bounds → List Record → List ℕ → Type 0
Subtree pages zero is_root at rs used = ⊥
Subtree pages (suc zero) is_root at rs used = IsLeafPlace pages is_root at rs used
Subtree pages (suc (suc h)) is_root at rs used =
    IsInnerPlace (Subtree pages (suc h) false) pages (suc (suc h)) is_root at rs used

-- no page of the first list stands in it twice or in the second
abbrev pub AreFreshPages : List ℕ → List ℕ → Type 0
AreFreshPages [] visited = Unit {0}
AreFreshPages (p ∷ used) visited = (list_any (λ v. v == p) (used ++ visited) ≡ false) × AreFreshPages used visited
