-- Which page of a tree is bad in itself, where the store tells its bytes.
use Rattle.std.specs.Prelude.{◌≡◌, ◌≢◌, ◌⊎◌, ℕ, zero, suc, ◌+◌, ◌*◌, ◌<◌, ◌≤◌, List, [], length, Option, Some, None, slice_index, slice_index_or}
use Rattle.quilt_types.specs.declared.stop.Stop.{Stop}
use Rattle.quilt_types.specs.declared.stop.Stop.TheVariants.{Device, Memory, Damaged}
use Rattle.quilt_node.specs.Pages.{Inner, leaf_of, inner_of, word_at}

-- the number stands at a place of a child in the bytes, and is a page from 1 on of a store of so many
pub record HasChild (size : ℕ) (bytes : List ℕ) (child : ℕ) : Type 0 where
  pub place : ℕ
  pub in_range : place < 254
  pub stands : child ≡ word_at bytes (8 + 4 * place)
  pub least : 1 ≤ child
  pub most : child < size

-- Page q is no leaf where its height is 1, and no inner page where it is above. It is the page at this height, or child numbers lead down to it from there.
abbrev pub IsBadUnder : List (List ℕ) → (height page q : ℕ) → Type 0
IsBadUnder pages zero page q = ⊥
IsBadUnder pages (suc zero) page q = (q ≡ page) × (leaf_of (slice_index_or pages page []) ≡ None)
IsBadUnder pages (suc (suc h)) page q =
    ((q ≡ page) × (inner_of (length pages) (slice_index_or pages page []) ≡ None))
    ⊎ ((child : ℕ) × HasChild (length pages) (slice_index_or pages page []) child × IsBadUnder pages (suc h) child q)

-- where the pages are told, one that is said to be damaged is bad itself
abbrev pub NamesBad : Option (List (List ℕ)) → (height page : ℕ) → Stop → Type 0
NamesBad told height page Device = Unit {0}
NamesBad told height page Memory = Unit {0}
NamesBad told height page (Damaged q) = (pages : List (List ℕ)) → told ≡ Some pages → IsBadUnder pages height page q

-- all pages but one have the bytes that they had
abbrev pub OthersStay : ℕ → List (List ℕ) → List (List ℕ) → Type 0
OthersStay page old new = (q : ℕ) → q ≢ page → slice_index_or new q [] ≡ slice_index_or old q []

-- a page over 0 is said to be damaged only at height 1, where one of two leaves was only read, and is no leaf
abbrev pub NamesSpare : Option (List (List ℕ)) → (height spare : ℕ) → Stop → Type 0
NamesSpare told height spare e = (q : ℕ) → e ≡ Damaged q → q ≢ 0 → (height ≡ 1) × (spare ≢ 0) × NamesBad told 1 spare e

-- a leaf beside another child of an inner page, and what is said to be damaged is that it is none
pub record IsBeside (told : Option (List (List ℕ))) (height : ℕ) (inner : Inner) (i : ℕ) (e : Stop) : Type 0 where
  pub two : height ≡ 2
  pub place : ℕ
  pub in_range : place < length inner.children
  pub other : slice_index inner.children place ≢ slice_index inner.children i
  pub bad : NamesBad told 1 (slice_index inner.children place) e

-- a page over 0 is said to be damaged only where it is a leaf beside child i
abbrev pub NamesBeside : Option (List (List ℕ)) → ℕ → Inner → ℕ → Stop → Type 0
NamesBeside told height inner i e = (q : ℕ) → e ≡ Damaged q → q ≢ 0 → IsBeside told height inner i e
