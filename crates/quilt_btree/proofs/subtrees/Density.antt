-- How many pages a tree uses for its records.
use Rattle.std.proofs.Common.{◌≡◌, ℕ, zero, suc, ◌+◌, ◌-◌, ◌*◌, ◌<◌, ◌≤◌, true, false, ◌||◌, nat_le, Bool, List, [], ◌∷◌, length, Some, slice_index_or, refl, ◌∙◌, ap, arith}
use Rattle.std.proofs.Common.{length-append}
use Rattle.std.proofs.Math.Nat.{suc-mul}
use Rattle.std.proofs.lemmas.Bool.Decides.{nat_tests}
use Rattle.quilt_types.specs.Facts.{quota}
use Rattle.quilt_record.specs.declared.key.Key.{Key}
use Rattle.quilt_record.specs.declared.record.Record.{Record}
use Rattle.quilt_node.specs.Pages.{Inner, inner_of}
use Rattle.quilt_node.specs.Tree.{Bounds, bounded}
use Rattle.quilt_btree.specs.Subtree.{Reading, Row, Subtree}

le_test : (m n : ℕ) → (false || nat_le m n) ≡ true → m ≤ n
le_test m n h = grind (arith, nat_tests)

-- a row of subtrees with so many records each
row_filled : (S : Reading) (least : ℕ) → ((c : ℕ × Bounds) (rs : List Record) (used : List ℕ) → S c rs used → least ≤ length rs)
    → (cs : List (ℕ × Bounds)) (rs : List Record) (used : List ℕ) → Row S cs rs used → length cs * least ≤ length rs
row_filled S least one [] rs used row = nothing (length rs) least
  where
    nothing : (r l : ℕ) → 0 * l ≤ r
    nothing r l = omega arith
row_filled S least one (c ∷ cs) rs used row =
    let all : length rs ≡ length row.first + length row.rest = ap length row.records ∙ length-append row.first row.rest in
    one_more (length cs * least) (length row.first) (length row.rest) least (suc-mul (length cs) least) all
    (one c row.first row.first_used row.here) (row_filled S least one cs row.rest row.rest_used row.after)
  where
    one_more : {n : ℕ} (m : ℕ) {r : ℕ} (s t l : ℕ) → n ≡ m + l → r ≡ s + t → l ≤ s → m ≤ t → n ≤ r
    one_more m s t l e p q h = omega arith

length_bounded : (cs : List ℕ) (ks : List Key) (b : Bounds) → length (bounded cs ks b) ≡ length cs
length_bounded [] ks b = refl
length_bounded (c ∷ cs) [] b = ap suc (length_bounded cs [] b)
length_bounded (c ∷ cs) (k ∷ ks) b = ap suc (length_bounded cs ks (record { low = Some k; high = b.high }))

-- the least number of records below a page that is not the root
pub leaf_filled : (pages : List (List ℕ)) (at : ℕ × Bounds) (rs : List Record) (used : List ℕ) → Subtree pages 1 false at rs used → 72 ≤ length rs
leaf_filled pages at rs used s = le_test 72 (length rs) s.enough

pub second_filled : (pages : List (List ℕ)) (at : ℕ × Bounds) (rs : List Record) (used : List ℕ) → Subtree pages 2 false at rs used → 9144 ≤ length rs
second_filled pages at rs used s =
    let row = row_filled (Subtree pages 1 false) 72 (leaf_filled pages) (bounded s.inner.children s.inner.keys at.1) rs s.under s.children in
    let places = length_bounded s.inner.children s.inner.keys at.1 in
    filled (length (bounded s.inner.children s.inner.keys at.1)) (length s.inner.children) (length rs) places
    (le_test 127 (length s.inner.children) s.enough) row
  where
    filled : (p c r : ℕ) → p ≡ c → 127 ≤ c → p * 72 ≤ r → 9144 ≤ r
    filled p c r e h g = omega arith

pub third_filled : (pages : List (List ℕ)) (at : ℕ × Bounds) (rs : List Record) (used : List ℕ) → Subtree pages 3 false at rs used → 1161288 ≤ length rs
third_filled pages at rs used s =
    let row = row_filled (Subtree pages 2 false) 9144 (second_filled pages) (bounded s.inner.children s.inner.keys at.1) rs s.under s.children in
    let places = length_bounded s.inner.children s.inner.keys at.1 in
    filled (length (bounded s.inner.children s.inner.keys at.1)) (length s.inner.children) (length rs) places
    (le_test 127 (length s.inner.children) s.enough) row
  where
    filled : (p c r : ℕ) → p ≡ c → 127 ≤ c → p * 9144 ≤ r → 1161288 ≤ r
    filled p c r e h g = omega arith

-- a page of height 3 with few records below it has a place for another child
pub few_children : (pages : List (List ℕ)) {is_root : Bool} (at : ℕ × Bounds) {rs : List Record} {used : List ℕ} (inner : Inner)
    → Subtree pages 3 is_root at rs used → inner_of (length pages) (slice_index_or pages at.0 []) ≡ Some inner → length rs < 2322576
    → length inner.children < 254
few_children pages at {rs} inner s is few =
    let row = row_filled (Subtree pages 2 false) 9144 (second_filled pages) (bounded s.inner.children s.inner.keys at.1) rs s.under s.children in
    let places = length_bounded s.inner.children s.inner.keys at.1 in
    let page = s.page in
    let same : s.inner ≡ inner = cc in
    below (length (bounded s.inner.children s.inner.keys at.1)) (length s.inner.children) (length inner.children) (length rs) places
    (ap (λ (i : Inner). length i.children) same) row few
  where
    below : (p c n r : ℕ) → p ≡ c → c ≡ n → p * 9144 ≤ r → r < 2322576 → n < 254
    below p c n r e f h g = omega arith

-- a row of leaves has as many pages as places
row_of_leaves : (pages : List (List ℕ)) (cs : List (ℕ × Bounds)) (rs : List Record) (used : List ℕ)
    → Row (Subtree pages 1 false) cs rs used → length used ≡ length cs
row_of_leaves pages [] rs used row = ap length row.1
row_of_leaves pages (c ∷ cs) rs used row =
    let more = row_of_leaves pages cs row.rest row.rest_used row.after in
    let leaf = row.here in
    let one : length row.first_used ≡ 1 = ap length leaf.is_used in
    let both : length used ≡ length row.rest_used + length row.first_used = ap length row.is_used ∙ length-append row.rest_used row.first_used in
    pages_so (length cs) (length used) (length row.rest_used) (length row.first_used) both one more
  where
    pages_so : (n u v w : ℕ) → u ≡ v + w → w ≡ 1 → v ≡ n → u ≡ suc n
    pages_so n u v w p q r = omega arith

-- a subtree of few pages for its records
abbrev pub IsDense : List Record → List ℕ → Type 0
IsDense rs used = 9144 * length used ≤ 128 * length rs

row_is_dense : (S : Reading) → ((c : ℕ × Bounds) (rs : List Record) (used : List ℕ) → S c rs used → IsDense rs used)
    → (cs : List (ℕ × Bounds)) (rs : List Record) (used : List ℕ) → Row S cs rs used → IsDense rs used
row_is_dense S one [] rs used row = nothing (length used) (length rs) (ap length row.1)
  where
    nothing : (u r : ℕ) → u ≡ 0 → 9144 * u ≤ 128 * r
    nothing u r h = omega arith
row_is_dense S one (c ∷ cs) rs used row =
    let first = one c row.first row.first_used row.here in
    let rest = row_is_dense S one cs row.rest row.rest_used row.after in
    let all : length rs ≡ length row.first + length row.rest = ap length row.records ∙ length-append row.first row.rest in
    let both : length used ≡ length row.rest_used + length row.first_used = ap length row.is_used ∙ length-append row.rest_used row.first_used in
    summed (length row.rest_used) (length row.first_used) (length row.first) (length row.rest) both all first rest
  where
    summed : {u : ℕ} (v w : ℕ) {r : ℕ} (s t : ℕ) → u ≡ v + w → r ≡ s + t → 9144 * w ≤ 128 * s → 9144 * v ≤ 128 * t → 9144 * u ≤ 128 * r
    summed v w s t p q g h = omega arith

pub leaf_is_dense : (pages : List (List ℕ)) (at : ℕ × Bounds) (rs : List Record) (used : List ℕ) → Subtree pages 1 false at rs used → IsDense rs used
leaf_is_dense pages at rs used s =
    let one : length used ≡ 1 = ap length s.is_used in
    dense (length used) (length rs) one (leaf_filled pages at rs used s)
  where
    dense : (u r : ℕ) → u ≡ 1 → 72 ≤ r → 9144 * u ≤ 128 * r
    dense u r p q = omega arith

pub inner_is_dense : (pages : List (List ℕ)) (at : ℕ × Bounds) (rs : List Record) (used : List ℕ) → Subtree pages 2 false at rs used → IsDense rs used
inner_is_dense pages at rs used s =
    let cs = bounded s.inner.children s.inner.keys at.1 in
    let filled = row_filled (Subtree pages 1 false) 72 (leaf_filled pages) cs rs s.under s.children in
    let many = row_of_leaves pages cs rs s.under s.children in
    let all : length used ≡ length s.under + 1 = ap length s.is_used ∙ length-append s.under (at.0 ∷ []) in
    dense (length rs) all many filled
    (length_bounded s.inner.children s.inner.keys at.1) (le_test 127 (length s.inner.children) s.enough)
  where
    dense : {u v : ℕ} (r : ℕ) {p c : ℕ} → u ≡ v + 1 → v ≡ p → p * 72 ≤ r → p ≡ c → 127 ≤ c → 9144 * u ≤ 128 * r
    dense r a b d e f = omega arith

but_one : (u v r : ℕ) → u ≡ v + 1 → 9144 * v ≤ 128 * r → 9144 * (u - 1) ≤ 128 * r
but_one u v r p h = omega arith

-- a whole tree: all but its root are dense
pub root_is_dense : (pages : List (List ℕ)) (height : ℕ) (at : ℕ × Bounds) (rs : List Record) (used : List ℕ) → height ≤ 3
    → Subtree pages height true at rs used → 9144 * (length used - 1) ≤ 128 * length rs
root_is_dense pages zero at rs used low s = absurd s
root_is_dense pages (suc zero) at rs used low s =
    let one : length used ≡ 1 = ap length s.is_used in
    small (length used) (length rs) one
  where
    small : (u r : ℕ) → u ≡ 1 → 9144 * (u - 1) ≤ 128 * r
    small u r h = omega arith
root_is_dense pages (suc (suc zero)) at rs used low s =
    let row = row_is_dense (Subtree pages 1 false) (leaf_is_dense pages) (bounded s.inner.children s.inner.keys at.1) rs s.under s.children in
    let all : length used ≡ length s.under + 1 = ap length s.is_used ∙ length-append s.under (at.0 ∷ []) in
    but_one (length used) (length s.under) (length rs) all row
root_is_dense pages (suc (suc (suc zero))) at rs used low s =
    let row = row_is_dense (Subtree pages 2 false) (inner_is_dense pages) (bounded s.inner.children s.inner.keys at.1) rs s.under s.children in
    let all : length used ≡ length s.under + 1 = ap length s.is_used ∙ length-append s.under (at.0 ∷ []) in
    but_one (length used) (length s.under) (length rs) all row
root_is_dense pages (suc (suc (suc (suc h)))) at rs used low s = absurd (omega arith)

-- A tree within the quota leaves more than six pages.
pub pages_left : (n u r : ℕ) → 16 ≤ n → r ≤ quota n → 9144 * (u - 1) ≤ 128 * r → u + 6 < n
pages_left n u r least few dense = omega arith
