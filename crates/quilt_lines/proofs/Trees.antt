-- The records of a tree rise by their keys, and are no more than its pages hold.
use Rattle.std.proofs.Common.{◌≡◌, ℕ, zero, suc, ◌+◌, ◌*◌, ◌≤◌, Bool, false, List, [], ◌∷◌, length, Option, refl, sym, ◌∙◌, ap, subst, arith, length-append}
use Rattle.std.proofs.Math.Nat.{suc-mul}
use Rattle.quilt_loc.specs.Codes.{Rises}
use Rattle.quilt_record.specs.declared.key.Key.{Key}
use Rattle.quilt_record.specs.declared.record.Record.{Record}
use Rattle.std.specs.Prelude.{Some, slice_index_or}
use Rattle.quilt_node.specs.Tree.{Bounds, bounded}
use Rattle.quilt_spell.specs.Written.{by_key}
use Rattle.quilt_edits.proofs.Ascents.{ascending_rises}
use Rattle.quilt_btree.specs.declared.tree.Tree.{Tree}
use Rattle.quilt_btree.specs.Subtree.{Reading, Row, Subtree}
use Rattle.quilt_btree.specs.Trees.{IsTree}
use Rattle.quilt_btree.proofs.subtrees.Trees.{subtree_rises, leaf_list, inner_list}
use Rattle.quilt_btree.proofs.subtrees.Whole.{tree_spells, no_records}

rises_at : (told : Option (List (List ℕ))) (t : Tree) (rs : List Record) (height : ℕ) → t.height ≡ height → IsTree told t rs → Rises by_key rs
rises_at told t rs zero e is = subst (Rises by_key) (sym (no_records told t rs e is)) tt
rises_at told t rs (suc h) e is =
    let s = (tree_spells told t rs (let some : 1 ≤ t.height = omega arith in λ z. omega arith) is).0 in
    ascending_rises rs (subtree_rises s.pages t.height s.is_root (t.root, s.bounds) rs s.used s.subtree).ascends

pub tree_rises : (told : Option (List (List ℕ))) (t : Tree) (rs : List Record) → IsTree told t rs → Rises by_key rs
tree_rises told t rs is = rises_at told t rs t.height refl is

-- ---- how many records there are at most
length_bounded : (cs : List ℕ) (ks : List Key) (b : Bounds) → length (bounded cs ks b) ≡ length cs
length_bounded [] ks b = refl
length_bounded (c ∷ cs) [] b = ap suc (length_bounded cs [] b)
length_bounded (c ∷ cs) (k ∷ ks) b = ap suc (length_bounded cs ks (record { low = Some k; high = b.high }))

row_few : (S : Reading) (most : ℕ) → ((c : ℕ × Bounds) (rs : List Record) (used : List ℕ) → S c rs used → length rs ≤ most)
    → (cs : List (ℕ × Bounds)) (rs : List Record) (used : List ℕ) → Row S cs rs used → length rs ≤ length cs * most
row_few S most one [] rs used row = none (length rs) most (ap length row.0)
  where
    none : (r m : ℕ) → r ≡ 0 → r ≤ 0 * m
    none r m e = omega arith
row_few S most one (c ∷ cs) rs used row =
    let all : length rs ≡ length row.first + length row.rest = ap length row.records ∙ length-append row.first row.rest in
    one_more (suc (length cs) * most) (length cs * most) (length rs) (length row.first) (length row.rest) most (suc-mul (length cs) most) all
    (one c row.first row.first_used row.here)
    (row_few S most one cs row.rest row.rest_used row.after)
  where
    one_more : (n m r s t l : ℕ) → n ≡ m + l → r ≡ s + t → s ≤ l → t ≤ m → r ≤ n
    one_more n m r s t l e p q h = omega arith

leaf_few : (pages : List (List ℕ)) (is_root : Bool) (at : ℕ × Bounds) (rs : List Record) (used : List ℕ) → Subtree pages 1 is_root at rs used → length rs ≤ 144
leaf_few pages is_root at rs used s = (leaf_list (slice_index_or pages at.0 []) rs s.page).most

second_few : (pages : List (List ℕ)) (is_root : Bool) (at : ℕ × Bounds) (rs : List Record) (used : List ℕ)
    → Subtree pages 2 is_root at rs used → length rs ≤ 36576
second_few pages is_root at rs used s =
    let row = row_few (Subtree pages 1 false) 144 (leaf_few pages false) (bounded s.inner.children s.inner.keys at.1) rs s.under s.children in
    let places = length_bounded s.inner.children s.inner.keys at.1 in
    let most = (inner_list (length pages) (slice_index_or pages at.0 []) s.inner s.page).most in
    few (length (bounded s.inner.children s.inner.keys at.1)) (length s.inner.children) (length rs) places most row
  where
    few : (p c r : ℕ) → p ≡ c → c ≤ 254 → r ≤ p * 144 → r ≤ 36576
    few p c r e h g = omega arith

third_few : (pages : List (List ℕ)) (is_root : Bool) (at : ℕ × Bounds) (rs : List Record) (used : List ℕ)
    → Subtree pages 3 is_root at rs used → length rs ≤ 9290304
third_few pages is_root at rs used s =
    let row = row_few (Subtree pages 2 false) 36576 (second_few pages false) (bounded s.inner.children s.inner.keys at.1) rs s.under s.children in
    let places = length_bounded s.inner.children s.inner.keys at.1 in
    let most = (inner_list (length pages) (slice_index_or pages at.0 []) s.inner s.page).most in
    few (length (bounded s.inner.children s.inner.keys at.1)) (length s.inner.children) (length rs) places most row
  where
    few : (p c r : ℕ) → p ≡ c → c ≤ 254 → r ≤ p * 36576 → r ≤ 9290304
    few p c r e h g = omega arith

subtree_few : (pages : List (List ℕ)) (height : ℕ) (is_root : Bool) (at : ℕ × Bounds) (rs : List Record) (used : List ℕ) → height ≤ 3
    → Subtree pages height is_root at rs used → length rs ≤ 4294967295
subtree_few pages zero is_root at rs used le s = absurd s
subtree_few pages (suc zero) is_root at rs used le s = let few = leaf_few pages is_root at rs used s in omega arith
subtree_few pages (suc (suc zero)) is_root at rs used le s = let few = second_few pages is_root at rs used s in omega arith
subtree_few pages (suc (suc (suc zero))) is_root at rs used le s = let few = third_few pages is_root at rs used s in omega arith
subtree_few pages (suc (suc (suc (suc h)))) is_root at rs used le s = absurd (omega arith)

few_at : (told : Option (List (List ℕ))) (t : Tree) (rs : List Record) (height : ℕ) → t.height ≡ height → t.height ≤ 3
    → IsTree told t rs → length rs ≤ 4294967295
few_at told t rs zero e le is = let none = ap length (no_records told t rs e is) in omega arith
few_at told t rs (suc h) e le is =
    let s = (tree_spells told t rs (let some : 1 ≤ t.height = omega arith in λ z. omega arith) is).0 in
    subtree_few s.pages t.height s.is_root (t.root, s.bounds) rs s.used le s.subtree

pub tree_few : (told : Option (List (List ℕ))) (t : Tree) (rs : List Record) → t.height ≤ 3 → IsTree told t rs → length rs ≤ 4294967295
tree_few told t rs le is = few_at told t rs t.height refl le is
