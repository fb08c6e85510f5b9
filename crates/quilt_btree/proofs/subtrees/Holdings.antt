-- Each subtree has a record, and so the keys between children ascend strictly from the bound below.
use Rattle.std.proofs.Common.{◌≡◌, ℕ, zero, suc, ◌≤◌, Bool, true, false, ◌&&◌, List, [], ◌∷◌, ◌++◌, length, map, Option, Some, slice_index_or, refl, ◌∙◌, ap}
use Rattle.std.proofs.lemmas.Bool.{and_from, and_parts}
use Rattle.std.proofs.Common.{subst, arith}
use Rattle.std.specs.Ordering.{is_lt, is_le}
use Rattle.quilt_record.specs.declared.key.Key.{Key}
use Rattle.quilt_record.specs.declared.record.Record.{Record}
use Rattle.quilt_record.specs.Records.{key_cmp}
use Rattle.quilt_node.specs.Pages.{is_ascending}
use Rattle.quilt_node.specs.Tree.{Bounds, bounded, are_within}
use Rattle.quilt_btree.specs.Subtree.{Reading, Row, Subtree}
use Rattle.quilt_record.proofs.Orders.{le_lt}
use Rattle.quilt_btree.proofs.subtrees.Trees.{SpellsRow, leaf_list, inner_list, subtree_rises}

-- a list with a first record
pub record HasSome (rs : List Record) : Type 0 where
  pub first : Record
  pub more : List Record
  pub is : rs ≡ first ∷ more

long_some : (rs : List Record) → 1 ≤ length rs → HasSome rs
long_some [] h = absurd (omega arith)
long_some (r ∷ rs) h = record { first = r; more = rs; is = refl }

some_before : (rs first rest : List Record) → rs ≡ first ++ rest → HasSome first → HasSome rs
some_before rs first rest e s = record { first = s.first; more = s.more ++ rest; is = e ∙ ap (λ l. l ++ rest) s.is }

row_some : {S : Reading} → ((c : ℕ × Bounds) (rs : List Record) (used : List ℕ) → S c rs used → HasSome rs)
    → (cs : List ℕ) (ks : List Key) (b : Bounds) (rs : List Record) (used : List ℕ) → 1 ≤ length cs
    → Row S (bounded cs ks b) rs used → HasSome rs
row_some one [] ks b rs used some row = absurd (omega arith)
row_some one (c ∷ cs) [] b rs used some row = some_before rs row.first row.rest row.records (one (c, b) row.first row.first_used row.here)
row_some one (c ∷ cs) (k ∷ ks) b rs used some row =
    some_before rs row.first row.rest row.records (one (c, record { low = b.low; high = Some k }) row.first row.first_used row.here)

pub subtree_some : (pages : List (List ℕ)) (height : ℕ) (is_root : Bool) (at : ℕ × Bounds) (rs : List Record) (used : List ℕ)
    → Subtree pages height is_root at rs used → HasSome rs
subtree_some pages zero is_root at rs used s = absurd s
subtree_some pages (suc zero) is_root at rs used s = long_some rs (leaf_list (slice_index_or pages at.0 []) rs s.page).least
subtree_some pages (suc (suc height)) is_root at rs used s =
    let two = (inner_list (length pages) (slice_index_or pages at.0 []) s.inner s.page).least in
    row_some {S = Subtree pages (suc height) false} (λ c ss u t. subtree_some pages (suc height) false c ss u t) s.inner.children s.inner.keys at.1 rs
    s.under (omega arith) s.children

-- the bound below is strictly smaller than the one above where a record lies between
pub low_strict : (low : Key) (high : Key) (rs : List Record) → HasSome rs
    → are_within (record { low = Some low; high = Some high }) (map (λ r. r.key) rs) ≡ true → is_lt (key_cmp low high) ≡ true
low_strict low high rs s w =
    let here : are_within (record { low = Some low; high = Some high }) (map (λ (r : Record). r.key) (s.first ∷ s.more)) ≡ true =
    subst (λ (l : List Record). are_within (record { low = Some low; high = Some high }) (map (λ r. r.key) l) ≡ true) s.is w in
    let t = and_parts (is_le (key_cmp low s.first.key) && is_lt (key_cmp s.first.key high))
    (are_within (record { low = Some low; high = Some high }) (map (λ (r : Record). r.key) s.more)) here in
    let u = and_parts (is_le (key_cmp low s.first.key)) (is_lt (key_cmp s.first.key high)) t.0 in
    le_lt low s.first.key high u.0 u.1

pub ascends_from : (pages : List (List ℕ)) (height : ℕ) (cs : List ℕ) (ks : List Key) (low : Key) (high : Option Key) {rs : List Record}
    → (1 ≤ length cs) × (is_ascending ks ≡ true)
    → SpellsRow (Subtree pages (suc height) false) (bounded cs ks (record { low = Some low; high = high })) rs → is_ascending (low ∷ ks) ≡ true
ascends_from pages height [] ks low high p r = absurd (let some = p.0 in omega arith)
ascends_from pages height (c ∷ cs) [] low high p r = refl
ascends_from pages height (c ∷ cs) (k ∷ ks) low high p r =
    let row = r.row in
    let at : ℕ × Bounds = (c, record { low = Some low; high = Some k }) in
    let rises = subtree_rises pages (suc height) false at row.first row.first_used row.here in
    and_from (is_lt (key_cmp low k)) (is_ascending (k ∷ ks))
    (low_strict low k row.first (subtree_some pages (suc height) false at row.first row.first_used row.here) rises.within) p.1
