-- What pages are where they are well formed, and that the records of a subtree ascend.
use Rattle.std.proofs.Common.{◌≡◌, ℕ, zero, suc, ◌+◌, ◌-◌, ◌*◌, ◌≤◌, Bool, true, false, ◌&&◌, nat_le, nat_lt, List, [], ◌∷◌, ◌++◌, length, map, Some, None}
use Rattle.std.proofs.lemmas.Bool.{and_from, and_parts, leb-true}
use Rattle.std.proofs.Common.{slice_index_or, refl, sym, ◌∙◌, ap, subst, arith}
use Rattle.std.specs.Prelude.{if◌then◌else◌}
use Rattle.std.specs.List.{list_all}
use Rattle.std.specs.Ordering.{is_lt, is_le}
use Rattle.std.specs.Str.{bytes_eq}
use Rattle.std.proofs.lemmas.List.{append-nil}
use Rattle.std.proofs.lemmas.List.FromFn.{length-map-range_with_len}
use Rattle.std.proofs.lemmas.Slice.Eq.{bytes_eq-Decides}
use Rattle.quilt_record.specs.declared.key.Key.{Key}
use Rattle.quilt_record.specs.declared.record.Record.{Record}
use Rattle.quilt_record.specs.Records.{key_cmp}
use Rattle.quilt_node.specs.Pages.{Inner, is_ascending, leaf_bytes, inner_bytes, leaf_of, inner_of, read_leaf, read_inner, short_at, word_at, key_at}
use Rattle.quilt_node.specs.Tree.{Bounds, bounded, are_within, is_above, is_below}
use Rattle.quilt_btree.specs.Subtree.{Reading, Row, Subtree}
use Rattle.quilt_record.proofs.Orders.{lt_le, lt_to_le}
use Rattle.quilt_btree.proofs.lists.Rising.{IsRising, rising_join, all_follow}

-- the height of a page's children
pub one_less : (height below : ℕ) → height ≡ suc (suc below) → height - 1 ≡ suc below
one_less height below e = omega arith

-- what a well formed leaf is
pub record IsLeafList (bytes : List ℕ) (rs : List Record) : Type 0 where
  pub least : 1 ≤ length rs
  pub most : length rs ≤ 144
  pub ascends : is_ascending (map (λ r. r.key) rs) ≡ true
  pub written : leaf_bytes rs ≡ bytes

-- what a well formed inner page is
pub record IsInnerList (pages : ℕ) (bytes : List ℕ) (inner : Inner) : Type 0 where
  pub low : 2 ≤ inner.height
  pub high : inner.height ≤ 3
  pub least : 2 ≤ length inner.children
  pub most : length inner.children ≤ 254
  pub in_range : list_all (λ c. nat_le 1 c && nat_lt c pages) inner.children ≡ true
  pub ascends : is_ascending inner.keys ≡ true
  pub keys : length inner.children ≡ length inner.keys + 1
  pub written : inner_bytes inner.height inner.children inner.keys ≡ bytes

pub some_if : {X : Type 0} (b : Bool) (x y : X) → (if b then Some x else None) ≡ Some y → (b ≡ true) × (x ≡ y)
some_if true x y h = (refl, cc)
some_if false x y h = cc

counted : (n a b : ℕ) → 2 ≤ a → a ≡ n → b ≡ n - 1 → a ≡ b + 1
counted n a b h p q = omega arith

pub leaf_list : (bytes : List ℕ) (rs : List Record) → leaf_of bytes ≡ Some rs → IsLeafList bytes rs
unfolding leaf_of
leaf_list bytes rs h =
    let ss = read_leaf bytes in
    let a = nat_le 1 (length ss) in
    let b = nat_le (length ss) 144 in
    let c = is_ascending (map (λ r. r.key) ss) in
    let d = bytes_eq (leaf_bytes ss) bytes in
    let t = some_if (a && b && c && d) ss rs h in
    let t3 = and_parts (a && b && c) d t.0 in
    let t2 = and_parts (a && b) c t3.0 in
    let t1 = and_parts a b t2.0 in
    subst (IsLeafList bytes) t.1 (record {
      least = leb-true 1 (length ss) t1.0;
      most = leb-true (length ss) 144 t1.1;
      ascends = t2.1;
      written = (bytes_eq-Decides (leaf_bytes ss) bytes).0 t3.1;
    })

pub inner_list : (pages : ℕ) (bytes : List ℕ) (inner : Inner) → inner_of pages bytes ≡ Some inner → IsInnerList pages bytes inner
unfolding inner_of
inner_list pages bytes inner h =
    let page = read_inner bytes in
    let a = nat_le 2 page.height in
    let b = nat_le page.height 3 in
    let c = nat_le 2 (length page.children) in
    let d = nat_le (length page.children) 254 in
    let e = list_all (λ c. nat_le 1 c && nat_lt c pages) page.children in
    let f = is_ascending page.keys in
    let g = bytes_eq (inner_bytes page.height page.children page.keys) bytes in
    let t = some_if (a && b && c && d && e && f && g) page inner h in
    let t6 = and_parts (a && b && c && d && e && f) g t.0 in
    let t5 = and_parts (a && b && c && d && e) f t6.0 in
    let t4 = and_parts (a && b && c && d) e t5.0 in
    let t3 = and_parts (a && b && c) d t4.0 in
    let t2 = and_parts (a && b) c t3.0 in
    let t1 = and_parts a b t2.0 in
    let least : 2 ≤ length page.children = leb-true 2 (length page.children) t2.1 in
    let many : length page.children ≡ short_at bytes 2 = length-map-range_with_len (λ i. word_at bytes (8 + 4 * i)) 0 (short_at bytes 2) in
    let fewer : length page.keys ≡ short_at bytes 2 - 1 = length-map-range_with_len (λ i. key_at bytes (1024 + 12 * i)) 0 (short_at bytes 2 - 1) in
    subst (IsInnerList pages bytes) t.1 (record {
      low = leb-true 2 page.height t1.0;
      high = leb-true page.height 3 t1.1;
      least = least;
      most = leb-true (length page.children) 254 t3.1;
      in_range = t4.1;
      ascends = t5.1;
      keys = counted (short_at bytes 2) (length page.children) (length page.keys) least many fewer;
      written = (bytes_eq-Decides (inner_bytes page.height page.children page.keys) bytes).0 t6.1;
    })

pub ascending_first : (k : Key) (ks : List Key) → is_ascending (k ∷ ks) ≡ true → list_all (λ l. is_lt (key_cmp k l)) ks ≡ true
ascending_first k [] h = refl
ascending_first k (l ∷ ks) h =
    let t = and_parts (is_lt (key_cmp k l)) (is_ascending (l ∷ ks)) h in
    and_from (is_lt (key_cmp k l)) (list_all (λ m. is_lt (key_cmp k m)) ks) t.0
    (all_follow (λ m. is_lt (key_cmp l m)) (λ m. is_lt (key_cmp k m)) (λ m g. lt_le k l m t.0 (lt_to_le (key_cmp l m) g)) ks (ascending_first l ks t.1))

pub ascending_rest : (k : Key) (ks : List Key) → is_ascending (k ∷ ks) ≡ true → is_ascending ks ≡ true
ascending_rest k [] h = refl
ascending_rest k (l ∷ ks) h = (and_parts (is_lt (key_cmp k l)) (is_ascending (l ∷ ks)) h).1

pub all_both : {X : Type 0} (p q : X → Bool) (xs : List X) → list_all p xs ≡ true → list_all q xs ≡ true → list_all (λ x. p x && q x) xs ≡ true
all_both p q [] h g = refl
all_both p q (x ∷ xs) h g =
    let s = and_parts (p x) (list_all p xs) h in
    let t = and_parts (q x) (list_all q xs) g in
    and_from (p x && q x) (list_all (λ y. p y && q y) xs) (and_from (p x) (q x) s.0 t.0) (all_both p q xs s.1 t.1)

-- the keys between children, behind the first of them
pub within_rest : (b : Bounds) (k : Key) (ks : List Key) → is_ascending (k ∷ ks) ≡ true → are_within b (k ∷ ks) ≡ true
    → are_within (record { low = Some k; high = b.high }) ks ≡ true
within_rest b k ks a w =
    let t = and_parts (is_above b.low k && is_below b.high k) (are_within b ks) w in
    all_both (λ l. is_le (key_cmp k l)) (is_below b.high) ks
    (all_follow (λ l. is_lt (key_cmp k l)) (λ l. is_le (key_cmp k l)) (λ l h. lt_to_le (key_cmp k l) h) ks (ascending_first k ks a))
    (all_follow (λ l. is_above b.low l && is_below b.high l) (is_below b.high) (λ l h. (and_parts (is_above b.low l) (is_below b.high l) h).1) ks t.1)

pub keys_append : (xs ys : List Record) → map (λ (r : Record). r.key) (xs ++ ys) ≡ map (λ r. r.key) xs ++ map (λ r. r.key) ys
keys_append [] ys = refl
keys_append (x ∷ xs) ys = ap (λ l. x.key ∷ l) (keys_append xs ys)

-- the places from left to right spell these records, in some pages
pub record SpellsRow (S : Reading) (places : List (ℕ × Bounds)) (rs : List Record) : Type 0 where
  pub used : List ℕ
  pub row : Row S places rs used

-- so many children with these keys between them, which ascend within bounds
pub record KeysFit (children : ℕ) (ks : List Key) (b : Bounds) : Type 0 where
  pub many : children ≡ length ks + 1
  pub ascends : is_ascending ks ≡ true
  pub within : are_within b ks ≡ true

-- the records of rising children rise
pub row_rises : {S : Reading} → ((c : ℕ × Bounds) (rs : List Record) (used : List ℕ) → S c rs used → IsRising c.1 (map (λ r. r.key) rs))
    → (cs : List ℕ) (ks : List Key) (b : Bounds) (rs : List Record) (used : List ℕ) → KeysFit (length cs) ks b
    → Row S (bounded cs ks b) rs used → IsRising b (map (λ r. r.key) rs)
row_rises one [] ks b rs used f row = absurd (no_child (length ks) f.many)
  where
    no_child : (n : ℕ) → 0 ≡ n + 1 → ⊥
    no_child n h = omega arith
row_rises one (c ∷ []) [] b rs used f row =
    let same : rs ≡ row.first = row.records ∙ ap (λ l. row.first ++ l) row.after.0 ∙ append-nil row.first in
    subst (λ (l : List Record). IsRising b (map (λ r. r.key) l)) (sym same) (one (c, b) row.first row.first_used row.here)
row_rises one (c ∷ d ∷ cs) [] b rs used f row = absurd (more (length cs) f.many)
  where
    more : (n : ℕ) → suc (suc n) ≡ 0 + 1 → ⊥
    more n h = omega arith
row_rises one (c ∷ cs) (k ∷ ks) b rs used f row =
    let t = and_parts (is_above b.low k && is_below b.high k) (are_within b ks) f.within in
    let u = and_parts (is_above b.low k) (is_below b.high k) t.0 in
    let first = one (c, record { low = b.low; high = Some k }) row.first row.first_used row.here in
    let rest = row_rises one cs ks (record { low = Some k; high = b.high }) row.rest row.rest_used
    (record { many = fewer (length cs) (length ks) f.many; ascends = ascending_rest k ks f.ascends; within = within_rest b k ks f.ascends f.within })
    row.after in
    subst (λ (l : List Record). IsRising b (map (λ r. r.key) l)) (sym row.records)
    (subst (IsRising b) (sym (keys_append row.first row.rest))
    (rising_join b k (map (λ r. r.key) row.first) (map (λ r. r.key) row.rest) u.0 u.1 first rest))
  where
    fewer : (m n : ℕ) → suc m ≡ suc n + 1 → m ≡ n + 1
    fewer m n h = omega arith

-- The records of a subtree ascend strictly, and lie within its bounds.
pub subtree_rises : (pages : List (List ℕ)) (height : ℕ) (is_root : Bool) (at : ℕ × Bounds) (rs : List Record) (used : List ℕ)
    → Subtree pages height is_root at rs used → IsRising at.1 (map (λ r. r.key) rs)
subtree_rises pages zero is_root at rs used s = absurd s
subtree_rises pages (suc zero) is_root at rs used s =
    record { ascends = (leaf_list (slice_index_or pages at.0 []) rs s.page).ascends; within = s.within }
subtree_rises pages (suc (suc height)) is_root at rs used s =
    let page = inner_list (length pages) (slice_index_or pages at.0 []) s.inner s.page in
    row_rises {S = Subtree pages (suc height) false} (λ c ss u t. subtree_rises pages (suc height) false c ss u t)
    s.inner.children s.inner.keys at.1 rs s.under (record { many = page.keys; ascends = page.ascends; within = s.within }) s.children
