-- A child behind another one, where a key parts the two.
use Rattle.std.proofs.Common.{◌≡◌, ℕ, zero, suc, ◌+◌, ◌<◌, true, ◌&&◌, List, [], ◌∷◌, ◌++◌, length, take, drop, Option, Some, slice_index}
use Rattle.std.proofs.lemmas.Bool.{and_from, and_parts}
use Rattle.std.proofs.Common.{refl, sym, ◌∙◌, ap, subst, arith, take-append-drop}
use Rattle.std.specs.List.{insert, list_all}
use Rattle.std.specs.Ordering.{is_lt}
use Rattle.quilt_record.specs.declared.key.Key.{Key}
use Rattle.quilt_record.specs.Records.{key_cmp}
use Rattle.quilt_node.specs.Pages.{Inner, is_ascending}
use Rattle.quilt_node.specs.Tree.{Bounds, bounded, are_within, is_above, is_below}
use Rattle.quilt_node.proofs.Ascending.{ascending_insert, ascending_take, ascending_drop}
use Rattle.quilt_record.proofs.Orders.{lt_le, lt_to_le}
use Rattle.quilt_btree.proofs.lists.Rising.{all_follow, all_parts, all_append, above_on, below_on}
use Rattle.quilt_btree.proofs.subtrees.Trees.{ascending_first, ascending_rest}
use Rattle.quilt_btree.proofs.rows.Places.{front, from_keys, head_bounds, tail_places, bounded_front, bounded_head, high_from, head_low}
use Rattle.quilt_btree.proofs.subtrees.Descents.{child_bounds, as_long, behind_many}
use Rattle.quilt_btree.proofs.lists.Fitting.{are_under, are_over}

insert_next : (cs : List ℕ) (i x : ℕ) → i < length cs → insert cs (suc i) x ≡ take i cs ++ slice_index cs i ∷ x ∷ drop (suc i) cs
insert_next [] i x lt = absurd (omega arith)
insert_next (c ∷ cs) zero x lt = refl
insert_next (c ∷ cs) (suc i) x lt = let less : i < length cs = omega arith in ap (λ l. c ∷ l) (insert_next cs i x less)

head_again : (ks : List Key) (b : Bounds) (key : Key)
    → head_bounds ks (record { low = Some key; high = b.high }) ≡ record { low = Some key; high = (head_bounds ks b).high }
head_again [] b key = refl
head_again (k ∷ ks) b key = refl

tail_again : (cs : List ℕ) (ks : List Key) (b : Bounds) (key : Key) → length cs ≡ length ks
    → tail_places cs ks (record { low = Some key; high = b.high }) ≡ tail_places cs ks b
tail_again [] [] b key n = refl
tail_again (c ∷ cs) [] b key n = absurd (omega arith)
tail_again cs (k ∷ ks) b key n = refl

-- the two children that one became, with their bounds
abbrev pub two_places : ℕ → ℕ → Key → Bounds → List (ℕ × Bounds)
two_places c right key b = (c, record { low = b.low; high = Some key }) ∷ (right, record { low = Some key; high = b.high }) ∷ []

-- keys whose last is below another key are below it
under_from : (ks : List Key) (b : Bounds) (key : Key) → is_ascending ks ≡ true
    → ((l : Key) → (from_keys ks b).low ≡ Some l → is_lt (key_cmp l key) ≡ true) → are_under key ks ≡ true
under_from [] b key a f = refl
under_from (k ∷ []) b key a f = and_from (is_lt (key_cmp k key)) true (f k refl) refl
under_from (k ∷ l ∷ ks) b key a f =
    let more = under_from (l ∷ ks) (record { low = Some k; high = b.high }) key (ascending_rest k (l ∷ ks) a) f in
    let next = (and_parts (is_lt (key_cmp l key)) (are_under key ks) more).0 in
    let first = (and_parts (is_lt (key_cmp k l)) (is_ascending (l ∷ ks)) a).0 in
    and_from (is_lt (key_cmp k key)) (are_under key (l ∷ ks)) (lt_le k l key first (lt_to_le (key_cmp l key) next)) more

over_from : (ks : List Key) (b : Bounds) (key : Key) → is_ascending ks ≡ true → is_below (head_bounds ks b).high key ≡ true → are_over key ks ≡ true
over_from [] b key a h = refl
over_from (k ∷ ks) b key a h = and_from (is_lt (key_cmp key k)) (are_over key ks) h
    (all_follow (λ l. is_lt (key_cmp k l)) (λ l. is_lt (key_cmp key l)) (λ l g. lt_le key k l h (lt_to_le (key_cmp k l) g)) ks (ascending_first k ks a))

above_all : (ks : List Key) (b : Bounds) (key : Key) → are_within b ks ≡ true → are_under key ks ≡ true → is_above (from_keys ks b).low key ≡ true
    → is_above b.low key ≡ true
above_all [] b key w u h = h
above_all (k ∷ ks) b key w u h =
    let t = and_parts (is_above b.low k && is_below b.high k) (are_within b ks) w in
    above_on b.low k key (and_parts (is_above b.low k) (is_below b.high k) t.0).0
    (lt_to_le (key_cmp k key) (and_parts (is_lt (key_cmp k key)) (are_under key ks) u).0)

below_all : (ks : List Key) (c : Bounds) (high : Option Key) (key : Key) → c.high ≡ high → list_all (is_below high) ks ≡ true
    → is_below (head_bounds ks c).high key ≡ true → is_below high key ≡ true
below_all [] c high key e w h = subst (λ o. is_below o key ≡ true) e h
below_all (k ∷ ks) c high key e w h = below_on high k key (and_parts (is_below high k) (list_all (is_below high) ks) w).0 h

-- a key that parts the child at a place keeps the order and the bounds
pub record IsFitting (inner : Inner) (b : Bounds) (i : ℕ) (key : Key) : Type 0 where
  pub ascends : is_ascending (insert inner.keys i key) ≡ true
  pub within : are_within b (insert inner.keys i key) ≡ true

module _ (inner : Inner) (b : Bounds) (i : ℕ) (key : Key) where
  pub bounded_next : (right : ℕ) → i < length inner.children → length inner.children ≡ length inner.keys + 1
      → bounded (insert inner.children (suc i) right) (insert inner.keys i key) b ≡ front (take i inner.children)
      (take i inner.keys) b ++ (two_places (slice_index inner.children i) right key (child_bounds inner b i) ++ tail_places (drop (suc i) inner.children) (drop i inner.keys) (from_keys (take i inner.keys) b))
  bounded_next right lt n =
      let ca = take i inner.children in
      let ka = take i inner.keys in
      let kb = drop i inner.keys in
      let cb = drop (suc i) inner.children in
      let c = slice_index inner.children i in
      let B = from_keys ka b in
      let after : Bounds = record { low = Some key; high = B.high } in
      ap (λ l. bounded l (ka ++ key ∷ kb) b) (insert_next inner.children i right lt)
      ∙ bounded_front ca (c ∷ right ∷ cb) ka (key ∷ kb) b (as_long inner i lt n)
      ∙ ap (λ l. front ca ka b ++ (c, record { low = B.low; high = Some key }) ∷ l) (bounded_head right cb kb after
      ∙ ap (λ x. (right, x) ∷ tail_places cb kb after) (head_again kb B key)
      ∙ ap (λ l. (right, record { low = Some key; high = (head_bounds kb B).high }) ∷ l) (tail_again cb kb B key (behind_many inner.children inner.keys i n)))
      ∙ ap (λ o. front ca ka b ++ (c, record { low = o; high = Some key }) ∷ (right, record { low = Some key; high = (head_bounds kb B).high })
      ∷ tail_places cb kb B) (sym (head_low kb B))

  pub is_fitting : is_ascending inner.keys ≡ true → are_within b inner.keys ≡ true
      → ((l : Key) → (child_bounds inner b i).low ≡ Some l → is_lt (key_cmp l key) ≡ true) → is_above (child_bounds inner b i).low key ≡ true
      → is_below (child_bounds inner b i).high key ≡ true → IsFitting inner b i key
  is_fitting a w f above below =
      let ka = take i inner.keys in
      let kb = drop i inner.keys in
      let B = from_keys ka b in
      let low : (child_bounds inner b i).low ≡ B.low = head_low kb B in
      let split = sym (take-append-drop i inner.keys) in
      let parts = all_parts (λ k. is_above b.low k && is_below b.high k) ka kb (subst (λ l. are_within b l ≡ true) split w) in
      let under = under_from ka b key (ascending_take inner.keys i a) (λ l e. f l (low ∙ e)) in
      let over = over_from kb B key (ascending_drop inner.keys i a) below in
      let is_low = above_all ka b key parts.0 under (subst (λ o. is_above o key ≡ true) low above) in
      let is_high =
      below_all kb B b.high key (high_from ka b)
      (all_follow (λ k. is_above b.low k && is_below b.high k) (is_below b.high)
      (λ k h. (and_parts (is_above b.low k) (is_below b.high k) h).1) kb parts.1) below in
      record {
        ascends = ascending_insert key inner.keys i a under over;
        within = all_append (λ k. is_above b.low k && is_below b.high k) ka (key ∷ kb) parts.0
            (and_from (is_above b.low key && is_below b.high key) (are_within b kb) (and_from (is_above b.low key) (is_below b.high key) is_low is_high) parts.1);
      }
