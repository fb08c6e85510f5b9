-- A key between two neighbours takes the place of the one that separated them.
use Rattle.std.proofs.Common.{◌≡◌, ℕ, true, false, ◌&&◌, List, [], ◌∷◌, ◌++◌, map, Option, Some, refl, subst}
use Rattle.std.proofs.lemmas.Bool.{and_from, and_parts}
use Rattle.std.specs.List.{list_all}
use Rattle.std.specs.Ordering.{is_lt, is_le}
use Rattle.quilt_record.specs.declared.key.Key.{Key}
use Rattle.quilt_record.specs.declared.record.Record.{Record}
use Rattle.quilt_record.specs.Records.{key_cmp}
use Rattle.quilt_node.specs.Pages.{is_ascending}
use Rattle.quilt_node.specs.Tree.{Bounds, is_above, is_below, are_within}
use Rattle.quilt_btree.specs.Subtree.{Subtree}
use Rattle.quilt_record.proofs.Orders.{lt_le, lt_to_le}
use Rattle.quilt_btree.proofs.lists.Rising.{all_follow, all_append, all_parts, above_on, below_on, ascending_join}
use Rattle.quilt_btree.proofs.subtrees.Trees.{ascending_first, ascending_rest, subtree_rises}
use Rattle.quilt_btree.proofs.ways.Leaves.{same_le}
use Rattle.quilt_btree.proofs.rows.Places.{from_keys}
use Rattle.quilt_btree.proofs.rows.Middles.{head_or}
use Rattle.quilt_btree.proofs.subtrees.Holdings.{low_strict, subtree_some}
use Rattle.quilt_btree.proofs.lists.RisingApart.{ascending_front}
use Rattle.quilt_btree.proofs.lists.Separators.{ascending_behind}

-- all keys before are below what the last of them is below
under_next : (ka : List Key) (b : Bounds) (k : Key) → is_ascending ka ≡ true
    → ((l : Key) → (from_keys ka b).low ≡ Some l → is_lt (key_cmp l k) ≡ true) → list_all (λ l. is_lt (key_cmp l k)) ka ≡ true
under_next [] b k a f = refl
under_next (x ∷ []) b k a f = and_from (is_lt (key_cmp x k)) true (f x refl) refl
under_next (x ∷ y ∷ ys) b k a f =
    let t = and_parts (is_lt (key_cmp x y)) (is_ascending (y ∷ ys)) a in
    let more = under_next (y ∷ ys) (record { low = Some x; high = b.high }) k t.1 f in
    let next = (and_parts (is_lt (key_cmp y k)) (list_all (λ l. is_lt (key_cmp l k)) ys) more).0 in
    and_from (is_lt (key_cmp x k)) (list_all (λ l. is_lt (key_cmp l k)) (y ∷ ys)) (lt_le x y k t.0 (lt_to_le (key_cmp y k) next)) more

over_next : (kb : List Key) (high : Option Key) (k : Key) → is_ascending kb ≡ true → is_below (head_or kb high) k ≡ true
    → list_all (λ l. is_lt (key_cmp k l)) kb ≡ true
over_next [] high k a h = refl
over_next (x ∷ xs) high k a h =
    and_from (is_lt (key_cmp k x)) (list_all (λ l. is_lt (key_cmp k l)) xs) h
    (all_follow (λ l. is_lt (key_cmp x l)) (λ l. is_lt (key_cmp k l)) (λ l g. lt_le k x l h (lt_to_le (key_cmp x l) g)) xs (ascending_first x xs a))

above_from : (low : Option Key) (ka : List Key) (b : Bounds) (k : Key) → list_all (is_above low) ka ≡ true
    → (is_above b.low k ≡ true → is_above low k ≡ true) → is_above (from_keys ka b).low k ≡ true → is_above low k ≡ true
above_from low [] b k w f h = f h
above_from low (x ∷ ka) b k w f h =
    let t = and_parts (is_above low x) (list_all (is_above low) ka) w in
    above_from low ka (record { low = Some x; high = b.high }) k t.1 (λ g. above_on low x k t.0 g) h

below_from : (kb : List Key) (high : Option Key) (k : Key) → list_all (is_below high) kb ≡ true → is_below (head_or kb high) k ≡ true
    → is_below high k ≡ true
below_from [] high k w h = h
below_from (x ∷ kb) high k w h = below_on high x k (and_parts (is_below high x) (list_all (is_below high) kb) w).0 h

-- the keys with another one in the middle
pub record FitsBetween (ka : List Key) (k : Key) (kb : List Key) (b : Bounds) : Type 0 where
  pub ascends : is_ascending (ka ++ k ∷ kb) ≡ true
  pub within : are_within b (ka ++ k ∷ kb) ≡ true

module _ (ka : List Key) (old : Key) where
  pub fits_between : (k : Key) (kb : List Key) (b : Bounds) → is_ascending (ka ++ old ∷ kb) ≡ true → are_within b (ka ++ old ∷ kb) ≡ true
      → ((l : Key) → (from_keys ka b).low ≡ Some l → is_lt (key_cmp l k) ≡ true) → is_above (from_keys ka b).low k ≡ true
      → is_below (head_or kb b.high) k ≡ true → FitsBetween ka k kb b
  fits_between k kb b a w strict low high =
      let w_parts = all_parts (λ m. is_above b.low m && is_below b.high m) ka (old ∷ kb) w in
      let w_rest = (and_parts (is_above b.low old && is_below b.high old) (are_within b kb) w_parts.1).1 in
      let asc_ka = ascending_front ka (old ∷ kb) a in
      let asc_kb = ascending_rest old kb (ascending_behind ka (old ∷ kb) a) in
      let over = over_next kb b.high k asc_kb high in
      let ka_above : list_all (is_above b.low) ka ≡ true =
      all_follow (λ m. is_above b.low m && is_below b.high m) (is_above b.low) (λ m h. (and_parts (is_above b.low m) (is_below b.high m) h).0) ka
      w_parts.0 in
      let kb_below : list_all (is_below b.high) kb ≡ true =
      all_follow (λ m. is_above b.low m && is_below b.high m) (is_below b.high) (λ m h. (and_parts (is_above b.low m) (is_below b.high m) h).1) kb
      w_rest in
      record {
        ascends = ascending_join k ka (k ∷ kb) (under_next ka b k asc_ka strict)
            (and_from (is_le (key_cmp k k)) (list_all (λ l. is_le (key_cmp k l)) kb) (same_le k)
            (all_follow (λ l. is_lt (key_cmp k l)) (λ l. is_le (key_cmp k l)) (λ l h. lt_to_le (key_cmp k l) h) kb over))
            asc_ka (first_over kb k over asc_kb);
        within = all_append (λ m. is_above b.low m && is_below b.high m) ka (k ∷ kb) w_parts.0
            (and_from (is_above b.low k && is_below b.high k) (are_within b kb)
            (and_from (is_above b.low k) (is_below b.high k) (above_from b.low ka b k ka_above (λ h. h) low) (below_from kb b.high k kb_below high)) w_rest);
      }
    where
      first_over : (ks : List Key) (k : Key) → list_all (λ l. is_lt (key_cmp k l)) ks ≡ true → is_ascending ks ≡ true → is_ascending (k ∷ ks) ≡ true
      first_over [] k h a = refl
      first_over (x ∷ xs) k h a =
          and_from (is_lt (key_cmp k x)) (is_ascending (x ∷ xs)) (and_parts (is_lt (key_cmp k x)) (list_all (λ l. is_lt (key_cmp k l)) xs) h).0 a

  -- the keys with none in the middle
  pub within_less : (kb : List Key) (b : Bounds) → are_within b (ka ++ old ∷ kb) ≡ true → are_within b (ka ++ kb) ≡ true
  within_less kb b w =
      let parts = all_parts (λ m. is_above b.low m && is_below b.high m) ka (old ∷ kb) w in
      all_append (λ m. is_above b.low m && is_below b.high m) ka kb parts.0
      (and_parts (is_above b.low old && is_below b.high old) (are_within b kb) parts.1).1

-- a key lies above a bound, where there is one
abbrev pub LiesAbove : Option Key → Key → Type 0
LiesAbove low k = (l : Key) → low ≡ Some l → is_lt (key_cmp l k) ≡ true

-- a subtree lies between its bounds, which are not the same
pub strictly_above : (pages : List (List ℕ)) (height page : ℕ) (low : Option Key) (k : Key) (rs : List Record) (used : List ℕ)
    → Subtree pages height false (page, record { low = low; high = Some k }) rs used → LiesAbove low k
strictly_above pages height page low k rs used s = λ l e.
    let rises = subtree_rises pages height false (page, record { low = low; high = Some k }) rs used s in
    low_strict l k rs (subtree_some pages height false (page, record { low = low; high = Some k }) rs used s)
    (subst (λ o. are_within (record { low = o; high = Some k }) (map (λ (r : Record). r.key) rs) ≡ true) e rises.within)
