-- Keys that ascend within bounds are separated at one of them.
use Rattle.std.proofs.Common.{◌≡◌, true, ◌&&◌, List, [], ◌∷◌, ◌++◌, Some, refl}
use Rattle.std.proofs.lemmas.Bool.{and_from, and_parts}
use Rattle.std.specs.List.{list_all}
use Rattle.std.specs.Ordering.{is_lt, is_le}
use Rattle.quilt_record.specs.declared.key.Key.{Key}
use Rattle.quilt_record.specs.Records.{key_cmp}
use Rattle.quilt_node.specs.Pages.{is_ascending}
use Rattle.quilt_node.specs.Tree.{Bounds, is_above, is_below, are_within}
use Rattle.quilt_record.proofs.Orders.{lt_to_le}
use Rattle.quilt_btree.proofs.lists.Rising.{IsRising, all_follow, all_parts}
use Rattle.quilt_btree.proofs.subtrees.Trees.{ascending_first, ascending_rest, all_both}
use Rattle.quilt_btree.proofs.ways.Leaves.{same_le}
use Rattle.quilt_btree.proofs.lists.Separators.{ascending_behind, below_separator}

pub ascending_front : (ks ls : List Key) → is_ascending (ks ++ ls) ≡ true → is_ascending ks ≡ true
ascending_front [] ls a = refl
ascending_front (k ∷ []) ls a = refl
ascending_front (k ∷ l ∷ ks) ls a =
    let t = and_parts (is_lt (key_cmp k l)) (is_ascending (l ∷ ks ++ ls)) a in
    and_from (is_lt (key_cmp k l)) (is_ascending (l ∷ ks)) t.0 (ascending_front (l ∷ ks) ls t.1)

-- what stands before a key, and what stands from it on
pub record RisesApart (b : Bounds) (ks : List Key) (k : Key) (ls : List Key) : Type 0 where
  pub before : IsRising (record { low = b.low; high = Some k }) ks
  pub behind : IsRising (record { low = Some k; high = b.high }) ls
  pub from_here : IsRising (record { low = Some k; high = b.high }) (k ∷ ls)
  pub low : is_above b.low k ≡ true
  pub high : is_below b.high k ≡ true

pub rises_apart : (b : Bounds) (ks : List Key) (k : Key) (ls : List Key) → IsRising b (ks ++ k ∷ ls) → RisesApart b ks k ls
rises_apart b ks k ls r =
    let asc = ascending_behind ks (k ∷ ls) r.ascends in
    let w = all_parts (λ m. is_above b.low m && is_below b.high m) ks (k ∷ ls) r.within in
    let here = and_parts (is_above b.low k && is_below b.high k) (are_within b ls) w.1 in
    let mine = and_parts (is_above b.low k) (is_below b.high k) here.0 in
    let over : list_all (λ m. is_le (key_cmp k m)) ls ≡ true =
    all_follow (λ m. is_lt (key_cmp k m)) (λ m. is_le (key_cmp k m)) (λ m h. lt_to_le (key_cmp k m) h) ls (ascending_first k ls asc) in
    let below : list_all (is_below b.high) ls ≡ true =
    all_follow (λ m. is_above b.low m && is_below b.high m) (is_below b.high) (λ m h. (and_parts (is_above b.low m) (is_below b.high m) h).1) ls
    here.1 in
    let rest = all_both (λ m. is_le (key_cmp k m)) (is_below b.high) ls over below in
    record {
      before = record {
        ascends = ascending_front ks (k ∷ ls) r.ascends;
        within = all_both (is_above b.low) (λ m. is_lt (key_cmp m k)) ks
            (all_follow (λ m. is_above b.low m && is_below b.high m) (is_above b.low) (λ m h. (and_parts (is_above b.low m) (is_below b.high m) h).0) ks w.0)
            (below_separator k ks ls r.ascends);
      };
      behind = record { ascends = ascending_rest k ls asc; within = rest };
      from_here = record {
        ascends = asc;
        within = and_from (is_le (key_cmp k k) && is_below b.high k) (list_all (λ m. is_le (key_cmp k m) && is_below b.high m) ls)
            (and_from (is_le (key_cmp k k)) (is_below b.high k) (same_le k) mine.1) rest;
      };
      low = mine.0;
      high = mine.1;
    }
