-- Keys that ascend within bounds, separated at one of them.
use Rattle.std.proofs.Common.{◌≡◌, true, ◌&&◌, List, [], ◌∷◌, ◌++◌, Some, refl}
use Rattle.std.proofs.lemmas.Bool.{and_from, and_parts}
use Rattle.std.specs.List.{list_all}
use Rattle.std.specs.Ordering.{is_lt, is_le}
use Rattle.quilt_record.specs.declared.key.Key.{Key}
use Rattle.quilt_record.specs.Records.{key_cmp}
use Rattle.quilt_node.specs.Pages.{is_ascending}
use Rattle.quilt_node.specs.Tree.{Bounds, is_above, is_below, are_within}
use Rattle.quilt_record.proofs.Orders.{lt_to_le}
use Rattle.quilt_btree.proofs.lists.Rising.{all_follow, all_parts}
use Rattle.quilt_btree.proofs.subtrees.Trees.{ascending_first, ascending_rest, all_both}

pub below_separator : (k : Key) (ks ls : List Key) → is_ascending (ks ++ k ∷ ls) ≡ true → list_all (λ l. is_lt (key_cmp l k)) ks ≡ true
below_separator k [] ls a = refl
below_separator k (m ∷ ks) ls a =
    let parts = all_parts (λ l. is_lt (key_cmp m l)) ks (k ∷ ls) (ascending_first m (ks ++ k ∷ ls) a) in
    and_from (is_lt (key_cmp m k)) (list_all (λ l. is_lt (key_cmp l k)) ks)
    (and_parts (is_lt (key_cmp m k)) (list_all (λ l. is_lt (key_cmp m l)) ls) parts.1).0
    (below_separator k ks ls (ascending_rest m (ks ++ k ∷ ls) a))

pub ascending_behind : (ks ls : List Key) → is_ascending (ks ++ ls) ≡ true → is_ascending ls ≡ true
ascending_behind [] ls a = a
ascending_behind (m ∷ ks) ls a = ascending_behind ks ls (ascending_rest m (ks ++ ls) a)

-- the keys at both sides of one among them
pub record AreSeparatedAt (b : Bounds) (ks : List Key) (k : Key) (ls : List Key) : Type 0 where
  pub above : is_above b.low k ≡ true
  pub below : is_below b.high k ≡ true
  pub lower : are_within (record { low = b.low; high = Some k }) ks ≡ true
  pub higher : are_within (record { low = Some k; high = b.high }) ls ≡ true

pub separated_at : (b : Bounds) (ks : List Key) (k : Key) (ls : List Key) → is_ascending (ks ++ k ∷ ls) ≡ true → are_within b (ks ++ k ∷ ls) ≡ true
    → AreSeparatedAt b ks k ls
separated_at b ks k ls a w =
    let within = all_parts (λ l. is_above b.low l && is_below b.high l) ks (k ∷ ls) w in
    let here = and_parts (is_above b.low k && is_below b.high k) (are_within b ls) within.1 in
    let both = and_parts (is_above b.low k) (is_below b.high k) here.0 in
    record {
      above = both.0;
      below = both.1;
      lower = all_both (is_above b.low) (λ l. is_lt (key_cmp l k)) ks
          (all_follow (λ l. is_above b.low l && is_below b.high l) (is_above b.low) (λ l h. (and_parts (is_above b.low l) (is_below b.high l) h).0)
          ks within.0) (below_separator k ks ls a);
      higher = all_both (λ l. is_le (key_cmp k l)) (is_below b.high) ls
          (all_follow (λ l. is_lt (key_cmp k l)) (λ l. is_le (key_cmp k l)) (λ l h. lt_to_le (key_cmp k l) h) ls
          (ascending_first k ls (ascending_behind ks (k ∷ ls) a)))
          (all_follow (λ l. is_above b.low l && is_below b.high l) (is_below b.high) (λ l h. (and_parts (is_above b.low l) (is_below b.high l) h).1) ls here.1);
    }
