-- How many records are left without the one with a key.
use Rattle.std.proofs.Common.{◌≡◌, suc, Bool, true, false, ◌||◌, not, List, [], ◌∷◌, length, filter, refl, ◌∙◌, ap, Ordering, Less, Equal, Greater}
use Rattle.std.proofs.lemmas.Bool.{and_from, or_parts}
use Rattle.std.specs.List.{list_any, list_all}
use Rattle.std.specs.Ordering.{is_lt, is_le, is_eq, ordering_reverse}
use Rattle.quilt_record.specs.declared.key.Key.{Key}
use Rattle.quilt_record.specs.declared.record.Record.{Record}
use Rattle.quilt_record.specs.Records.{key_cmp}
use Rattle.quilt_node.specs.Pages.{is_ascending}
use Rattle.quilt_node.specs.Nodes.{keys_of}
use Rattle.quilt_record.specs.Lists.{has_key, without}
use Rattle.quilt_record.proofs.Orders.{key_total, le_lt}
use Rattle.quilt_btree.proofs.lists.Rising.{all_follow, all_map}
use Rattle.quilt_btree.proofs.subtrees.Trees.{ascending_first, ascending_rest}
use Rattle.quilt_btree.proofs.lists.Lists.{filter_all, filter_cond, above_other}

-- where no record has the key, all are left
pub without_missing : (k : Key) (rs : List Record) → list_any (has_key k) rs ≡ false → without k rs ≡ rs
unfolding without
without_missing k rs h = filter_all (λ r. not (has_key k r)) rs (none_has rs h)
  where
    none_has : (rs : List Record) → list_any (has_key k) rs ≡ false → list_all (λ r. not (has_key k r)) rs ≡ true
    none_has [] h = refl
    none_has (r ∷ rs) h =
        let t = or_parts (has_key k r) (list_any (has_key k) rs) h in
        and_from (not (has_key k r)) (list_all (λ s. not (has_key k s)) rs) (ap not t.0) (none_has rs t.1)

turned : (o : Ordering) → is_eq o ≡ true → is_le (ordering_reverse o) ≡ true
turned Less h = cc
turned Equal h = refl
turned Greater h = cc

same_le : (a b : Key) → is_eq (key_cmp a b) ≡ true → is_le (key_cmp b a) ≡ true
same_le a b h = ap is_le (key_total.antisymm b a) ∙ turned (key_cmp a b) h

fewer_step : (k : Key) (r : Record) (rs : List Record) (b : Bool) → has_key k r ≡ b → is_ascending (keys_of (r ∷ rs)) ≡ true
    → (b || list_any (has_key k) rs) ≡ true → (list_any (has_key k) rs ≡ true → suc (length (filter (λ s. not (has_key k s)) rs)) ≡ length rs)
    → suc (length (filter (λ s. not (has_key k s)) (r ∷ rs))) ≡ length (r ∷ rs)
fewer_step k r rs true e a h more =
    let above : list_all (λ (s : Record). is_lt (key_cmp k s.key)) rs ≡ true =
    all_map (λ (s : Record). s.key) (λ m. is_lt (key_cmp k m)) rs
    (all_follow (λ m. is_lt (key_cmp r.key m)) (λ m. is_lt (key_cmp k m)) (λ m g. le_lt k r.key m (same_le r.key k e) g) (keys_of rs)
    (ascending_first r.key (keys_of rs) a)) in
    ap (λ l. suc (length l)) (filter_cond (λ s. not (has_key k s)) r (filter (λ s. not (has_key k s)) rs) (filter (λ s. not (has_key k s)) rs) false
    (ap not e) ∙ filter_all (λ s. not (has_key k s)) rs (above_other k rs above))
fewer_step k r rs false e a h more =
    ap (λ l. suc (length l))
    (filter_cond (λ s. not (has_key k s)) r (filter (λ s. not (has_key k s)) rs) (filter (λ s. not (has_key k s)) rs) true (ap not e)) ∙ ap suc (more h)

fewer_one : (k : Key) (rs : List Record) → is_ascending (keys_of rs) ≡ true → list_any (has_key k) rs ≡ true
    → suc (length (filter (λ s. not (has_key k s)) rs)) ≡ length rs
fewer_one k [] a h = cc
fewer_one k (r ∷ rs) a h = fewer_step k r rs (has_key k r) refl a h (fewer_one k rs (ascending_rest r.key (keys_of rs) a))

-- and else one fewer
pub without_one_fewer : (k : Key) (rs : List Record) → is_ascending (keys_of rs) ≡ true → list_any (has_key k) rs ≡ true
    → suc (length (without k rs)) ≡ length rs
unfolding without
without_one_fewer k rs a h = fewer_one k rs a h

pub without_none : (k : Key) → without k [] ≡ []
unfolding without
without_none k = refl
