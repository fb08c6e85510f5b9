-- A run of edits as keys that go and records that come.
use Rattle.std.proofs.Common.{◌≡◌, Bool, true, false, not, List, [], ◌∷◌, filter, refl, sym, ◌∙◌, ap}
use Rattle.std.proofs.lemmas.Bool.{and_from, and_parts}
use Rattle.std.specs.Prelude.{if◌then◌else◌}
use Rattle.std.specs.List.{list_all}
use Rattle.std.specs.Ordering.{is_lt}
use Rattle.quilt_record.specs.declared.key.Key.{Key}
use Rattle.quilt_record.specs.declared.record.Record.{Record}
use Rattle.quilt_record.specs.Records.{key_cmp}
use Rattle.quilt_record.specs.Lists.{has_key, put, without}
use Rattle.quilt_record.proofs.Orders.{lt_not_eq}
use Rattle.quilt_node.specs.Pages.{is_ascending}
use Rattle.quilt_node.specs.Nodes.{keys_of}
use Rattle.quilt_btree.specs.declared.edit.Edit.{Edit}
use Rattle.quilt_btree.specs.declared.edit.Edit.TheVariants as edit
use Rattle.quilt_btree.specs.Batches.{edit_keys, is_due, edit_all, are_due, removed, records_put}
use Rattle.quilt_btree.specs.Runs.{without_all, put_all}
use Rattle.quilt_btree.proofs.batches.Whole.{asc_edited}
use Rattle.quilt_btree.proofs.lists.Lists.{filter_cond, put_last}
use Rattle.quilt_btree.proofs.lists.Rising.{all_follow, all_map}
use Rattle.quilt_btree.proofs.lists.Withouts.{without_none}
use Rattle.quilt_btree.proofs.removals.Drains.{asc_without, kept_without}
use Rattle.quilt_btree.proofs.subtrees.Trees.{ascending_first, ascending_rest}
use Rattle.quilt_record.proofs.Orders.{lt_le, lt_to_le}

-- a record goes and another comes, in either order
above_head : (r s : Record) (rs : List Record) → is_lt (key_cmp r.key s.key) ≡ true → is_ascending (keys_of (s ∷ rs)) ≡ true
    → list_all (λ m. is_lt (key_cmp r.key m)) (keys_of (s ∷ rs)) ≡ true
above_head r s rs lt a =
    and_from (is_lt (key_cmp r.key s.key)) (list_all (λ m. is_lt (key_cmp r.key m)) (keys_of rs)) lt
    (all_follow (λ m. is_lt (key_cmp s.key m)) (λ m. is_lt (key_cmp r.key m)) (λ m h. lt_le r.key s.key m lt (lt_to_le (key_cmp s.key m) h)) (keys_of rs)
    (ascending_first s.key (keys_of rs) a))

without_cons : (k : Key) (s : Record) (rs : List Record) → has_key k s ≡ false → without k (s ∷ rs) ≡ s ∷ without k rs
unfolding without
without_cons k s rs h =
    filter_cond (λ u. not (has_key k u)) s (filter (λ u. not (has_key k u)) rs) (filter (λ u. not (has_key k u)) rs) true (ap not h)

without_drop : (k : Key) (s : Record) (rs : List Record) → has_key k s ≡ true → without k (s ∷ rs) ≡ without k rs
unfolding without
without_drop k s rs h =
    filter_cond (λ u. not (has_key k u)) s (filter (λ u. not (has_key k u)) rs) (filter (λ u. not (has_key k u)) rs) false (ap not h)

put_front : (r : Record) (rs : List Record) → list_all (λ m. is_lt (key_cmp r.key m)) (keys_of rs) ≡ true → put r rs ≡ r ∷ rs
put_front r rs h = put_last r rs (all_map (λ (s : Record). s.key) (λ m. is_lt (key_cmp r.key m)) rs h)

put_cond : (r s : Record) (rs : List Record) (b : Bool) → is_lt (key_cmp r.key s.key) ≡ b
    → put r (s ∷ rs) ≡ (if b then r ∷ s ∷ rs else s ∷ put r rs)
put_cond r s rs b e = ap (λ c. if c then r ∷ s ∷ rs else s ∷ put r rs) e

swap : (k : Key) (r : Record) (rs : List Record) → has_key k r ≡ false → is_ascending (keys_of rs) ≡ true
    → without k (put r rs) ≡ put r (without k rs)
swap k r [] other a = without_cons k r [] other ∙ ap (λ l. r ∷ l) (without_none k) ∙ sym (ap (put r) (without_none k))
swap k r (s ∷ rs) other a = at (is_lt (key_cmp r.key s.key)) refl (swap k r rs other (ascending_rest s.key (keys_of rs) a))
  where
    late : (c : Bool) → has_key k s ≡ c → is_lt (key_cmp r.key s.key) ≡ false → without k (put r rs) ≡ put r (without k rs)
        → without k (s ∷ put r rs) ≡ put r (without k (s ∷ rs))
    late true h e i = without_drop k s (put r rs) h ∙ i ∙ sym (ap (put r) (without_drop k s rs h))
    late false h e i =
        without_cons k s (put r rs) h ∙ ap (λ l. s ∷ l) i ∙ sym (put_cond r s (without k rs) false e) ∙ sym (ap (put r) (without_cons k s rs h))

    at : (b : Bool) → is_lt (key_cmp r.key s.key) ≡ b → without k (put r rs) ≡ put r (without k rs)
        → without k (put r (s ∷ rs)) ≡ put r (without k (s ∷ rs))
    at true e i =
        ap (without k) (put_cond r s rs true e) ∙ without_cons k r (s ∷ rs) other
        ∙ sym (put_front r (without k (s ∷ rs)) (kept_without (λ m. is_lt (key_cmp r.key m)) k (s ∷ rs) (above_head r s rs e a)))
    at false e i = ap (without k) (put_cond r s rs false e) ∙ late (has_key k s) refl e i

pub swap_all : (ks : List Key) (r : Record) (rs : List Record) → list_all (λ k. is_lt (key_cmp r.key k)) ks ≡ true → is_ascending (keys_of rs) ≡ true
    → without_all ks (put r rs) ≡ put r (without_all ks rs)
swap_all [] r rs h a = refl
swap_all (k ∷ ks) r rs h a =
    let t = and_parts (is_lt (key_cmp r.key k)) (list_all (λ k. is_lt (key_cmp r.key k)) ks) h in
    ap (without_all ks) (swap k r rs (lt_not_eq (key_cmp r.key k) t.0) a) ∙ swap_all ks r (without k rs) t.1 (asc_without k rs a)

-- the keys that go are keys of the run
pub gone_keys : (p : Key → Bool) (run : List Edit) → list_all p (edit_keys run) ≡ true → list_all p (removed run) ≡ true
gone_keys p [] h = refl
gone_keys p (edit.Remove k ∷ run) h =
    let t = and_parts (p k) (list_all p (edit_keys run)) h in and_from (p k) (list_all p (removed run)) t.0 (gone_keys p run t.1)
gone_keys p (edit.Put r ∷ run) h = gone_keys p run (and_parts (p r.key) (list_all p (edit_keys run)) h).1
gone_keys p (edit.Replace r ∷ run) h =
    let t = and_parts (p r.key) (list_all p (edit_keys run)) h in and_from (p r.key) (list_all p (removed run)) t.0 (gone_keys p run t.1)

-- the list behind a batch is the old one without the keys that go, and with the records that come
pub edits_are : (run : List Edit) (rs : List Record) → is_ascending (edit_keys run) ≡ true → is_ascending (keys_of rs) ≡ true → are_due run rs ≡ true
    → edit_all run rs ≡ put_all (records_put run) (without_all (removed run) rs)
edits_are [] rs o a d = refl
edits_are (edit.Remove k ∷ run) rs o a d =
    let t = and_parts (is_due (edit.Remove k) rs) (are_due run (without k rs)) d in
    edits_are run (without k rs) (ascending_rest k (edit_keys run) o) (asc_edited (edit.Remove k) rs a t.0) t.1
edits_are (edit.Put r ∷ run) rs o a d =
    let t = and_parts (is_due (edit.Put r) rs) (are_due run (put r rs)) d in
    edits_are run (put r rs) (ascending_rest r.key (edit_keys run) o) (asc_edited (edit.Put r) rs a t.0) t.1
    ∙ ap (put_all (records_put run)) (swap_all (removed run) r rs
    (gone_keys (λ k. is_lt (key_cmp r.key k)) run (ascending_first r.key (edit_keys run) o)) a)
edits_are (edit.Replace r ∷ run) rs o a d =
    let t = and_parts (is_due (edit.Replace r) rs) (are_due run (put r (without r.key rs))) d in
    edits_are run (put r (without r.key rs)) (ascending_rest r.key (edit_keys run) o) (asc_edited (edit.Replace r) rs a t.0) t.1
    ∙ ap (put_all (records_put run)) (swap_all (removed run) r (without r.key rs)
    (gone_keys (λ k. is_lt (key_cmp r.key k)) run (ascending_first r.key (edit_keys run) o)) (asc_without r.key rs a))
