-- Each edit of a merge is due where each key that goes is there, and no record that comes is there once those have gone.
use Rattle.std.proofs.Common.{◌≡◌, Bool, true, false, not, ◌||◌, ◌&&◌, List, [], ◌∷◌, refl, sym, ◌∙◌, ap}
use Rattle.std.specs.Prelude.{if◌then◌else◌}
use Rattle.std.specs.List.{list_any, list_all}
use Rattle.std.specs.Ordering.{is_lt}
use Rattle.quilt_record.specs.declared.key.Key.{Key}
use Rattle.quilt_record.specs.declared.record.Record.{Record}
use Rattle.quilt_record.specs.Records.{key_cmp}
use Rattle.quilt_record.specs.Lists.{has_key, put, without}
use Rattle.quilt_record.proofs.Orders.{lt_not_eq}
use Rattle.quilt_node.specs.Pages.{is_ascending}
use Rattle.quilt_node.specs.Nodes.{keys_of}
use Rattle.quilt_node.proofs.Ascending.{is_over, ascending_all, ascending_tail}
use Rattle.quilt_btree.specs.declared.edit.Edit.{Edit}
use Rattle.quilt_btree.specs.declared.edit.Edit.TheVariants as edit
use Rattle.quilt_btree.specs.Batches.{edit_keys, is_due, are_due, removed, records_put}
use Rattle.quilt_btree.specs.Runs.{without_all, has_each, has_any}
use Rattle.quilt_btree.proofs.removals.Takings.{any_without_above, each_after}
use Rattle.quilt_btree.proofs.batches.Lists.{swap_all, gone_keys}
use Rattle.quilt_btree.proofs.batches.Whole.{asc_edited}
use Rattle.std.proofs.lemmas.Bool.{and_parts, and_from}

pub or_parts : (a b : Bool) → a || b ≡ false → (a ≡ false) × (b ≡ false)
or_parts true b h = cc
or_parts false b h = (refl, h)

any_put : (k : Key) (r : Record) (rs : List Record) → has_key k r ≡ false → list_any (has_key k) (put r rs) ≡ list_any (has_key k) rs
any_put k r [] h = ap (λ b. b || false) h
any_put k r (s ∷ rs) h = at (is_lt (key_cmp r.key s.key)) (any_put k r rs h)
  where
    at : (b : Bool) → list_any (has_key k) (put r rs) ≡ list_any (has_key k) rs
        → list_any (has_key k) (if b then r ∷ s ∷ rs else s ∷ put r rs) ≡ list_any (has_key k) (s ∷ rs)
    at true i = ap (λ b. b || list_any (has_key k) (s ∷ rs)) h
    at false i = ap (λ b. has_key k s || b) i

-- records of later keys come and go as they would without an earlier one
each_put : (ks : List Key) (r : Record) (rs : List Record) → list_all (is_over r.key) ks ≡ true → has_each ks (put r rs) ≡ has_each ks rs
each_put [] r rs over = refl
each_put (k ∷ ks) r rs over =
    let t = and_parts (is_over r.key k) (list_all (is_over r.key) ks) over in
    ap (λ b. b && has_each ks (put r rs)) (any_put k r rs (lt_not_eq (key_cmp r.key k) t.0))
    ∙ ap (λ b. list_any (has_key k) rs && b) (each_put ks r rs t.1)

any_each_put : (comes : List Record) (r : Record) (rs : List Record) → list_all (λ a. is_over r.key a.key) comes ≡ true
    → has_any comes (put r rs) ≡ has_any comes rs
any_each_put [] r rs over = refl
any_each_put (a ∷ comes) r rs over =
    let t = and_parts (is_over r.key a.key) (list_all (λ a. is_over r.key a.key) comes) over in
    ap (λ b. b || has_any comes (put r rs)) (any_put a.key r rs (lt_not_eq (key_cmp r.key a.key) t.0))
    ∙ ap (λ b. list_any (has_key a.key) rs || b) (any_each_put comes r rs t.1)

pub any_all_above : (k : Key) (ks : List Key) (rs : List Record) → list_all (is_over k) ks ≡ true
    → list_any (has_key k) (without_all ks rs) ≡ list_any (has_key k) rs
any_all_above k [] rs over = refl
any_all_above k (j ∷ ks) rs over =
    let t = and_parts (is_over k j) (list_all (is_over k) ks) over in any_all_above k ks (without j rs) t.1 ∙ any_without_above j k rs t.0

pub come_keys : (p : Key → Bool) (run : List Edit) → list_all p (edit_keys run) ≡ true → list_all (λ a. p a.key) (records_put run) ≡ true
come_keys p [] h = refl
come_keys p (edit.Remove k ∷ run) h = come_keys p run (and_parts (p k) (list_all p (edit_keys run)) h).1
come_keys p (edit.Put r ∷ run) h =
    let t = and_parts (p r.key) (list_all p (edit_keys run)) h in and_from (p r.key) (list_all (λ a. p a.key) (records_put run)) t.0 (come_keys p run t.1)
come_keys p (edit.Replace r ∷ run) h =
    let t = and_parts (p r.key) (list_all p (edit_keys run)) h in and_from (p r.key) (list_all (λ a. p a.key) (records_put run)) t.0 (come_keys p run t.1)

all_single : (k : Key) (ks : List Key) → list_all (is_over k) ks ≡ true → list_all (λ y. list_all (λ m. is_lt (key_cmp m y)) (k ∷ [])) ks ≡ true
all_single k [] h = refl
all_single k (y ∷ ks) h =
    let t = and_parts (is_over k y) (list_all (is_over k) ks) h in
    and_from (list_all (λ m. is_lt (key_cmp m y)) (k ∷ [])) (list_all (λ y. list_all (λ m. is_lt (key_cmp m y)) (k ∷ [])) ks)
    (and_from (is_lt (key_cmp k y)) true t.0 refl) (all_single k ks t.1)

-- no later record that comes is there behind an earlier one, once the others have gone
none_put : (run : List Edit) (r : Record) (rs : List Record) → list_all (is_over r.key) (edit_keys run) ≡ true → is_ascending (keys_of rs) ≡ true
    → has_any (records_put run) (without_all (removed run) rs) ≡ false → has_any (records_put run) (without_all (removed run) (put r rs)) ≡ false
none_put run r rs over a none =
    ap (has_any (records_put run)) (swap_all (removed run) r rs (gone_keys (is_over r.key) run over) a)
    ∙ any_each_put (records_put run) r (without_all (removed run) rs) (come_keys (is_over r.key) run over) ∙ none

-- the edits are due, one behind the other
pub due_in_turn : (run : List Edit) (rs : List Record) → is_ascending (edit_keys run) ≡ true → is_ascending (keys_of rs) ≡ true
    → has_each (removed run) rs ≡ true → has_any (records_put run) (without_all (removed run) rs) ≡ false → are_due run rs ≡ true
due_in_turn [] rs o a each none = refl
due_in_turn (edit.Remove k ∷ run) rs o a each none =
    let over = ascending_all k (edit_keys run) o in
    let t = and_parts (list_any (has_key k) rs) (has_each (removed run) rs) each in
    and_from (is_due (edit.Remove k) rs) (are_due run (without k rs)) t.0
    (due_in_turn run (without k rs) (ascending_tail k (edit_keys run) o) (asc_edited (edit.Remove k) rs a t.0)
    (each_after (removed run) (k ∷ []) rs (all_single k (removed run) (gone_keys (is_over k) run over)) ∙ t.1) none)
due_in_turn (edit.Put r ∷ run) rs o a each none =
    let over = ascending_all r.key (edit_keys run) o in
    let n = or_parts (list_any (has_key r.key) (without_all (removed run) rs)) (has_any (records_put run) (without_all (removed run) rs)) none in
    let fresh = ap not (sym (any_all_above r.key (removed run) rs (gone_keys (is_over r.key) run over)) ∙ n.0) in
    and_from (is_due (edit.Put r) rs) (are_due run (put r rs)) fresh
    (due_in_turn run (put r rs) (ascending_tail r.key (edit_keys run) o) (asc_edited (edit.Put r) rs a fresh)
    (each_put (removed run) r rs (gone_keys (is_over r.key) run over) ∙ each) (none_put run r rs over a n.1))
due_in_turn (edit.Replace r ∷ run) rs o a each none =
    let over = ascending_all r.key (edit_keys run) o in
    let t = and_parts (list_any (has_key r.key) rs) (has_each (removed run) rs) each in
    let n = or_parts (list_any (has_key r.key) (without_all (r.key ∷ removed run) rs)) (has_any (records_put run) (without_all (r.key ∷ removed run) rs)) none in
    and_from (is_due (edit.Replace r) rs) (are_due run (put r (without r.key rs))) t.0
    (due_in_turn run (put r (without r.key rs)) (ascending_tail r.key (edit_keys run) o) (asc_edited (edit.Replace r) rs a t.0)
    (each_put (removed run) r (without r.key rs) (gone_keys (is_over r.key) run over)
    ∙ each_after (removed run) (r.key ∷ []) rs (all_single r.key (removed run) (gone_keys (is_over r.key) run over)) ∙ t.1)
    (none_put run r (without r.key rs) over (asc_edited (edit.Remove r.key) rs a t.0) n.1))
