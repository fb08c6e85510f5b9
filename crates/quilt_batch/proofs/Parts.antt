-- The first edits of a merge, then the next, and so on to its end.
use Rattle.std.proofs.Common.{◌≡◌, ◌⊎◌, ⊎_elim, ℕ, ◌+◌, ◌≤◌, Bool, true, false, ◌||◌, List, [], ◌∷◌, ◌++◌, length, take, refl, sym, ◌∙◌, ap, subst, arith}
use Rattle.std.proofs.Common.{append_assoc, length-append}
use Rattle.std.specs.List.{list_any, list_all}
use Rattle.std.specs.Ordering.{is_lt}
use Rattle.std.proofs.lemmas.Bool.{and_parts, and_from}
use Rattle.std.proofs.lemmas.List.{append-nil, length-map, map-append, nil_from_length}
use Rattle.std.proofs.lemmas.List.Folds.{list_any-append}
use Rattle.quilt_record.specs.declared.key.Key.{Key}
use Rattle.quilt_record.specs.declared.record.Record.{Record}
use Rattle.quilt_record.specs.Records.{key_cmp}
use Rattle.quilt_record.specs.Lists.{has_key, without}
use Rattle.quilt_record.proofs.Orders.{lt_lt}
use Rattle.quilt_node.specs.Nodes.{keys_of}
use Rattle.quilt_node.specs.Pages.{is_ascending}
use Rattle.quilt_node.proofs.Ascending.{all_back, all_follow, all_front, is_over, is_under, ascending_all, ascending_back, ascending_front, ascending_join, ascending_tail}
use Rattle.quilt_btree.specs.declared.edit.Edit.{Edit}
use Rattle.quilt_btree.specs.declared.edit.Edit.TheVariants as edit
use Rattle.quilt_btree.specs.Batches.{edit_keys, key_of, are_due, removed, records_put, more, fewer}
use Rattle.quilt_btree.specs.Runs.{without_all, has_each, has_any}
use Rattle.quilt_btree.proofs.batches.Leaves.{keys-append}
use Rattle.quilt_btree.proofs.batches.Puts.{puts_append}
use Rattle.quilt_batch.specs.Merges.{IsFirstEdit, IsMerge, IsMergePart, StartsMerge}
use Rattle.quilt_batch.proofs.Due.{any_all_above, come_keys, due_in_turn, or_parts}
use Rattle.quilt_batch.proofs.Goings.{HasMerged, removed-append, under_next}

-- nothing is left of the two lists
abbrev pub NoneLeft : (goes comes : List Record) → Type 0
NoneLeft goes comes = (goes ≡ []) × (comes ≡ [])

-- the first record that is left of each list comes behind these keys
abbrev pub ComesBehind : List Key → (goes comes : List Record) → Type 0
ComesBehind ks goes comes = (is_ascending (ks ++ keys_of (take 1 goes)) ≡ true) × (is_ascending (ks ++ keys_of (take 1 comes)) ≡ true)

-- the second list goes on from the first
joined : (ks : List Key) (k : Key) (ls : List Key) → is_ascending (ks ++ k ∷ []) ≡ true → is_ascending (k ∷ ls) ≡ true
    → is_ascending (ks ++ k ∷ ls) ≡ true
joined ks k ls h g =
    ascending_join k ks ls (under_next ks k [] h) (ascending_all k ls g) (ascending_front ks (k ∷ []) h) (ascending_tail k ls g)

-- what stands before a key stands before a later one
earlier : (ks : List Key) (k l : Key) → is_ascending (ks ++ k ∷ []) ≡ true → is_lt (key_cmp k l) ≡ true → is_ascending (ks ++ l ∷ []) ≡ true
earlier ks k l h less =
    ascending_join l ks [] (all_follow (is_under k) (is_under l) (λ m g. lt_lt m k l g less) ks (under_next ks k [] h)) refl
    (ascending_front ks (k ∷ []) h) refl

alone : (ks : List Key) (k : Key) → is_ascending (ks ++ k ∷ []) ≡ true → is_ascending (ks ++ []) ≡ true
alone ks k h = subst (λ l. is_ascending l ≡ true) (sym (append-nil ks)) (ascending_front ks (k ∷ []) h)

-- both lists come behind the keys where the first edit does
pub lists_behind : (ks : List Key) (e : Edit) (goes comes : List Record) → IsFirstEdit e goes comes → is_ascending (ks ++ key_of e ∷ []) ≡ true
    → ComesBehind ks goes comes
lists_behind ks (edit.Remove k) (r ∷ goes) [] f h = (subst (λ l. is_ascending (ks ++ l ∷ []) ≡ true) f h, alone ks k h)
lists_behind ks (edit.Remove k) (r ∷ goes) (a ∷ comes) f h =
    let g = subst (λ l. is_ascending (ks ++ l ∷ []) ≡ true) f.0 h in (g, earlier ks r.key a.key g f.1)
lists_behind ks (edit.Put p) [] (a ∷ comes) f h = (alone ks p.key h, subst (λ (q : Record). is_ascending (ks ++ q.key ∷ []) ≡ true) f h)
lists_behind ks (edit.Put p) (r ∷ goes) (a ∷ comes) f h =
    let g = subst (λ (q : Record). is_ascending (ks ++ q.key ∷ []) ≡ true) f.0 h in (earlier ks a.key r.key g f.1, g)
lists_behind ks (edit.Replace p) (r ∷ goes) (a ∷ comes) f h =
    let g = subst (λ (q : Record). is_ascending (ks ++ q.key ∷ []) ≡ true) f.0 h in
    (subst (λ l. is_ascending (ks ++ l ∷ []) ≡ true) (sym f.1) g, g)
lists_behind ks (edit.Remove k) [] comes f h = absurd f
lists_behind ks (edit.Put p) goes [] f h = absurd f
lists_behind ks (edit.Replace p) [] comes f h = absurd f
lists_behind ks (edit.Replace p) (r ∷ goes) [] f h = absurd f

-- and the first edit does where both lists do
edit_behind : (ks : List Key) (e : Edit) (goes comes : List Record) → IsFirstEdit e goes comes → ComesBehind ks goes comes
    → is_ascending (ks ++ key_of e ∷ []) ≡ true
edit_behind ks (edit.Remove k) (r ∷ goes) [] f b = subst (λ l. is_ascending (ks ++ l ∷ []) ≡ true) (sym f) b.0
edit_behind ks (edit.Remove k) (r ∷ goes) (a ∷ comes) f b = subst (λ l. is_ascending (ks ++ l ∷ []) ≡ true) (sym f.0) b.0
edit_behind ks (edit.Put p) [] (a ∷ comes) f b = subst (λ (q : Record). is_ascending (ks ++ q.key ∷ []) ≡ true) (sym f) b.1
edit_behind ks (edit.Put p) (r ∷ goes) (a ∷ comes) f b = subst (λ (q : Record). is_ascending (ks ++ q.key ∷ []) ≡ true) (sym f.0) b.1
edit_behind ks (edit.Replace p) (r ∷ goes) (a ∷ comes) f b = subst (λ (q : Record). is_ascending (ks ++ q.key ∷ []) ≡ true) (sym f.0) b.1
edit_behind ks (edit.Remove k) [] comes f b = absurd f
edit_behind ks (edit.Put p) goes [] f b = absurd f
edit_behind ks (edit.Replace p) [] comes f b = absurd f
edit_behind ks (edit.Replace p) (r ∷ goes) [] f b = absurd f

-- nothing comes behind the last keys
pub none_behind : (ks : List Key) (goes comes : List Record) → is_ascending ks ≡ true → NoneLeft goes comes → ComesBehind ks goes comes
none_behind ks [] [] h none =
    let g = subst (λ l. is_ascending l ≡ true) (sym (append-nil ks)) h in (g, g)
none_behind ks (r ∷ goes) comes h none = absurd (taken none.0)
  where
    taken : r ∷ goes ≡ [] → ⊥
    taken e = cc
none_behind ks [] (a ∷ comes) h none = absurd (taken none.1)
  where
    taken : a ∷ comes ≡ [] → ⊥
    taken e = cc

-- one edit more
pub starts_more : (og oc : List Record) (run : List Edit) (e : Edit) (goes comes left coming : List Record) → StartsMerge og oc run goes comes
    → IsFirstEdit e goes comes → StartsMerge og oc (run ++ e ∷ []) left coming
starts_more og oc (f ∷ run) e goes comes left coming s first = s
starts_more og oc [] e goes comes left coming s first =
    subst (λ l. IsFirstEdit e l oc) s.0 (subst (λ l. IsFirstEdit e goes l) s.1 first)

-- the merge so far is a part of it where what is left comes behind
pub part_of : (og oc : List Record) (run : List Edit) (goes comes : List Record) → HasMerged og oc run goes comes → StartsMerge og oc run goes comes
    → is_ascending (edit_keys run) ≡ true → ComesBehind (edit_keys run) goes comes → IsMergePart og oc run goes comes
part_of og oc run goes comes m s a b = record { gone = m.removed_so; come = m.added_so; starts = s; ascends = a; border = b }

-- no edit at all
pub part_here : (goes comes : List Record) → IsMergePart goes comes [] goes comes
part_here goes comes = record { gone = refl; come = refl; starts = (refl, refl); ascends = refl; border = (first goes, first comes) }
  where
    first : (rs : List Record) → is_ascending (keys_of (take 1 rs)) ≡ true
    first [] = refl
    first (r ∷ rs) = refl

-- a part behind a part
starts_on : (og oc : List Record) (run part : List Edit) (goes comes left coming : List Record) → StartsMerge og oc run goes comes
    → StartsMerge goes comes part left coming → StartsMerge og oc (run ++ part) left coming
starts_on og oc (e ∷ run) part goes comes left coming s t = s
starts_on og oc [] part goes comes left coming s t =
    subst (λ l. StartsMerge l oc part left coming) s.0 (subst (λ l. StartsMerge goes l part left coming) s.1 t)

goes_behind : (run part : List Edit) (goes comes left coming : List Record) (ls : List Key) → ComesBehind (edit_keys run) goes comes
    → StartsMerge goes comes part left coming → is_ascending (edit_keys part ++ ls) ≡ true
    → ((left ≡ goes) × (coming ≡ comes) → is_ascending (edit_keys run ++ ls) ≡ true)
    → is_ascending (edit_keys (run ++ part) ++ ls) ≡ true
goes_behind run [] goes comes left coming ls b s h same =
    subst (λ l. is_ascending (edit_keys l ++ ls) ≡ true) (sym (append-nil run)) (same s)
goes_behind run (e ∷ part) goes comes left coming ls b s h same =
    subst (λ l. is_ascending l ≡ true)
    (sym (ap (λ l. l ++ ls) (keys-append run (e ∷ part)) ∙ append_assoc (edit_keys run) (edit_keys (e ∷ part)) ls))
    (joined (edit_keys run) (key_of e) (edit_keys part ++ ls) (edit_behind (edit_keys run) e goes comes s b) h)

pub part_on : (og oc goes comes left coming : List Record) (run part : List Edit) → IsMergePart og oc run goes comes → IsMergePart goes comes part left coming
    → IsMergePart og oc (run ++ part) left coming
part_on og oc goes comes left coming run part p q = record {
  gone = ap (λ ks. ks ++ keys_of left) (removed-append run part) ∙ append_assoc (removed run) (removed part) (keys_of left)
      ∙ ap (λ ks. removed run ++ ks) q.gone ∙ p.gone;
  come = ap (λ rs. rs ++ coming) (puts_append run part) ∙ append_assoc (records_put run) (records_put part) coming
      ∙ ap (λ rs. records_put run ++ rs) q.come ∙ p.come;
  starts = starts_on og oc run part goes comes left coming p.starts q.starts;
  ascends = subst (λ l. is_ascending l ≡ true) (append-nil (edit_keys (run ++ part)))
      (goes_behind run part goes comes left coming [] p.border q.starts
      (subst (λ l. is_ascending l ≡ true) (sym (append-nil (edit_keys part))) q.ascends)
      (λ same. subst (λ l. is_ascending l ≡ true) (sym (append-nil (edit_keys run))) p.ascends));
  border = (
    goes_behind run part goes comes left coming (keys_of (take 1 left)) p.border q.starts q.border.0
        (λ same. subst (λ (l : List Record). is_ascending (edit_keys run ++ keys_of (take 1 l)) ≡ true) (sym same.0) p.border.0),
    goes_behind run part goes comes left coming (keys_of (take 1 coming)) p.border q.starts q.border.1
        (λ same. subst (λ (l : List Record). is_ascending (edit_keys run ++ keys_of (take 1 l)) ≡ true) (sym same.1) p.border.1),
  );
}

-- each edit is due, where the records that go are there and none that comes is there without them
apart : (js ks : List Key) → is_ascending (js ++ ks) ≡ true → list_all (λ j. list_all (is_over j) ks) js ≡ true
apart [] ks h = refl
apart (j ∷ js) ks h =
    and_from (list_all (is_over j) ks) (list_all (λ j. list_all (is_over j) ks) js) (all_back (is_over j) js ks (ascending_all j (js ++ ks) h))
    (apart js ks (ascending_tail j (js ++ ks) h))

any_apart : (comes : List Record) (ks : List Key) (rs : List Record) → list_all (λ a. list_all (is_over a.key) ks) comes ≡ true
    → has_any comes (without_all ks rs) ≡ has_any comes rs
any_apart [] ks rs h = refl
any_apart (a ∷ comes) ks rs h =
    let t = and_parts (list_all (is_over a.key) ks) (list_all (λ a. list_all (is_over a.key) ks) comes) h in
    both (any_all_above a.key ks rs t.0) (any_apart comes ks rs t.1)
  where
    both : {b c d f : Bool} → b ≡ c → d ≡ f → (b || d) ≡ (c || f)
    both h g = cc

without_all-append : (ks ls : List Key) (rs : List Record) → without_all (ks ++ ls) rs ≡ without_all ls (without_all ks rs)
without_all-append [] ls rs = refl
without_all-append (k ∷ ks) ls rs = without_all-append ks ls (without k rs)

left_behind : (ks : List Key) (goes : List Record) → is_ascending (ks ++ keys_of (take 1 goes)) ≡ true → is_ascending (keys_of goes) ≡ true
    → is_ascending (ks ++ keys_of goes) ≡ true
left_behind ks [] h a = h
left_behind ks (r ∷ goes) h a = joined ks r.key (keys_of goes) h a

pub part_due : (og oc : List Record) (run : List Edit) (goes comes rs : List Record) → IsMergePart og oc run goes comes → is_ascending (keys_of og) ≡ true
    → is_ascending (keys_of rs) ≡ true → has_each (keys_of og) rs ≡ true → has_any oc (without_all (keys_of og) rs) ≡ false → are_due run rs ≡ true
part_due og oc run goes comes rs p old a each none =
    let left = ascending_back (removed run) (keys_of goes) (subst (λ l. is_ascending l ≡ true) (sym p.gone) old) in
    let over = apart (edit_keys run) (keys_of goes) (left_behind (edit_keys run) goes p.border.0 left) in
    let here = all_front (λ k. list_any (has_key k) rs) (removed run) (keys_of goes) (subst (λ l. has_each l rs ≡ true) (sym p.gone) each) in
    let cut = subst (λ l. has_any l (without_all (removed run ++ keys_of goes) rs) ≡ false) (sym p.come)
    (subst (λ l. has_any oc (without_all l rs) ≡ false) (sym p.gone) none) in
    let some = or_parts (has_any (records_put run) (without_all (removed run ++ keys_of goes) rs))
    (has_any comes (without_all (removed run ++ keys_of goes) rs))
    (sym (list_any-append (λ r. list_any (has_key r.key) (without_all (removed run ++ keys_of goes) rs)) (records_put run) comes) ∙ cut) in
    due_in_turn run rs p.ascends a here
    (sym (any_apart (records_put run) (keys_of goes) (without_all (removed run) rs) (come_keys (λ k. list_all (is_over k) (keys_of goes)) run over))
    ∙ ap (has_any (records_put run)) (sym (without_all-append (removed run) (keys_of goes) rs)) ∙ some.0)

-- what is left of lists in the order of their keys is in that order
pub part_left : (og oc : List Record) (run : List Edit) (goes comes : List Record) → IsMergePart og oc run goes comes → is_ascending (keys_of og) ≡ true
    → is_ascending (keys_of oc) ≡ true → (is_ascending (keys_of goes) ≡ true) × (is_ascending (keys_of comes) ≡ true)
part_left og oc run goes comes p old new = (
  ascending_back (removed run) (keys_of goes) (subst (λ l. is_ascending l ≡ true) (sym p.gone) old),
  ascending_back (keys_of (records_put run)) (keys_of comes)
      (subst (λ l. is_ascending l ≡ true) (sym (ap keys_of p.come) ∙ map-append (λ (r : Record). r.key) (records_put run) comes) new),
)

-- how many records went, came and are left
pub part_sizes : (og oc : List Record) (run : List Edit) (goes comes : List Record) → IsMergePart og oc run goes comes
    → (length (removed run) + length goes ≡ length og) × (length (records_put run) + length comes ≡ length oc)
part_sizes og oc run goes comes p =
    let size : (rs : List Record) → length (keys_of rs) ≡ length rs = λ rs. length-map rs (λ (r : Record). r.key) in (
      ap (λ n. length (removed run) + n) (sym (size goes)) ∙ sym (length-append (removed run) (keys_of goes)) ∙ ap length p.gone ∙ size og,
      sym (length-append (records_put run) comes) ∙ ap length p.come,
    )

pub run_size : (run : List Edit) → length run ≤ length (removed run) + length (records_put run)
run_size [] = omega arith
run_size (edit.Remove k ∷ run) = let h = run_size run in omega arith
run_size (edit.Put r ∷ run) = let h = run_size run in omega arith
run_size (edit.Replace r ∷ run) = let h = run_size run in omega arith

counted : (run : List Edit) → more run + length (removed run) ≡ fewer run + length (records_put run)
counted [] = refl
counted (edit.Remove k ∷ run) = let h = counted run in omega arith
counted (edit.Put r ∷ run) = let h = counted run in omega arith
counted (edit.Replace r ∷ run) = let h = counted run in omega arith

-- the part behind which nothing is left is the whole merge
pub part_whole : (og oc : List Record) (run : List Edit) (goes comes : List Record) → IsMergePart og oc run goes comes → NoneLeft goes comes → IsMerge og oc run
part_whole og oc run goes comes p none =
    let sizes = part_sizes og oc run goes comes p in
    let left = ap length none.0 in
    let coming = ap length none.1 in
    let n = counted run in
    record {
      goes = sym (append-nil (removed run)) ∙ ap (λ l. removed run ++ keys_of l) (sym none.0) ∙ p.gone;
      comes = sym (append-nil (records_put run)) ∙ ap (λ l. records_put run ++ l) (sym none.1) ∙ p.come;
      due = λ rs old new a each none. part_due og oc run goes comes rs p old a each none;
      counts = omega arith;
    }

-- and so is a part of as many edits as there are records
pub part_full : (og oc : List Record) (run : List Edit) (goes comes : List Record) (most : ℕ) → IsMergePart og oc run goes comes → most ≡ length og + length oc
    → NoneLeft goes comes ⊎ (length run ≡ most) → IsMerge og oc run
part_full og oc run goes comes most p is full =
    let sizes = part_sizes og oc run goes comes p in
    let few = run_size run in
    part_whole og oc run goes comes p (⊎_elim (λ none. none) (λ e. (nil_from_length goes (omega arith), nil_from_length comes (omega arith))) full)
