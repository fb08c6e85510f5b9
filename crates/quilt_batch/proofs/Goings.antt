-- How a merge of two lists goes on.
use Rattle.std.proofs.Common.{◌≡◌, true, List, [], ◌∷◌, ◌++◌, drop, refl, sym, ◌∙◌, ap, subst}
use Rattle.std.specs.List.{list_all}
use Rattle.std.specs.Ordering.{is_lt}
use Rattle.std.proofs.Math.Seq.{append_snoc}
use Rattle.std.proofs.lemmas.List.{append-nil}
use Rattle.quilt_record.specs.declared.key.Key.{Key}
use Rattle.quilt_record.specs.declared.record.Record.{Record}
use Rattle.quilt_record.specs.Records.{key_cmp}
use Rattle.quilt_record.proofs.Orders.{lt_lt}
use Rattle.quilt_node.specs.Pages.{is_ascending}
use Rattle.quilt_node.specs.Nodes.{keys_of}
use Rattle.quilt_node.proofs.Ascending.{all_follow, is_over, is_under, ascending_all, ascending_join, ascending_back, ascending_front}
use Rattle.quilt_btree.specs.declared.edit.Edit.{Edit}
use Rattle.quilt_btree.specs.declared.edit.Edit.TheVariants as edit
use Rattle.quilt_btree.specs.Batches.{edit_keys, key_of, removed, records_put}
use Rattle.quilt_btree.proofs.batches.Leaves.{keys-append}
use Rattle.quilt_btree.proofs.batches.Puts.{puts_append}
use Rattle.quilt_batch.specs.Merges.{IsFirstEdit, goes_of, comes_of}
use Rattle.std.proofs.lemmas.Bool.{and_parts, and_from}

-- the merge of two lists has come so far: these edits are made, and these records are left of each list
pub record HasMerged (old_goes old_comes : List Record) (run : List Edit) (goes comes : List Record) : Type 0 where
  pub removed_so : removed run ++ keys_of goes ≡ keys_of old_goes
  pub added_so : records_put run ++ comes ≡ old_comes
  pub order : is_ascending (keys_of old_goes) ≡ true → is_ascending (keys_of old_comes) ≡ true
      → (is_ascending (edit_keys run ++ keys_of goes) ≡ true) × (is_ascending (edit_keys run ++ keys_of comes) ≡ true)

pub merged_none : (goes comes : List Record) → HasMerged goes comes [] goes comes
merged_none goes comes = record { removed_so = refl; added_so = refl; order = λ g c. (g, c) }

pub removed-append : (xs ys : List Edit) → removed (xs ++ ys) ≡ removed xs ++ removed ys
removed-append [] ys = refl
removed-append (edit.Remove k ∷ xs) ys = ap (λ ks. k ∷ ks) (removed-append xs ys)
removed-append (edit.Put r ∷ xs) ys = removed-append xs ys
removed-append (edit.Replace r ∷ xs) ys = ap (λ ks. r.key ∷ ks) (removed-append xs ys)

-- those that stand before a key of such a list are below it
pub under_next : (ks : List Key) (k : Key) (ls : List Key) → is_ascending (ks ++ k ∷ ls) ≡ true → list_all (is_under k) ks ≡ true
under_next [] k ls h = refl
under_next (m ∷ ks) k ls h =
    and_from (is_under k m) (list_all (is_under k) ks) (among m ks k ls (ascending_all m (ks ++ k ∷ ls) h)) (under_next ks k ls (ascending_back (m ∷ []) (ks ++ k ∷ ls) h))
  where
    among : (m : Key) (ks : List Key) (k : Key) (ls : List Key) → list_all (is_over m) (ks ++ k ∷ ls) ≡ true → is_over m k ≡ true
    among m [] k ls h = (and_parts (is_over m k) (list_all (is_over m) ls) h).0
    among m (l ∷ ks) k ls h = among m ks k ls (and_parts (is_over m l) (list_all (is_over m) (ks ++ k ∷ ls)) h).1

-- a key put in before a list whose first key is above it
put_before : (ks : List Key) (k : Key) (l : Key) (ls : List Key) → list_all (is_under k) ks ≡ true → is_lt (key_cmp k l) ≡ true
    → is_ascending (ks ++ l ∷ ls) ≡ true → is_ascending (ks ++ k ∷ l ∷ ls) ≡ true
put_before ks k l ls under less h =
    let rest = ascending_back ks (l ∷ ls) h in
    ascending_join k ks (l ∷ ls) under
    (and_from (is_over k l) (list_all (is_over k) ls) less (all_follow (is_over l) (is_over k) (λ m g. lt_lt k l m less g) ls (ascending_all l ls rest)))
    (ascending_front ks (l ∷ ls) h) rest

put_last : (ks : List Key) (k : Key) → list_all (is_under k) ks ≡ true → is_ascending (ks ++ []) ≡ true → is_ascending (ks ++ k ∷ []) ≡ true
put_last ks k under h = ascending_join k ks [] under refl (ascending_front ks [] h) refl

-- what stands before a key is followed by it, in both lists
snoc_asc : (run : List Edit) (e : Edit) (ls : List Key) → is_ascending (edit_keys run ++ key_of e ∷ ls) ≡ true
    → is_ascending (edit_keys (run ++ e ∷ []) ++ ls) ≡ true
snoc_asc run e ls h =
    subst (λ l. is_ascending l ≡ true) (sym (ap (λ l. l ++ ls) (keys-append run (e ∷ [])) ∙ append_snoc (edit_keys run) (key_of e) ls)) h

-- a record goes
remove_more : (og oc : List Record) (run : List Edit) (r : Record) (goes comes : List Record) → HasMerged og oc run (r ∷ goes) comes
    → (list_all (is_under r.key) (edit_keys run) ≡ true → is_ascending (edit_keys run ++ keys_of comes) ≡ true
    → is_ascending (edit_keys run ++ r.key ∷ keys_of comes) ≡ true)
    → HasMerged og oc (run ++ edit.Remove r.key ∷ []) goes comes
remove_more og oc run r goes comes m before = record {
  removed_so = ap (λ ks. ks ++ keys_of goes) (removed-append run (edit.Remove r.key ∷ [])) ∙ append_snoc (removed run) r.key (keys_of goes) ∙ m.removed_so;
  added_so = ap (λ rs. rs ++ comes) (puts_append run (edit.Remove r.key ∷ []) ∙ append-nil (records_put run)) ∙ m.added_so;
  order = λ g c.
      let o = m.order g c in (
        snoc_asc run (edit.Remove r.key) (keys_of goes) o.0,
        snoc_asc run (edit.Remove r.key) (keys_of comes) (before (under_next (edit_keys run) r.key (keys_of goes) o.0) o.1),
      );
}

-- a record comes
put_more : (og oc : List Record) (run : List Edit) (a : Record) (goes comes : List Record) → HasMerged og oc run goes (a ∷ comes)
    → (list_all (is_under a.key) (edit_keys run) ≡ true → is_ascending (edit_keys run ++ keys_of goes) ≡ true
    → is_ascending (edit_keys run ++ a.key ∷ keys_of goes) ≡ true)
    → HasMerged og oc (run ++ edit.Put a ∷ []) goes comes
put_more og oc run a goes comes m before = record {
  removed_so = ap (λ ks. ks ++ keys_of goes) (removed-append run (edit.Put a ∷ []) ∙ append-nil (removed run)) ∙ m.removed_so;
  added_so = ap (λ rs. rs ++ comes) (puts_append run (edit.Put a ∷ [])) ∙ append_snoc (records_put run) a comes ∙ m.added_so;
  order = λ g c.
      let o = m.order g c in (
        snoc_asc run (edit.Put a) (keys_of goes) (before (under_next (edit_keys run) a.key (keys_of comes) o.1) o.0),
        snoc_asc run (edit.Put a) (keys_of comes) o.1,
      );
}

-- a record comes in the place of one that goes
replace_more : (og oc : List Record) (run : List Edit) (r a : Record) (goes comes : List Record) → r.key ≡ a.key
    → HasMerged og oc run (r ∷ goes) (a ∷ comes) → HasMerged og oc (run ++ edit.Replace a ∷ []) goes comes
replace_more og oc run r a goes comes same m = record {
  removed_so = ap (λ ks. ks ++ keys_of goes) (removed-append run (edit.Replace a ∷ [])) ∙ append_snoc (removed run) a.key (keys_of goes)
      ∙ ap (λ k. removed run ++ k ∷ keys_of goes) (sym same) ∙ m.removed_so;
  added_so = ap (λ rs. rs ++ comes) (puts_append run (edit.Replace a ∷ [])) ∙ append_snoc (records_put run) a comes ∙ m.added_so;
  order = λ g c.
      let o = m.order g c in (
        snoc_asc run (edit.Replace a) (keys_of goes) (subst (λ k. is_ascending (edit_keys run ++ k ∷ keys_of goes) ≡ true) same o.0),
        snoc_asc run (edit.Replace a) (keys_of comes) o.1,
      );
}

-- one edit more
pub merged_more : (og oc : List Record) (run : List Edit) (goes comes : List Record) (e : Edit) → HasMerged og oc run goes comes → IsFirstEdit e goes comes
    → HasMerged og oc (run ++ e ∷ []) (drop (goes_of e) goes) (drop (comes_of e) comes)
merged_more og oc run (r ∷ goes) [] (edit.Remove k) m f =
    subst (λ l. HasMerged og oc (run ++ edit.Remove l ∷ []) goes []) (sym f)
    (remove_more og oc run r goes [] m (λ under h. put_last (edit_keys run) r.key under h))
merged_more og oc run (r ∷ goes) (a ∷ comes) (edit.Remove k) m f =
    subst (λ l. HasMerged og oc (run ++ edit.Remove l ∷ []) goes (a ∷ comes)) (sym f.0)
    (remove_more og oc run r goes (a ∷ comes) m (λ under h. put_before (edit_keys run) r.key a.key (keys_of comes) under f.1 h))
merged_more og oc run [] (a ∷ comes) (edit.Put p) m f =
    subst (λ q. HasMerged og oc (run ++ edit.Put q ∷ []) [] comes) (sym f)
    (put_more og oc run a [] comes m (λ under h. put_last (edit_keys run) a.key under h))
merged_more og oc run (r ∷ goes) (a ∷ comes) (edit.Put p) m f =
    subst (λ q. HasMerged og oc (run ++ edit.Put q ∷ []) (r ∷ goes) comes) (sym f.0)
    (put_more og oc run a (r ∷ goes) comes m (λ under h. put_before (edit_keys run) a.key r.key (keys_of goes) under f.1 h))
merged_more og oc run (r ∷ goes) (a ∷ comes) (edit.Replace p) m f =
    subst (λ q. HasMerged og oc (run ++ edit.Replace q ∷ []) goes comes) (sym f.0) (replace_more og oc run r a goes comes f.1 m)
merged_more og oc run [] comes (edit.Remove k) m f = absurd f
merged_more og oc run goes [] (edit.Put p) m f = absurd f
merged_more og oc run [] comes (edit.Replace p) m f = absurd f
merged_more og oc run (r ∷ goes) [] (edit.Replace p) m f = absurd f

-- where both lists are in the order of their keys, the next edit stands above the others
pub next_ascends : (og oc : List Record) (run : List Edit) (goes comes : List Record) (e : Edit) → HasMerged og oc run goes comes → IsFirstEdit e goes comes
    → is_ascending (keys_of og) ≡ true → is_ascending (keys_of oc) ≡ true → is_ascending (edit_keys run ++ key_of e ∷ []) ≡ true
next_ascends og oc run goes comes e m f a b =
    let n = merged_more og oc run goes comes e m f in
    subst (λ l. is_ascending l ≡ true) (keys-append run (e ∷ []))
    (ascending_front (edit_keys (run ++ e ∷ [])) (keys_of (drop (goes_of e) goes)) (n.order a b).0)
