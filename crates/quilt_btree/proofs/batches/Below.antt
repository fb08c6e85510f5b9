-- A subtree that is edited in one leaf.
use Rattle.std.proofs.Common.{◌≡◌, ℕ, zero, suc, ◌-◌, ◌≤◌, Bool, true, false, ◌&&◌, List, [], ◌∷◌, length, take, drop}
use Rattle.std.proofs.lemmas.Bool.{and_from, and_parts}
use Rattle.std.proofs.Common.{Option, Some, Result, Ok, Err, IfOk, IfErr, slice_set, refl, sym, ◌∙◌, ap, subst, arith, get_or-set_same}
use Rattle.std.specs.Prelude.{slice_get, if◌then◌else◌}
use Rattle.std.specs.List.{list_all}
use Rattle.std.specs.Option.{option_or}
use Rattle.std.specs.Ordering.{is_le}
use Rattle.quilt_types.specs.declared.stop.Stop.{Stop}
use Rattle.quilt_types.specs.declared.stop.Stop.TheVariants.{Damaged}
use Rattle.quilt_node.proofs.Ascending.{all_take}
use Rattle.quilt_record.specs.declared.key.Key.{Key}
use Rattle.quilt_record.specs.declared.record.Record.{Record}
use Rattle.quilt_record.specs.Records.{key_cmp}
use Rattle.quilt_record.specs.Lists.{without}
use Rattle.quilt_record.proofs.Orders.{le_le}
use Rattle.quilt_node.specs.Pages.{Inner, leaf_of, is_ascending}
use Rattle.quilt_node.specs.Nodes.{IsPlace, keys_of}
use Rattle.quilt_node.specs.Tree.{Bounds, is_above, is_below}
use Rattle.quilt_btree.specs.declared.edit.Edit.{Edit}
use Rattle.quilt_btree.specs.declared.edit.Edit.TheVariants as edit
use Rattle.quilt_btree.specs.Batches.{key_of, edit_keys, edited, edit_all, are_due, Fails, DidEdit}
use Rattle.quilt_btree.specs.Edits.{multiplicity, Becomes, CanEdit}
use Rattle.quilt_btree.proofs.batches.Leaves.{IsEdited, edit_at, edit_all_between, are_due_between}
use Rattle.quilt_btree.proofs.growth.Below.{LeadsToChild, child_before, parent_becomes, above_from, edit_spells}
use Rattle.quilt_btree.proofs.growth.Fills.{within_put}
use Rattle.quilt_btree.proofs.lists.Counts.{once_here}
use Rattle.quilt_btree.proofs.lists.Rising.{all_follow}
use Rattle.quilt_btree.proofs.removals.Drains.{at_run, lie_between, kept_without, still_enough, first_least}
use Rattle.quilt_btree.proofs.rows.Places.{from_keys, head_low}
use Rattle.quilt_btree.proofs.stores.Moves.{moves_written, used_account}
use Rattle.quilt_btree.proofs.stores.Writes.{WritesPage, tells_at, all_told}
use Rattle.quilt_btree.proofs.subtrees.Along.{IsSame}
use Rattle.quilt_btree.proofs.subtrees.Descents.{child_bounds}
use Rattle.quilt_btree.proofs.subtrees.Trees.{all_both}
use Rattle.quilt_btree.proofs.ways.Forks.{IsRead, page_here}
use Rattle.quilt_btree.proofs.ways.Steps.{StepsTo}

-- what becomes of a leaf's keys lies within its bounds
kept_one : (p : Key → Bool) (x : Edit) (rs : List Record) → p (key_of x) ≡ true → list_all p (keys_of rs) ≡ true
    → list_all p (keys_of (edited x rs)) ≡ true
kept_one p (edit.Remove k) rs h w = kept_without p k rs w
kept_one p (edit.Put r) rs h w = within_put p r rs h w
kept_one p (edit.Replace r) rs h w = within_put p r (without r.key rs) h (kept_without p r.key rs w)

kept_run : (p : Key → Bool) (xs : List Edit) (rs : List Record) → list_all p (edit_keys xs) ≡ true → list_all p (keys_of rs) ≡ true
    → list_all p (keys_of (edit_all xs rs)) ≡ true
kept_run p [] rs h w = w
kept_run p (x ∷ xs) rs h w =
    let t = and_parts (p (key_of x)) (list_all p (edit_keys xs)) h in
    kept_run p xs (edited x rs) t.1 (kept_one p x rs t.0 w)

pub keys_take : (n : ℕ) (run : List Edit) → edit_keys (take n run) ≡ take n (edit_keys run)
keys_take zero run = refl
keys_take (suc n) [] = refl
keys_take (suc n) (e ∷ run) = ap (λ l. key_of e ∷ l) (keys_take n run)

pub all_first : (p : Key → Bool) (n : ℕ) (run : List Edit) → list_all p (edit_keys run) ≡ true → list_all p (edit_keys (take n run)) ≡ true
all_first p n run h = ap (list_all p) (keys_take n run) ∙ all_take p (edit_keys run) n h

-- the keys of a run lie from the lower bound of a subtree on, and those of its first edits below the upper one
pub record LieWithin (b : Bounds) (high : Option Key) (run xs : List Edit) : Type 0 where
  pub above : list_all (is_above b.low) (edit_keys run) ≡ true
  pub below : list_all (is_below high) (edit_keys xs) ≡ true
  pub top : b.high ≡ high

-- the leaf was written once
pub leaf_edited : {told now_told : Option (List (List ℕ))} {free now : ℕ → Bool} {size page : ℕ} {bytes : List ℕ} {is_root : Bool} {b : Bounds}
    {rs : List Record} {used : List ℕ} {high : Option Key} {leaf new : List Record} {xs : List Edit} → WritesPage told now_told size page bytes
    → leaf_of bytes ≡ Some new → IsEdited leaf new xs → leaf ≡ rs → LieWithin b high xs xs → now ≡ free → (if is_root then 1 else 72) ≤ length new
    → CanEdit told free page 1 is_root b rs used → DidEdit xs told now_told free now page 1 is_root b rs used
leaf_edited {told} {now_told} {free} {size} {page} {bytes} {is_root} {b} {rs} {used} {new} {xs} w is d same fits same_free least can =
    let pages = can.pages in
    let s = can.subtree in
    let written = tells_at (λ old new. new ≡ slice_set old page bytes) told now_told pages w.wrote can.is_told in
    let here : 1 ≤ multiplicity page used = subst (λ u. 1 ≤ multiplicity page u) (sym s.is_used) (once_here page) in
    let left : new ≡ edit_all xs rs = d.is ∙ ap (edit_all xs) same in
    let under : list_all (is_below b.high) (edit_keys xs) ≡ true = subst (λ o. list_all (is_below o) (edit_keys xs) ≡ true) (sym fits.top) fits.below in
    let grown : Becomes pages (slice_set pages page bytes) free free page 1 is_root b used (edit_all xs rs) = record {
      uses = used;
      subtree = record {
        page = ap leaf_of (get_or-set_same pages page bytes [] (all_told told size page pages w.many can.is_told w.inside)) ∙ is ∙ ap Some left;
        enough = still_enough is_root (length (edit_all xs rs)) (subst (λ (l : List Record). (if is_root then 1 else 72) ≤ length l) left least);
        within = kept_run (λ k. is_above b.low k && is_below b.high k) xs rs (all_both (is_above b.low) (is_below b.high) (edit_keys xs) fits.above under)
            s.within;
        is_used = s.is_used;
      };
      moves = moves_written pages free used page bytes (used_account free used page here);
    } in
    record {
      pages = pages;
      news = slice_set pages page bytes;
      was = can.is_told;
      is = written.1 ∙ ap Some written.2;
      due = ap (are_due xs) (sym same) ∙ d.due;
      under = under;
      becomes = subst (λ g. Becomes pages (slice_set pages page bytes) free g page 1 is_root b used (edit_all xs rs)) (sym same_free) grown;
    }

all_above_child : (inner : Inner) (b : Bounds) (i : ℕ) (k : Key) (xs : List Key) → IsPlace inner.keys k i
    → list_all (is_above b.low) xs ≡ true → list_all (λ x. is_le (key_cmp k x)) xs ≡ true
    → list_all (is_above (child_bounds inner b i).low) xs ≡ true
all_above_child inner b i k [] p h g = refl
all_above_child inner b i k (x ∷ xs) p h g =
    let s = and_parts (is_above b.low x) (list_all (is_above b.low) xs) h in
    let t = and_parts (is_le (key_cmp k x)) (list_all (λ x. is_le (key_cmp k x)) xs) g in
    and_from (is_above (child_bounds inner b i).low x) (list_all (is_above (child_bounds inner b i).low) xs)
    (subst (λ o. is_above o x ≡ true) (sym (head_low (drop i inner.keys) (from_keys (take i inner.keys) b)))
    (above_from (take i inner.keys) b x
    (all_follow (λ l. is_le (key_cmp l k)) (λ l. is_le (key_cmp l x)) (λ l e. le_le l k x e t.0) (take i inner.keys) p.before) s.0))
    (all_above_child inner b i k xs p s.1 t.1)

module _ (told then_told : Option (List (List ℕ))) (free then_free : ℕ → Bool) (size then_size page height child i : ℕ) (k : Key) (inner : Inner)
    (high next : Option Key) (run : List Edit) (is_root : Bool) (b : Bounds) (rs : List Record) (used : List ℕ)
    (l : LeadsToChild told then_told free then_free size then_size page height child i k inner)
    (is_next : next ≡ option_or (slice_get inner.keys i) high) (top : b.high ≡ high) (can : CanEdit told free page height is_root b rs used) where
  -- the child was edited
  pub under_edited : (now_told : Option (List (List ℕ))) (now : ℕ → Bool) (xs : List Edit) → list_all (λ x. is_le (key_cmp k x))
      (edit_keys run) ≡ true → list_all (λ x. is_le (key_cmp k x)) (edit_keys xs) ≡ true
      → ((b : Bounds) (rs : List Record) (used : List ℕ) → b.high ≡ next → list_all (is_above b.low) (edit_keys run) ≡ true
      → CanEdit then_told then_free child (height - 1) false b rs used → DidEdit xs then_told now_told then_free now child (height - 1) false b rs used)
      → list_all (is_above b.low) (edit_keys run) ≡ true → DidEdit xs told now_told free now page height is_root b rs used
  under_edited now_told now xs whole from f above =
      let a = at_run high next l is_next top can in
      let x = a.x in
      let cb = child_bounds inner b i in
      let did = f cb x.at.here x.at.here_used a.top (all_above_child inner b i k (edit_keys run) l.at.place above whole) a.can in
      let grown = child_before l (λ p g c n. Becomes p did.news g now c n false cb x.at.here_used (edit_all xs x.at.here)) x did.was did.becomes in
      let lies = lie_between a (edit_keys xs) from did.under in
      record {
        pages = x.pages;
        news = did.news;
        was = x.is_told;
        is = did.is;
        due = are_due_between x.at.first x.at.here x.at.last rs xs x.among.records lies.among ∙ did.due;
        under = lies.under;
        becomes = parent_becomes x (edit_all_between x.at.first x.at.here x.at.last rs xs x.among.records lies.among) grown;
      }

  -- what is not due under the child is not due
  pub under_fails : (e : Stop) (q : ℕ) → list_all (λ x. is_le (key_cmp k x)) (edit_keys run) ≡ true
      → ((b : Bounds) (rs : List Record) (used : List ℕ) → b.high ≡ next → CanEdit then_told then_free child (height - 1) false b rs used → (q : ℕ) → e ≡ Damaged q
      → (q ≡ 0) × Fails run b.high rs)
      → e ≡ Damaged q → (q ≡ 0) × Fails run b.high rs
  under_fails e q from f damaged =
      let a = at_run high next l is_next top can in
      let x = a.x in
      let h = f (child_bounds inner b i) x.at.here x.at.here_used a.top a.can q damaged in
      let none = h.1 in
      let xs = take none.number run in
      let lies = lie_between a (edit_keys xs) (all_first (λ x. is_le (key_cmp k x)) none.number run from) none.under in (
        h.0,
        record {
          number = none.number;
          missing = are_due_between x.at.first x.at.here x.at.last rs xs x.among.records lies.among ∙ none.missing;
          under = lies.under;
        },
      )

pub least_first : (run : List Edit) (k : Key) → k ≡ key_of (edit_at run 0) → is_ascending (edit_keys run) ≡ true → 1 ≤ length run
    → list_all (λ x. is_le (key_cmp k x)) (edit_keys run) ≡ true
least_first [] k e a some = absurd (omega arith)
least_first (x ∷ run) k e a some =
    subst (λ m. list_all (λ x. is_le (key_cmp m x)) (edit_keys (x ∷ run)) ≡ true) (sym e) (first_least (edit_keys (x ∷ run)) a (omega arith))

-- a record, and so many of those behind it
pub least_taken : (r : Record) (run : List Edit) (n : ℕ) → is_ascending (r.key ∷ edit_keys run) ≡ true
    → list_all (λ x. is_le (key_cmp r.key x)) (edit_keys (edit.Put r ∷ take n run)) ≡ true
least_taken r run n a =
    all_first (λ x. is_le (key_cmp r.key x)) (suc n) (edit.Put r ∷ run) (least_first (edit.Put r ∷ run) r.key refl a (omega arith))

module _ (old new : Option (List (List ℕ))) (free then_free : ℕ → Bool) (size then_size page height count : ℕ) (bytes : List ℕ) (child : ℕ) (k : Key)
    (high next : Option Key) (run : List Edit) (is_root : Bool) where
  -- a step down
  pub step_edited : (r : Result ℕ Stop) (now_told : Option (List (List ℕ))) (now : ℕ → Bool) → IsRead old new page height count bytes
      → IsSame old new free then_free size then_size → StepsTo count bytes k high child next → list_all (λ x. is_le (key_cmp k x))
      (edit_keys run) ≡ true
      → IfOk r (λ n. 1 ≤ n → (b : Bounds) (rs : List Record) (used : List ℕ) → b.high ≡ next → list_all (is_above b.low) (edit_keys run) ≡ true
      → CanEdit new then_free child (height - 1) false b rs used → DidEdit (take n run) new now_told then_free now child (height - 1) false b rs used)
      → IfOk r (λ n. 1 ≤ n → (b : Bounds) (rs : List Record) (used : List ℕ) → b.high ≡ high → list_all (is_above b.low) (edit_keys run) ≡ true
      → CanEdit old free page height is_root b rs used → DidEdit (take n run) old now_told free now page height is_root b rs used)
  step_edited (Err e) now_told now is same step from f = f
  step_edited (Ok n) now_told now is same step from f =
      λ one b rs used top above can.
      let h = page_here is (edit_spells can) in
      let st = step h.inner h.is in
      under_edited old new free then_free size then_size page height child st.place k h.inner high next run is_root b rs used
      (record {
        at = record { told = is.told; some = is.some; above = is.above; reads = h.reads; place = st.is_place; is_child = st.child_is };
        same = same;
      }) st.next_is top can
      now_told now (take n run) from (all_first (λ x. is_le (key_cmp k x)) n run from) (f one) above

  pub step_fails : (r : Result ℕ Stop) → IsRead old new page height count bytes → IsSame old new free then_free size then_size
      → StepsTo count bytes k high child next → list_all (λ x. is_le (key_cmp k x)) (edit_keys run) ≡ true
      → IfErr r (λ e. (b : Bounds) (rs : List Record) (used : List ℕ) → b.high ≡ next → CanEdit new then_free child (height - 1) false b rs used → (q : ℕ)
      → e ≡ Damaged q → (q ≡ 0) × Fails run b.high rs)
      → IfErr r (λ e. (b : Bounds) (rs : List Record) (used : List ℕ) → b.high ≡ high → CanEdit old free page height is_root b rs used → (q : ℕ) → e ≡ Damaged q
      → (q ≡ 0) × Fails run b.high rs)
  step_fails (Ok n) is same step from f = f
  step_fails (Err e) is same step from f =
      λ b rs used top can q damaged.
      let h = page_here is (edit_spells can) in
      let st = step h.inner h.is in
      under_fails old new free then_free size then_size page height child st.place k h.inner high next run is_root b rs used
      (record {
        at = record { told = is.told; some = is.some; above = is.above; reads = h.reads; place = st.is_place; is_child = st.child_is };
        same = same;
      }) st.next_is top can e q
      from f damaged

module _ (high : Option Key) (run : List Edit) where
  pub fails_leaf : (r : Result ℕ Stop) (told : Option (List (List ℕ))) (free : ℕ → Bool) (page height : ℕ) (is_root : Bool) → height ≡ 1
      → IfErr r (λ e. (b : Bounds) (rs : List Record) (used : List ℕ) → b.high ≡ high → CanEdit told free page 1 is_root b rs used → (q : ℕ) → e ≡ Damaged q
      → (q ≡ 0) × Fails run b.high rs)
      → IfErr r (λ e. (b : Bounds) (rs : List Record) (used : List ℕ) → b.high ≡ high → CanEdit told free page height is_root b rs used → (q : ℕ) → e ≡ Damaged q
      → (q ≡ 0) × Fails run b.high rs)
  fails_leaf (Ok n) told free page height is_root one f = f
  fails_leaf (Err e) told free page height is_root one f =
      λ b rs used top can. f b rs used top (subst (λ h. CanEdit told free page h is_root b rs used) one can)
