-- Records that come behind a full leaf, and become one of their own to its right.
use Rattle.std.proofs.Common.{◌≡◌, ℕ, suc, ◌+◌, ◌<◌, ◌≤◌, Bool, true, false, ◌&&◌, List, [], ◌∷◌, ◌++◌, length, take, Option, Some, slice_index_or, slice_set}
use Rattle.std.proofs.Common.{refl, sym, ◌∙◌, ap, subst, arith, length-take-le}
use Rattle.std.proofs.lemmas.Bool.{and_from, and_parts}
use Rattle.std.proofs.lemmas.List.{append-nil, take_all}
use Rattle.std.specs.List.{list_all}
use Rattle.std.specs.Ordering.{is_le, is_lt}
use Rattle.quilt_record.specs.declared.key.Key.{Key}
use Rattle.quilt_record.specs.declared.record.Record.{Record}
use Rattle.quilt_record.specs.Records.{key_cmp}
use Rattle.quilt_node.specs.Pages.{leaf_of, is_ascending}
use Rattle.quilt_node.specs.Nodes.{IsGap, keys_of}
use Rattle.quilt_node.specs.Tree.{Bounds, is_above, is_below}
use Rattle.quilt_store.specs.Store.{FreesOnly}
use Rattle.quilt_world.specs.Tale.{Goes}
use Rattle.quilt_btree.specs.declared.edit.Edit.{Edit}
use Rattle.quilt_btree.specs.declared.edit.Edit.TheVariants as edit
use Rattle.quilt_btree.specs.declared.outcomes.Inserted.{Inserted}
use Rattle.quilt_btree.specs.declared.outcomes.Inserted.TheVariants as inserted
use Rattle.quilt_btree.specs.Batches.{edit_keys, edit_all, are_due}
use Rattle.quilt_btree.specs.Edits.{multiplicity, KeepsAccount, CanInsert, Separated}
use Rattle.quilt_btree.specs.Placing.{DidPlace, PutsFirst, puts_one}
use Rattle.quilt_btree.proofs.batches.Leaves.{edit_all_between, are_due_between}
use Rattle.quilt_btree.proofs.batches.Puts.{order_take, puts_all, puts_keys, puts_many}
use Rattle.quilt_btree.proofs.growth.LeafGrowth.{at_least}
use Rattle.quilt_btree.proofs.lists.Counts.{once_here}
use Rattle.quilt_btree.proofs.lists.Lists.{AreBelow}
use Rattle.quilt_btree.proofs.lists.Rising.{all_follow, map_all}
use Rattle.quilt_btree.proofs.removals.Drains.{AreAmong, all_lower, first_least}
use Rattle.quilt_btree.proofs.stores.Writes.{TellsAll, all_told, new_written, tells_at}
use Rattle.quilt_btree.proofs.subtrees.Along.{IsSame, can_along}
use Rattle.quilt_btree.proofs.subtrees.Trees.{all_both, leaf_list}

-- what is made of a subtree of a store that tells the same pages, of which the same are free
pub placed_along : {run : List Edit} {told then_told now_told : Option (List (List ℕ))} {free then_free now : ℕ → Bool} {size then_size page height : ℕ}
    {is_root : Bool} {b : Bounds} {k : Key} {rs : List Record} {used : List ℕ} {o : Inserted} → IsSame told then_told free then_free size then_size
    → (CanInsert then_told then_free then_size page height is_root b k rs used
    → DidPlace run then_told now_told then_free now page height is_root b rs used o)
    → CanInsert told free size page height is_root b k rs used → DidPlace run told now_told free now page height is_root b rs used o
placed_along {run} {told} {then_told} {now_told} {free} {then_free} {now} {size} {then_size} {page} {height} {is_root} {b} {k} {rs} {used} {o} same f can =
    subst (λ t. DidPlace run t now_told free now page height is_root b rs used o) same.same_pages
    (subst (λ g. DidPlace run then_told now_told g now page height is_root b rs used o) same.same_free
    (f (can_along told then_told free then_free size then_size page height is_root b rs used k same can)))

-- a record and those of a run behind it come behind all that a full leaf has
pub record ComesBehind (r : Record) (run : List Edit) (rs : List Record) : Type 0 where
  pub gap : IsGap r.key rs 144
  pub many : 71 ≤ length run
  pub puts : list_all puts_one run ≡ true
  pub order : is_ascending (r.key ∷ edit_keys run) ≡ true

-- so many of the first edits behind a record, where it comes behind all that a leaf has
pub comes_behind : {r : Record} {behind : List Edit} {more i : ℕ} {leaf rs : List Record} → leaf ≡ rs → IsGap r.key leaf i → i ≡ 144
    → PutsFirst behind more → 72 ≤ more + 1 → is_ascending (r.key ∷ edit_keys behind) ≡ true → ComesBehind r (take more behind) rs
comes_behind {r} {behind} {more} {i} {leaf} {rs} same gap last first many order = record {
  gap = subst (λ l. IsGap r.key l 144) same (subst (IsGap r.key leaf) last gap);
  many = let long = length-take-le more behind first.number in omega (arith, long, many);
  puts = first.puts;
  order = order_take r.key more behind order;
}

-- a free page was written
pub record WritesNew (told now_told : Option (List (List ℕ))) (free now : ℕ → Bool) (size new : ℕ) (bytes : List ℕ) : Type 0 where
  pub inside : new < size
  pub many : TellsAll told size
  pub was_free : free new ≡ true
  pub taken : FreesOnly new false free now
  pub wrote : Goes (λ old now. now ≡ slice_set old new bytes) told now_told

-- the records of the full leaf and of the new one
record AreTwo (r : Record) (run : List Edit) (rs : List Record) : Type 0 where
  lower : AreBelow r.key rs
  least : list_all (λ k. is_le (key_cmp r.key k)) (edit_keys (edit.Put r ∷ run)) ≡ true
  due : are_due (edit.Put r ∷ run) rs ≡ true
  records : edit_all (edit.Put r ∷ run) rs ≡ rs ++ edit_all (edit.Put r ∷ run) []
  keys : keys_of (edit_all (edit.Put r ∷ run) []) ≡ edit_keys (edit.Put r ∷ run)
  number : length (edit_all (edit.Put r ∷ run) []) ≡ suc (length run)

two_leaves : (r : Record) (run : List Edit) (rs : List Record) → length rs ≤ 144 → ComesBehind r run rs → AreTwo r run rs
two_leaves r run rs few c =
    let xs = edit.Put r ∷ run in
    let fresh = puts_all r run c.puts c.order in
    let lower = subst (λ l. AreBelow r.key l) (take_all 144 rs few) c.gap.before in
    let least = first_least (edit_keys xs) c.order (omega arith) in
    let among : AreAmong rs [] (edit_keys xs) = record {
      lower = all_lower r.key rs (edit_keys xs) lower least;
      higher = all_follow (λ k. is_le (key_cmp r.key k)) (λ k. list_all (λ (s : Record). is_lt (key_cmp k s.key)) []) (λ k h. refl) (edit_keys xs) least;
    } in
    record {
      lower = lower;
      least = least;
      due = are_due_between rs [] [] rs xs (sym (append-nil rs)) among ∙ fresh.due;
      records = edit_all_between rs [] [] rs xs (sym (append-nil rs)) among ∙ ap (λ l. rs ++ l) (append-nil (edit_all xs []));
      keys = ap keys_of (sym fresh.is) ∙ ap (λ l. r.key ∷ l) (puts_keys run c.puts);
      number = ap length (sym fresh.is) ∙ ap suc (puts_many run c.puts);
    }

module _ {told now_told : Option (List (List ℕ))} {free now : ℕ → Bool} {size page new : ℕ} {r : Record} {run : List Edit} {bytes : List ℕ} {is_root : Bool}
    {b : Bounds} {rs : List Record} {used : List ℕ} (c : ComesBehind r run rs) (w : WritesNew told now_told free now size new bytes)
    (is_leaf : leaf_of bytes ≡ Some (edit_all (edit.Put r ∷ run) [])) (under : list_all (is_below b.high) (edit_keys run) ≡ true)
    (can : CanInsert told free size page 1 is_root b r.key rs used) where
  -- the new leaf was written
  pub leaf_placed : DidPlace (edit.Put r ∷ run) told now_told free now page 1 is_root b rs used (inserted.Split r.key new)
  leaf_placed =
      let xs = edit.Put r ∷ run in
      let fresh = edit_all xs [] in
      let pages = can.can_edit.pages in
      let s = can.can_edit.subtree in
      let news = slice_set pages new bytes in
      let written = tells_at (λ old now. now ≡ slice_set old new bytes) told now_told pages w.wrote can.can_edit.is_told in
      let here : 1 ≤ multiplicity page used = subst (λ u. 1 ≤ multiplicity page u) (sym s.is_used) (once_here page) in
      let n = new_written pages free now used new bytes can.can_edit.apart (all_told told size new pages w.many can.can_edit.is_told w.inside) w.was_free
      w.taken in
      let few = (leaf_list (slice_index_or pages page []) rs s.page).most in
      let full = c.gap.in_range in
      let two = two_leaves r run rs few c in
      let below : list_all (is_below b.high) (edit_keys xs) ≡ true = and_from (is_below b.high r.key) (list_all (is_below b.high) (edit_keys run)) can.high
      under in
      let above : list_all (is_above b.low) (keys_of rs) ≡ true = all_follow (λ k. is_above b.low k && is_below b.high k) (is_above b.low)
      (λ k h. (and_parts (is_above b.low k) (is_below b.high k) h).0) (keys_of rs) s.within in
      let separated : Separated pages news free now page 1 b used (edit_all xs rs) r.key new = record {
        first = rs;
        rest = fresh;
        first_uses = page ∷ [];
        rest_uses = new ∷ [];
        is_left = record {
          page = ap leaf_of (n.others page (n.other page here)) ∙ s.page;
          enough = at_least 72 (length rs) (omega arith);
          within = all_both (is_above b.low) (λ k. is_lt (key_cmp k r.key)) (keys_of rs) above
              (map_all (λ (s : Record). s.key) (λ k. is_lt (key_cmp k r.key)) rs two.lower);
          is_used = refl;
        };
        is_right = record {
          page = ap leaf_of n.is_new ∙ is_leaf;
          enough = at_least 72 (length fresh) (enough (length fresh) (length run) two.number c.many);
          within = subst (λ l. list_all (λ k. is_le (key_cmp r.key k) && is_below b.high k) l ≡ true) (sym two.keys)
              (all_both (λ k. is_le (key_cmp r.key k)) (is_below b.high) (edit_keys xs) two.least below);
          is_used = refl;
        };
        records = two.records;
        low = can.low;
        high = can.high;
        moves = subst (λ u. KeepsAccount pages news free now used (new ∷ u)) s.is_used n.moves;
      } in
      record {
        pages = pages;
        news = news;
        was = can.can_edit.is_told;
        is = written.1 ∙ ap Some written.2;
        under = below;
        done = (two.due, separated);
      }
    where
      enough : (m n : ℕ) → m ≡ suc n → 71 ≤ n → 72 ≤ m
      enough m n e h = omega arith
