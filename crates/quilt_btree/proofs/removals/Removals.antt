-- A record is taken out of the child to which its key leads.
use Rattle.std.proofs.Common.{◌≡◌, ◌≢◌, ℕ, suc, ◌-◌, Bool, true, false, ◌==◌, List, [], ◌∷◌, ◌++◌, length, Option}
use Rattle.std.proofs.Common.{Some, Result, Ok, Err, IfOk, IfErr, slice_index, slice_index_or, refl, sym, ◌∙◌, ap, subst}
use Rattle.std.specs.List.{list_any}
use Rattle.std.proofs.lemmas.Option.{same_Some}
use Rattle.quilt_record.specs.declared.key.Key.{Key}
use Rattle.quilt_record.specs.declared.record.Record.{Record}
use Rattle.quilt_node.specs.Pages.{Inner, inner_of}
use Rattle.quilt_node.specs.Tree.{Bounds, bounded}
use Rattle.quilt_types.specs.declared.stop.Stop.{Stop}
use Rattle.quilt_btree.specs.declared.outcomes.Removed.{Removed}
use Rattle.quilt_btree.specs.declared.outcomes.Removed.TheVariants as removed
use Rattle.quilt_record.specs.Lists.{has_key, without}
use Rattle.quilt_store.specs.Stops.{IsNotDamage}
use Rattle.quilt_btree.specs.Subtree.{Row, Subtree}
use Rattle.quilt_btree.specs.Edits.{KeepsAccount, Becomes, IsNearlyFull, CanEdit, HasLeft, DidLeave, DidRemove}
use Rattle.quilt_btree.specs.Rebalancing.{Partly, HasUnderfull}
use Rattle.quilt_btree.proofs.lists.Counts.{self_test}
use Rattle.quilt_btree.proofs.stores.Moves.{apart_then, moves_then}
use Rattle.quilt_btree.proofs.rows.Splices.{becomes_then}
use Rattle.quilt_btree.proofs.lists.Lists.{any_between, without_between}
use Rattle.quilt_btree.proofs.rows.Places.{row_one}
use Rattle.quilt_btree.proofs.subtrees.Descents.{child_bounds}
use Rattle.quilt_btree.proofs.rows.Middles.{around, middle_changed}
use Rattle.quilt_btree.proofs.removals.Underfulls.{any_root}
use Rattle.quilt_btree.proofs.growth.Below.{LeadsToChild, go_below, child_edit, child_before, parent_becomes, cut_at_child}

never : false ≡ true → ⊥
never e = cc

abbrev pub Removes : Key → (mid now_told : Option (List (List ℕ))) (was now : ℕ → Bool) → ℕ → ℕ → Removed → Type 0
Removes k mid now_told was now child height o =
    (is_root : Bool) (b : Bounds) (rs : List Record) (used : List ℕ) → CanEdit mid was child height is_root b rs used
    → DidRemove k mid now_told was now child height is_root b rs used o

-- an error of the child, and a key that it has not
module _ {k : Key} {told mid : Option (List (List ℕ))} {free was : ℕ → Bool} {size mid_size page height child i : ℕ} {inner : Inner} {is_root : Bool}
    {b : Bounds} {rs : List Record} {used : List ℕ} (l : LeadsToChild told mid free was size mid_size page height child i k inner)
    (can : CanEdit told free page height is_root b rs used) where
  pub sound_child : (e : Stop)
      → ((is_root : Bool) (b : Bounds) (rs : List Record) (used : List ℕ) → CanEdit mid was child (height - 1) is_root b rs used → IsNotDamage e)
      → IsNotDamage e
  sound_child e f = let x = go_below l can in f false (child_bounds inner b i) x.at.here x.at.here_used (child_edit l x)

  pub missing_child : ((is_root : Bool) (b : Bounds) (rs : List Record) (used : List ℕ) → CanEdit mid was child (height - 1) is_root b rs used
      → list_any (has_key k) rs ≡ false)
      → list_any (has_key k) rs ≡ false
  missing_child f =
      let x = go_below l can in
      any_between k x.at.first x.at.here x.at.last rs x.among ∙ f false (child_bounds inner b i) x.at.here x.at.here_used (child_edit l x)

module _ {k : Key} {told mid between : Option (List (List ℕ))} {free was then : ℕ → Bool} {size mid_size page height child i : ℕ} {inner : Inner}
    {is_root : Bool} {b : Bounds} {rs : List Record} {used : List ℕ} (l : LeadsToChild told mid free was size mid_size page height child i k inner) where
  pub done_child : Removes k mid between was then child (height - 1) removed.Done → CanEdit told free page height is_root b rs used
      → DidRemove k told between free then page height is_root b rs used removed.Done
  done_child f can =
      let x = go_below l can in
      let did = f false (child_bounds inner b i) x.at.here x.at.here_used (child_edit l x) in
      let left = did.1 in (
        any_between k x.at.first x.at.here x.at.last rs x.among ∙ did.0,
        record {
          pages = x.pages;
          news = left.news;
          was = x.is_told;
          is = left.is;
          left = parent_becomes x (without_between k x.at.first x.at.here x.at.last rs x.among)
              (child_before l (λ p g c n. Becomes p left.news g then c n false (child_bounds inner b i) x.at.here_used (without k x.at.here)) x left.was
              left.left);
        },
      )

  -- no child is emptied, or has one child alone
  pub emptied_child : (e : Stop) → Removes k mid between was then child (height - 1) removed.Emptied → CanEdit told free page height is_root b rs used
      → IsNotDamage e
  emptied_child e f can =
      let x = go_below l can in
      absurd (never (f false (child_bounds inner b i) x.at.here x.at.here_used (child_edit l x)).1.left.root)

  pub only_child : (only : ℕ) (e : Stop) → Removes k mid between was then child (height - 1) (removed.Only only)
      → CanEdit told free page height is_root b rs used → IsNotDamage e
  only_child only e f can =
      let x = go_below l can in
      absurd (never (f false (child_bounds inner b i) x.at.here x.at.here_used (child_edit l x)).1.left.0)

to_partly : (pages : List (List ℕ)) (h underfull : ℕ) (c : ℕ × Bounds) (ss : List Record) (u : List ℕ) → Subtree pages (suc h) false c ss u
    → Partly pages (suc h) underfull c ss u
to_partly pages h underfull c ss u s = any_root pages (suc h) (c.0 == underfull) c ss u s

-- the page with its child underfull
pub record UnderfullChild (k : Key) (told between : Option (List (List ℕ))) (free then : ℕ → Bool) (page height i : ℕ) (inner : Inner) (is_root : Bool)
    (b : Bounds) (rs : List Record) (used : List ℕ) : Type 0 where
  pub pages : List (List ℕ)
  pub was : told ≡ Some pages
  pub more : List ℕ
  pub mids : List (List ℕ)
  pub is : between ≡ Some mids
  pub had : list_any (has_key k) rs ≡ true
  pub underfull : HasUnderfull between then page height inner i is_root b (without k rs) more
  pub moves : KeepsAccount pages mids free then used more

-- what is left behind two edits
did_leave : (told : Option (List (List ℕ))) {between now_told : Option (List (List ℕ))} {free then now : ℕ → Bool} {page height : ℕ} {is_root : Bool}
    {b : Bounds} {used more : List ℕ} {all : List Record} {o : Removed} {pages mids : List (List ℕ)} → height ≢ 1 → told ≡ Some pages
    → between ≡ Some mids → KeepsAccount pages mids free then used more → DidLeave between now_told then now page height is_root b more all o
    → DidLeave told now_told free now page height is_root b used all o
did_leave told {free = free} {then = then} {now = now} {page = page} {height = height} {is_root = is_root} {b = b} {used = used} {more = more} {all = all} {o = o} {pages = pages} {mids = mids} ne e g m d =
    let same : mids ≡ d.pages = same_Some mids d.pages (sym g ∙ d.was) in
    record {
      pages = pages;
      news = d.news;
      was = e;
      is = d.is;
      left = left o (subst (λ p. KeepsAccount pages p free then used more) same m) d.left;
    }
  where
    left : (o : Removed) → KeepsAccount pages d.pages free then used more → HasLeft d.pages d.news then now page height is_root b more all o
        → HasLeft pages d.news free now page height is_root b used all o
    left removed.Missing k l = l
    left removed.Done k l = becomes_then k l
    left removed.Underfull k l = (l.0, becomes_then k l.1)
    left removed.Emptied k l = absurd (ne l.is_leaf)
    left (removed.Only child) k l =
        let c = l.1 in
        (l.0, record { below = c.below; is_height = c.is_height; uses = c.uses; subtree = c.subtree; moves = moves_then k c.moves })

-- what became of it
removed_as : (k : Key) {told now_told : Option (List (List ℕ))} {free now : ℕ → Bool} {page height : ℕ} {is_root : Bool} {b : Bounds}
    (rs : List Record) {used : List ℕ} {o : Removed} → (o ≡ removed.Missing → ⊥) → list_any (has_key k) rs ≡ true
    → DidLeave told now_told free now page height is_root b used (without k rs) o → DidRemove k told now_told free now page height is_root b rs used o
removed_as k rs {o = removed.Missing} some had d = absurd (some refl)
removed_as k rs {o = removed.Done} some had d = (had, d)
removed_as k rs {o = removed.Underfull} some had d = (had, d)
removed_as k rs {o = removed.Emptied} some had d = (had, d)
removed_as k rs {o = (removed.Only child)} some had d = (had, d)

module _ {k : Key} {told mid between : Option (List (List ℕ))} {free was then : ℕ → Bool} {size mid_size page height child i : ℕ} {inner : Inner}
    (l : LeadsToChild told mid free was size mid_size page height child i k inner)
    (f : Removes k mid between was then child (height - 1) removed.Underfull) where
  pub underfull_child : {is_root : Bool} {b : Bounds} {rs : List Record} {used : List ℕ} → CanEdit told free page height is_root b rs used
      → UnderfullChild k told between free then page height i inner is_root b rs used
  underfull_child {b = b} {rs = rs} {used = used} can =
      let x = go_below l can in
      let at = x.at in
      let underfull = slice_index inner.children i in
      let did = f false (child_bounds inner b i) at.here at.here_used (child_edit l x) in
      let left = did.1 in
      let here = child_before l (λ p g c n. Becomes p left.news g then c n true (child_bounds inner b i) at.here_used (without k at.here)) x left.was
      left.left.1 in
      let T = Partly left.news (suc x.below) underfull in
      let subtree : T (underfull, child_bounds inner b i) (without k at.here) here.uses =
      subst (λ r. Subtree left.news (suc x.below) r (underfull, child_bounds inner b i) (without k at.here) here.uses) (sym (self_test underfull))
      here.subtree in
      let changed = middle_changed T x.below (to_partly left.news x.below underfull) ((underfull, child_bounds inner b i) ∷ []) (without k at.here)
      (around free page at x.apart) (row_one T (underfull, child_bounds inner b i) (without k at.here) here.uses subtree) here.moves in
      let row = subst (λ cs. Row T cs (at.first ++ (without k at.here ++ at.last)) changed.uses) (sym (cut_at_child inner b i x.in_range x.list.keys))
      changed.row in
      record {
        pages = x.pages;
        was = x.is_told;
        more = changed.uses ++ page ∷ [];
        mids = left.news;
        is = left.is;
        had = any_between k at.first at.here at.last rs x.among ∙ did.0;
        underfull = record {
          pages = left.news;
          is_told = left.is;
          below = x.below;
          is_height = x.is_height;
          page_is = ap (λ n. inner_of n (slice_index_or left.news page [])) changed.moves.size ∙ ap (inner_of (length x.pages)) changed.page_stays ∙ x.page_is;
          inner_height = x.inner_height ∙ sym x.is_height;
          enough = x.enough;
          within = x.within;
          under = changed.uses;
          children = subst (λ ss. Row T (bounded inner.children inner.keys b) ss changed.uses)
              (sym (without_between k at.first at.here at.last rs x.among)) row;
          nearly = child_before l (λ p g c n. IsNearlyFull left.news n c) x left.was (left.left.0 refl);
          is_used = refl;
          apart = apart_then x.pages left.news free then (x.under ++ page ∷ []) (changed.uses ++ page ∷ []) changed.moves x.apart;
        };
        moves = subst (λ u. KeepsAccount x.pages left.news free then u (changed.uses ++ page ∷ [])) (sym x.is_used) changed.moves;
      }

  pub rebalanced_child : (r : Result Removed Stop) (now_told : Option (List (List ℕ))) (now : ℕ → Bool) → IfOk r (λ o. o ≡ removed.Missing → ⊥)
      → IfOk r (λ o. (is_root : Bool) (b : Bounds) (rs : List Record) (used : List ℕ) → HasUnderfull between then page height inner i is_root b rs used
      → DidLeave between now_told then now page height is_root b used rs o)
      → IfOk r (λ o. (is_root : Bool) (b : Bounds) (rs : List Record) (used : List ℕ) → CanEdit told free page height is_root b rs used
      → DidRemove k told now_told free now page height is_root b rs used o)
  rebalanced_child (Err e) now_told now some g = g
  rebalanced_child (Ok o) now_told now some g = λ is_root b rs used can.
      let s = underfull_child can in
      removed_as k rs some s.had (did_leave told l.at.above s.was s.is s.moves (g is_root b (without k rs) s.more s.underfull))

  pub rebalanced_sound : (r : Result Removed Stop)
      → IfErr r (λ e. (is_root : Bool) (b : Bounds) (rs : List Record) (used : List ℕ) → HasUnderfull between then page height inner i is_root b rs used → IsNotDamage e)
      → IfErr r (λ e. (is_root : Bool) (b : Bounds) (rs : List Record) (used : List ℕ) → CanEdit told free page height is_root b rs used → IsNotDamage e)
  rebalanced_sound (Ok v) g = g
  rebalanced_sound (Err e) g = λ is_root b rs used can.
      let s = underfull_child can in
      g is_root b (without k rs) s.more s.underfull

-- at height 1
pub leaf_sound : (r : Result Removed Stop) (told : Option (List (List ℕ))) (free : ℕ → Bool) (page height : ℕ) → height ≡ 1
    → IfErr r (λ e. (h : ℕ) (is_root : Bool) (b : Bounds) (rs : List Record) (used : List ℕ) → h ≡ 1 → CanEdit told free page h is_root b rs used → IsNotDamage e)
    → IfErr r (λ e. (is_root : Bool) (b : Bounds) (rs : List Record) (used : List ℕ) → CanEdit told free page height is_root b rs used → IsNotDamage e)
leaf_sound (Ok v) told free page height one f = f
leaf_sound (Err e) told free page height one f = λ is_root b rs used can. f height is_root b rs used one can
