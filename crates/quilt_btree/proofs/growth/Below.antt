-- A subtree that is to be edited, and the child to which a key leads.
use Rattle.std.proofs.Common.{◌≡◌, ◌≢◌, ℕ, suc, ◌+◌, ◌-◌, ◌<◌, ◌≤◌, Bool, true, false, ◌||◌, nat_le, List, [], ◌∷◌, ◌++◌, length, take, drop, Option, Some, Result}
use Rattle.std.proofs.lemmas.Bool.{and_parts}
use Rattle.std.proofs.lemmas.Option.{same_Some}
use Rattle.std.proofs.Common.{slice_index, slice_index_or, sym, ◌∙◌, ap, subst, arith, take-append-drop}
use Rattle.std.specs.List.{list_all}
use Rattle.std.specs.Ordering.{is_le}
use Rattle.quilt_types.specs.declared.stop.Stop.{Stop}
use Rattle.quilt_record.specs.declared.key.Key.{Key}
use Rattle.quilt_record.specs.declared.record.Record.{Record}
use Rattle.quilt_record.specs.Records.{key_cmp}
use Rattle.quilt_node.specs.Pages.{Inner, inner_of}
use Rattle.quilt_node.specs.Nodes.{IsPlace}
use Rattle.quilt_node.specs.Tree.{Bounds, bounded, are_within, is_above, is_below}
use Rattle.quilt_store.specs.Calls.{OnlyReads}
use Rattle.quilt_store.specs.declared.store.PageStore.{Ghosts}
use Rattle.quilt_btree.specs.Subtree.{Row, Subtree}
use Rattle.quilt_btree.specs.Searches.{IsPath}
use Rattle.quilt_btree.specs.Edits.{multiplicity, Becomes, CanEdit}
use Rattle.quilt_btree.specs.Trees.{SpellsSubtree}
use Rattle.quilt_btree.proofs.lists.Counts.{times-append, times-three}
use Rattle.quilt_btree.proofs.stores.Moves.{AreApart, apart_some}
use Rattle.quilt_btree.proofs.subtrees.Along.{IsSame}
use Rattle.quilt_btree.proofs.subtrees.Trees.{IsInnerList, inner_list, one_less}
use Rattle.quilt_btree.proofs.rows.Places.{front, from_keys, tail_places, bounded_at, one_row, row_one, high_from, head_low}
use Rattle.quilt_btree.proofs.rows.Middles.{RowChanged}
use Rattle.quilt_btree.proofs.rows.Splices.{middle_moved, parent_stays}
use Rattle.quilt_btree.proofs.lists.Lists.{IsAmong}
use Rattle.quilt_btree.proofs.subtrees.Descents.{child_bounds, AtChild, leads_down, cut_children, as_long, place_in}
use Rattle.quilt_btree.proofs.subtrees.Descending.{AtFloor, height_above, key_below}

-- an inner page was read, and the key leads to this child
pub record LeadsToChild (told then_told : Option (List (List ℕ))) (free then_free : ℕ → Bool) (size then_size page height child i : ℕ) (k : Key)
    (inner : Inner) : Type 0 where
  pub at : AtFloor told then_told page height child i k inner
  pub same : IsSame told then_told free then_free size then_size

module _ {S T : Type 0} {g : Ghosts S} {old new : S} {result : Result T Stop} (left : OnlyReads g old new result) where
  -- a call that only reads leaves the same
  pub same_of : IsSame (g.told old) (g.told new) (g.free old) (g.free new) (g.size old) (g.size new)
  same_of = record { same_pages = left.told; same_free = left.free; same_size = left.size }

  pub leads_to : {page height child i : ℕ} {k : Key} {inner : Inner} → 1 ≤ height → height ≢ 1 → IsPath (g.told old) page k i child inner
      → LeadsToChild (g.told old) (g.told new) (g.free old) (g.free new) (g.size old) (g.size new) page height child i k inner
  leads_to some above w = record {
    at = record { told = left.told; some = some; above = above; reads = w.reads; place = w.is_place; is_child = w.child_is };
    same = same_of;
  }

-- what stands below an inner page, around the child to which the key leads
pub record IsBelow (told : Option (List (List ℕ))) (free : ℕ → Bool) (page height : ℕ) (is_root : Bool) (b : Bounds) (k : Key) (rs : List Record)
    (used : List ℕ) (inner : Inner) (i : ℕ) : Type 0 where
  pub pages : List (List ℕ)
  pub is_told : told ≡ Some pages
  pub below : ℕ
  pub is_height : height ≡ suc (suc below)
  pub page_is : inner_of (length pages) (slice_index_or pages page []) ≡ Some inner
  pub list : IsInnerList (length pages) (slice_index_or pages page []) inner
  pub inner_height : inner.height ≡ suc (suc below)
  pub enough : (is_root || nat_le 127 (length inner.children)) ≡ true
  pub within : are_within b inner.keys ≡ true
  pub under : List ℕ
  pub is_used : used ≡ under ++ page ∷ []
  pub apart : AreApart free (under ++ page ∷ [])
  pub at : AtChild (Subtree pages (suc below) false) inner b i rs under
  pub among : IsAmong k at.first at.here at.last rs
  pub child : Subtree pages (suc below) false (slice_index inner.children i, child_bounds inner b i) at.here at.here_used
  pub here_apart : AreApart free at.here_used
  pub in_range : i < length inner.children

-- the children before, at and behind the place
pub cut_at_child : (inner : Inner) (b : Bounds) (i : ℕ) → i < length inner.children → length inner.children ≡ length inner.keys + 1
    → bounded inner.children inner.keys b ≡ front (take i inner.children) (take i inner.keys) b
    ++ ((slice_index inner.children i, child_bounds inner b i) ∷ []
    ++ tail_places (drop (suc i) inner.children) (drop i inner.keys) (from_keys (take i inner.keys) b))
cut_at_child inner b i lt n =
    let ca = take i inner.children in
    let ka = take i inner.keys in
    let kb = drop i inner.keys in
    let cb = drop (suc i) inner.children in
    ap (λ l. bounded l inner.keys b) (cut_children inner.children i lt)
    ∙ ap (λ l. bounded (ca ++ slice_index inner.children i ∷ cb) l b) (sym (take-append-drop i inner.keys))
    ∙ bounded_at ca (slice_index inner.children i) cb ka kb b (as_long inner i lt n)

-- the key lies within the child's bounds
pub above_from : (ks : List Key) (b : Bounds) (k : Key) → list_all (λ l. is_le (key_cmp l k)) ks ≡ true → is_above b.low k ≡ true
    → is_above (from_keys ks b).low k ≡ true
above_from [] b k h g = g
above_from (l ∷ ks) b k h g =
    let t = and_parts (is_le (key_cmp l k)) (list_all (λ m. is_le (key_cmp m k)) ks) h in
    above_from ks (record { low = Some l; high = b.high }) k t.1 t.0

pub child_above : (inner : Inner) (b : Bounds) (i : ℕ) (k : Key) → IsPlace inner.keys k i → is_above b.low k ≡ true
    → is_above (child_bounds inner b i).low k ≡ true
child_above inner b i k p h =
    subst (λ o. is_above o k ≡ true) (sym (head_low (drop i inner.keys) (from_keys (take i inner.keys) b)))
    (above_from (take i inner.keys) b k p.before h)

pub child_below : (inner : Inner) (b : Bounds) (i : ℕ) (k : Key) → IsPlace inner.keys k i → is_below b.high k ≡ true
    → is_below (child_bounds inner b i).high k ≡ true
child_below inner b i k p h =
    key_below (drop i inner.keys) (from_keys (take i inner.keys) b) k p.behind
    (subst (λ o. is_below o k ≡ true) (sym (high_from (take i inner.keys) b)) h)

module _ {told then_told : Option (List (List ℕ))} {free then_free : ℕ → Bool} {size then_size page height child i : ℕ} {k : Key} {inner : Inner}
    {is_root : Bool} {b : Bounds} {rs : List Record} {used : List ℕ}
    (l : LeadsToChild told then_told free then_free size then_size page height child i k inner) where
  pub go_below : CanEdit told free page height is_root b rs used → IsBelow told free page height is_root b k rs used inner i
  go_below can =
      let n = height_above height l.at.some l.at.above in
      let s = subst (λ m. Subtree can.pages m is_root (page, b) rs used) n.1 can.subtree in
      let there = l.at.reads can.pages can.is_told in
      let mine = s.page in
      let same : s.inner ≡ inner = cc in
      let list = inner_list (length can.pages) (slice_index_or can.pages page []) inner there in
      let within = subst (λ (x : Inner). are_within b x.keys ≡ true) same s.within in
      let row = subst (λ (x : Inner). Row (Subtree can.pages (suc n.0) false) (bounded x.children x.keys b) rs s.under) same s.children in
      let down = leads_down inner b i rs s.under can.pages n.0 (slice_index_or can.pages page []) k list within l.at.place row in
      let at = down.at in
      let inside : (p : ℕ) → multiplicity p at.here_used ≤ multiplicity p used = λ p.
      part (multiplicity p used) (multiplicity p s.under) (multiplicity p (page ∷ [])) (multiplicity p at.last_used) (multiplicity p at.here_used) (multiplicity p at.first_used)
      (ap (multiplicity p) s.is_used ∙ times-append p s.under (page ∷ [])) (ap (multiplicity p) at.is_used ∙ times-three p at.last_used at.here_used at.first_used) in
      record {
        pages = can.pages;
        is_told = can.is_told;
        below = n.0;
        is_height = n.1;
        page_is = there;
        list = list;
        inner_height = subst (λ (x : Inner). x.height ≡ suc (suc n.0)) same s.is_height;
        enough = subst (λ (x : Inner). (is_root || nat_le 127 (length x.children)) ≡ true) same s.enough;
        within = within;
        under = s.under;
        is_used = s.is_used;
        apart = subst (AreApart free) s.is_used can.apart;
        at = at;
        among = record { records = at.records; lower = down.lower; higher = down.higher };
        child = one_row (Subtree can.pages (suc n.0) false) (slice_index inner.children i, child_bounds inner b i) at.here at.here_used at.row_here;
        here_apart = apart_some free at.here_used used inside can.apart;
        in_range = place_in inner k i l.at.place list.keys;
      }
    where
      part : (u d g l h f : ℕ) → u ≡ d + g → d ≡ l + h + f → h ≤ u
      part u d g l h f e q = omega arith

  -- the child can be edited
  pub child_edit : (x : IsBelow told free page height is_root b k rs used inner i)
      → CanEdit then_told then_free child (height - 1) false (child_bounds inner b i) x.at.here x.at.here_used
  child_edit x = record {
    pages = x.pages;
    is_told = l.same.same_pages ∙ x.is_told;
    subtree = subst (λ c. Subtree x.pages (height - 1) false (c, child_bounds inner b i) x.at.here x.at.here_used) (sym l.at.is_child)
        (subst (λ n. Subtree x.pages n false (slice_index inner.children i, child_bounds inner b i) x.at.here x.at.here_used)
        (sym (one_less height x.below x.is_height)) x.child);
    apart = subst (λ (g : ℕ → Bool). AreApart g x.at.here_used) (sym l.same.same_free) x.here_apart;
  }

  -- what is so of the child behind the look is so of it before
  pub child_before : (P : List (List ℕ) → (ℕ → Bool) → (page height : ℕ) → Type 0) (x : IsBelow told free page height is_root b k rs used inner i)
      {pages : List (List ℕ)} → then_told ≡ Some pages → P pages then_free child (height - 1)
      → P x.pages free (slice_index inner.children i) (suc x.below)
  child_before P x {pages} was h =
      let same : pages ≡ x.pages = same_Some pages x.pages (sym was ∙ l.same.same_pages ∙ x.is_told) in
      subst (λ f. P x.pages f (slice_index inner.children i) (suc x.below)) l.same.same_free
      (subst (λ p. P p then_free (slice_index inner.children i) (suc x.below)) same
      (subst (λ c. P pages then_free c (suc x.below)) l.at.is_child (subst (λ n. P pages then_free child n) (one_less height x.below x.is_height) h)))

-- the page behind an edit of the child alone
pub parent_becomes : {told : Option (List (List ℕ))} {free : ℕ → Bool} {page height : ℕ} {is_root : Bool} {b : Bounds} {k : Key} {rs : List Record}
    {used : List ℕ} {inner : Inner} {i : ℕ} (x : IsBelow told free page height is_root b k rs used inner i) {news : List (List ℕ)} {now : ℕ → Bool}
    {all whole : List Record} → whole ≡ x.at.first ++ (all ++ x.at.last)
    → Becomes x.pages news free now (slice_index inner.children i) (suc x.below) false (child_bounds inner b i) x.at.here_used all
    → Becomes x.pages news free now page height is_root b used whole
parent_becomes {free = free} {page = page} {is_root = is_root} {b = b} {used = used} {inner = inner} {i = i} x {news} {now} {all} {whole} is grown =
    let place : ℕ × Bounds = (slice_index inner.children i, child_bounds inner b i) in
    let S = Subtree news (suc x.below) false in
    let moved = middle_moved x.pages news x.below page (place ∷ []) all x.apart x.at (row_one S place all grown.uses grown.subtree) grown.moves in
    let becomes = parent_stays x.pages news x.page_is x.inner_height x.enough x.within
    (subst (λ (cs : List (ℕ × Bounds)). RowChanged S x.pages news free now page cs (x.at.first ++ (all ++ x.at.last)) x.under)
    (sym (cut_at_child inner b i x.in_range x.list.keys)) moved) in
    subst (λ n. Becomes x.pages news free now page n is_root b used whole) (sym x.is_height)
    (subst (λ u. Becomes x.pages news free now page (suc (suc x.below)) is_root b u whole) (sym x.is_used)
    (subst (λ m. Becomes x.pages news free now page (suc (suc x.below)) is_root b (x.under ++ page ∷ []) m) (sym is) becomes))

-- the list of a subtree that can be edited
pub edit_spells : {told : Option (List (List ℕ))} {free : ℕ → Bool} {page height : ℕ} {is_root : Bool} {b : Bounds} {rs : List Record} {used : List ℕ}
    → CanEdit told free page height is_root b rs used → SpellsSubtree told page height rs
edit_spells {is_root = is_root} {b = b} {used = used} can =
    record { pages = can.pages; is_told = can.is_told; is_root = is_root; bounds = b; used = used; subtree = can.subtree }
