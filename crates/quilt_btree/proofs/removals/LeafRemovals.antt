-- What becomes of a leaf when a record is taken out of it.
use Rattle.std.proofs.Common.{◌≡◌, ℕ, zero, suc, ◌<◌, ◌≤◌, Bool, true, false, ◌||◌, ◌&&◌, nat_le, List, [], ◌∷◌, length, map, take, drop, Option, Some, None}
use Rattle.std.proofs.lemmas.Bool.{leb-true, le-leb}
use Rattle.std.proofs.Common.{IfSome, slice_index_or, slice_set, refl, sym, ◌∙◌, ap, subst, arith, get_or-set_same, take-append-drop}
use Rattle.std.specs.List.{list_any, list_all, remove}
use Rattle.std.proofs.lemmas.Option.{same_Some}
use Rattle.quilt_record.specs.declared.key.Key.{Key}
use Rattle.quilt_record.specs.declared.record.Record.{Record}
use Rattle.quilt_node.specs.Pages.{leaf_of}
use Rattle.quilt_node.specs.Nodes.{IsFound, IsGap}
use Rattle.quilt_node.specs.Tree.{Bounds, are_within, is_above, is_below}
use Rattle.quilt_world.specs.Tale.{Goes}
use Rattle.quilt_btree.specs.declared.outcomes.Removed.TheVariants as removed
use Rattle.quilt_record.specs.Lists.{has_key, without}
use Rattle.quilt_btree.specs.Searches.{AreOf}
use Rattle.quilt_btree.specs.Subtree.{Subtree}
use Rattle.quilt_btree.specs.Trees.{ReadsLeaf}
use Rattle.quilt_btree.specs.Edits.{multiplicity, Becomes, CanEdit, IsNearlyFull, DidRemove}
use Rattle.quilt_btree.proofs.lists.Counts.{once_here}
use Rattle.quilt_btree.proofs.stores.Moves.{moves_written, used_account}
use Rattle.quilt_btree.proofs.ways.Leaves.{gap_any, found_any, without_found}
use Rattle.quilt_btree.proofs.lists.Rising.{all_parts, all_append}

-- a store that tells goes on telling
pub tells_on : (step : List (List ℕ) → List (List ℕ) → Type 0) (old new : Option (List (List ℕ))) (pages : List (List ℕ))
    → old ≡ Some pages → Goes step old new
    → (news : List (List ℕ)) × (new ≡ Some news) × step pages news
tells_on step (Some p) (Some q) pages e t = let same : p ≡ pages = cc in (q, refl, subst (λ l. step l q) same t)
tells_on step (Some p) None pages e t = absurd t
tells_on step None new pages e t = cc

pub has_many : (told : Option (List (List ℕ))) (pages : List (List ℕ)) (size page : ℕ) → IfSome told (λ l. length l ≡ size) → told ≡ Some pages
    → page < size → page < length pages
has_many told pages size page many e inside = let long : length pages ≡ size = subst (λ o. IfSome o (λ l. length l ≡ size)) e many in omega arith

-- a page with too few is the root
pub few_root : (r : Bool) (least n : ℕ) → (r || nat_le least n) ≡ true → n < least → r ≡ true
few_root true least n h few = refl
few_root false least n h few = let g = leb-true least n h in absurd (omega arith)

pub not_root : (r : Bool) (least n : ℕ) → (r || nat_le least n) ≡ true → r ≡ false → least ≤ n
not_root true least n h e = cc
not_root false least n h e = leb-true least n h

pub many_enough : (r : Bool) (least n : ℕ) → least ≤ n → (r || nat_le least n) ≡ true
many_enough true least n h = refl
many_enough false least n h = le-leb least n h

pub all_removed : {X : Type 0} (p : X → Bool) (xs : List X) (i : ℕ) → list_all p xs ≡ true → list_all p (remove xs i) ≡ true
all_removed {X = X} p xs i h =
    let parts = all_parts p (take i xs) (drop i xs) (subst (λ l. list_all p l ≡ true) (sym (take-append-drop i xs)) h) in
    all_append p (take i xs) (drop (suc i) xs) parts.0 (drop_all xs i h)
  where
    drop_all : (xs : List X) (i : ℕ) → list_all p xs ≡ true → list_all p (drop (suc i) xs) ≡ true
    drop_all xs i h = (all_parts p (take (suc i) xs) (drop (suc i) xs) (subst (λ l. list_all p l ≡ true) (sym (take-append-drop (suc i) xs)) h)).1

map_remove : {X Y : Type 0} (f : X → Y) (xs : List X) (i : ℕ) → map f (remove xs i) ≡ remove (map f xs) i
map_remove f [] zero = refl
map_remove f [] (suc i) = refl
map_remove f (x ∷ xs) zero = refl
map_remove f (x ∷ xs) (suc i) = ap (λ l. f x ∷ l) (map_remove f xs i)

-- the records that are left lie within the same bounds
pub removed_within : (b : Bounds) (rs : List Record) (i : ℕ) → are_within b (map (λ r. r.key) rs) ≡ true
    → are_within b (map (λ r. r.key) (remove rs i)) ≡ true
removed_within b rs i h =
    subst (λ l. are_within b l ≡ true) (sym (map_remove (λ (r : Record). r.key) rs i))
    (all_removed (λ k. is_above b.low k && is_below b.high k) (map (λ r. r.key) rs) i h)

-- a leaf is written with other records
pub leaf_becomes : {pages : List (List ℕ)} (free : ℕ → Bool) {page : ℕ} {is_root : Bool} (r : Bool) {b : Bounds} {rs all : List Record} {used : List ℕ} (bytes : List ℕ)
    → Subtree pages 1 is_root (page, b) rs used → page < length pages → leaf_of bytes ≡ Some all → (r || nat_le 72 (length all)) ≡ true
    → are_within b (map (λ r. r.key) all) ≡ true
    → Becomes pages (slice_set pages page bytes) free free page 1 r b used all
leaf_becomes {pages} free {page} r {used} bytes s inside is enough within = record {
  uses = used;
  subtree = record {
    page = ap leaf_of (get_or-set_same pages page bytes [] inside) ∙ is;
    enough = enough;
    within = within;
    is_used = s.is_used;
  };
  moves = moves_written pages free used page bytes (used_account free used page (subst (λ l. 1 ≤ multiplicity page l) (sym s.is_used) (once_here page)));
}

-- the leaf that the bytes of a page are
pub leaf_read : {told : Option (List (List ℕ))} {page : ℕ} {bytes : List ℕ} {leaf : List Record} → AreOf told page bytes → leaf_of bytes ≡ Some leaf
    → ReadsLeaf told page leaf
leaf_read are is = λ pages told. ap leaf_of (sym (are pages told)) ∙ is

pub leaf_same : {told : Option (List (List ℕ))} {free : ℕ → Bool} {page : ℕ} {is_root : Bool} {b : Bounds} {rs leaf : List Record} {used : List ℕ}
    → CanEdit told free page 1 is_root b rs used → ReadsLeaf told page leaf → leaf ≡ rs
leaf_same {page} {is_root} {b} {rs} {used} can reads =
    let s : Subtree can.pages 1 is_root (page, b) rs used = can.subtree in
    let there = reads can.pages can.is_told in
    let mine = s.page in
    cc

-- a leaf with one record alone
no_one : {X : Type 0} (xs : List X) (i : ℕ) → i < length xs → length xs ≡ 1 → remove xs i ≡ []
no_one [] i h e = absurd (omega arith)
no_one (x ∷ []) zero h e = refl
no_one (x ∷ []) (suc i) h e = absurd (omega arith)
no_one (x ∷ y ∷ xs) i h e = absurd (omega arith)

module _ (k : Key) (told now_told : Option (List (List ℕ))) (free now : ℕ → Bool) (page height i : ℕ) (is_root : Bool) (b : Bounds)
    (rs leaf : List Record) (used : List ℕ) (one : height ≡ 1) (reads : ReadsLeaf told page leaf) where
  pub leaf_missing : IsGap k leaf i → CanEdit told free page height is_root b rs used
      → DidRemove k told now_told free now page height is_root b rs used removed.Missing
  leaf_missing gap can =
      subst (λ l. list_any (has_key k) l ≡ false)
      (leaf_same (subst (λ h. CanEdit told free page h is_root b rs used) one can) reads) (gap_any k leaf i gap)

  pub leaf_emptied : IsFound k leaf i → length leaf ≡ 1 → now_told ≡ told → now ≡ free → CanEdit told free page height is_root b rs used
      → DidRemove k told now_told free now page height is_root b rs used removed.Emptied
  leaf_emptied found alone t f can =
      let can1 = subst (λ h. CanEdit told free page h is_root b rs used) one can in
      let same = leaf_same can1 reads in
      let s : Subtree can1.pages 1 is_root (page, b) rs used = can1.subtree in
      let few : length rs < 72 = subst (λ l. length l < 72) same (one_few (length leaf) alone) in (
        subst (λ l. list_any (has_key k) l ≡ true) same (found_any k leaf i found.found found found.here),
        record {
          pages = can1.pages;
          news = can1.pages;
          was = can1.is_told;
          is = t ∙ can1.is_told;
          left = record {
            root = few_root is_root 72 (length rs) s.enough few;
            is_leaf = one;
            none = ap (without k) (sym same) ∙ sym (without_found k leaf i found.found found found.here) ∙ no_one leaf i found.in_range alone;
            stays = refl;
            frees = f;
            is_used = s.is_used;
          };
        },
      )
    where
      one_few : (n : ℕ) → n ≡ 1 → n < 72
      one_few n e = omega arith

-- what is known where a leaf was written without a record
pub record LeafCut (k : Key) (told mid now_told : Option (List (List ℕ))) (free now : ℕ → Bool) (page size i : ℕ) (leaf all : List Record)
    (bytes : List ℕ) : Type 0 where
  pub reads : ReadsLeaf told page leaf
  pub inside : page < size
  pub many : IfSome told (λ l. length l ≡ size)
  pub found : IsFound k leaf i
  pub all_is : all ≡ remove leaf i
  pub written : leaf_of bytes ≡ Some all
  pub is_mid : mid ≡ told
  pub tells : Goes (λ old new. new ≡ slice_set old page bytes) mid now_told
  pub frees : now ≡ free

-- what the leaf is then
pub record LeafAfter (k : Key) (told now_told : Option (List (List ℕ))) (free now : ℕ → Bool) (page : ℕ) (is_root r : Bool) (b : Bounds)
    (rs all : List Record) (used bytes : List ℕ) : Type 0 where
  pub pages : List (List ℕ)
  pub news : List (List ℕ)
  pub was : told ≡ Some pages
  pub is : now_told ≡ Some news
  pub becomes : Becomes pages news free now page 1 r b used (without k rs)
  pub had : list_any (has_key k) rs ≡ true
  pub page_is : leaf_of (slice_index_or news page []) ≡ Some all

pub leaf_after : {k : Key} {told mid now_told : Option (List (List ℕ))} {free now : ℕ → Bool} {page size i : ℕ} {is_root : Bool} (r : Bool)
    {b : Bounds} {rs leaf all : List Record} {used bytes : List ℕ} → LeafCut k told mid now_told free now page size i leaf all bytes
    → (r || nat_le 72 (length all)) ≡ true → CanEdit told free page 1 is_root b rs used
    → LeafAfter k told now_told free now page is_root r b rs all used bytes
leaf_after {k = k} {told = told} {mid = mid} {now_told = now_told} {free = free} {page = page} {size = size} {i = i} {is_root = is_root} r {b = b} {rs = rs} {leaf = leaf} {all = all} {used = used} {bytes = bytes} c enough can =
    let same = leaf_same can c.reads in
    let s : Subtree can.pages 1 is_root (page, b) rs used = can.subtree in
    let on = tells_on (λ old new. new ≡ slice_set old page bytes) mid now_told can.pages (c.is_mid ∙ can.is_told) c.tells in
    let inside = has_many told can.pages size page c.many can.is_told c.inside in
    let is_all : all ≡ without k rs = c.all_is ∙ without_found k leaf i c.found.found c.found c.found.here ∙ ap (without k) same in
    let within : are_within b (map (λ r. r.key) all) ≡ true =
    subst (λ l. are_within b (map (λ r. r.key) l) ≡ true) (sym (c.all_is ∙ ap (λ l. remove l i) same)) (removed_within b rs i s.within) in
    let becomes = leaf_becomes free r bytes s inside c.written enough within in
    record {
      pages = can.pages;
      news = slice_set can.pages page bytes;
      was = can.is_told;
      is = on.1 ∙ ap Some on.2;
      becomes = subst (λ f. Becomes can.pages (slice_set can.pages page bytes) free f page 1 r b used (without k rs)) (sym c.frees)
          (subst (λ l. Becomes can.pages (slice_set can.pages page bytes) free free page 1 r b used l) is_all becomes);
      had = subst (λ l. list_any (has_key k) l ≡ true) same (found_any k leaf i c.found.found c.found c.found.here);
      page_is = ap leaf_of (get_or-set_same can.pages page bytes [] inside) ∙ c.written;
    }

pub one_fewer : {X : Type 0} (xs : List X) (i : ℕ) → i < length xs → suc (length (remove xs i)) ≡ length xs
one_fewer [] i h = absurd (omega arith)
one_fewer (x ∷ xs) zero h = refl
one_fewer (x ∷ xs) (suc i) h = ap suc (one_fewer xs i (omega arith))

module _ {k : Key} {told mid now_told : Option (List (List ℕ))} {free now : ℕ → Bool} {page height size i : ℕ} {is_root : Bool} {b : Bounds}
    {rs leaf all : List Record} {used bytes : List ℕ} (one : height ≡ 1) (c : LeafCut k told mid now_told free now page size i leaf all bytes) where
  pub leaf_done : 72 ≤ length all → CanEdit told free page height is_root b rs used
      → DidRemove k told now_told free now page height is_root b rs used removed.Done
  leaf_done enough can =
      let can1 = subst (λ h. CanEdit told free page h is_root b rs used) one can in
      let a = leaf_after is_root c (many_enough is_root 72 (length all) enough) can1 in
      subst (λ h. DidRemove k told now_told free now page h is_root b rs used removed.Done) (sym one)
      (a.had, record { pages = a.pages; news = a.news; was = a.was; is = a.is; left = a.becomes })

  pub leaf_underfull : CanEdit told free page height is_root b rs used
      → DidRemove k told now_told free now page height is_root b rs used removed.Underfull
  leaf_underfull can =
      let can1 = subst (λ h. CanEdit told free page h is_root b rs used) one can in
      let a = leaf_after true c refl can1 in
      let same = leaf_same can1 c.reads in
      let s : Subtree can1.pages 1 is_root (page, b) rs used = can1.subtree in
      let fewer : suc (length all) ≡ length rs = ap (λ l. suc (length l)) c.all_is ∙ one_fewer leaf i c.found.in_range ∙ ap length same in
      let nearly : is_root ≡ false → IsNearlyFull a.news 1 page = λ r ss e.
      let many = not_root is_root 72 (length rs) s.enough r in
      let is : ss ≡ all = same_Some ss all (sym e ∙ a.page_is) in
      subst (λ l. 71 ≤ length l) (sym is) (less (length all) (length rs) fewer many) in
      subst (λ h. DidRemove k told now_told free now page h is_root b rs used removed.Underfull) (sym one)
      (a.had, record { pages = a.pages; news = a.news; was = a.was; is = a.is; left = (nearly, a.becomes) })
    where
      less : (m n : ℕ) → suc m ≡ n → 72 ≤ n → 71 ≤ m
      less m n e h = omega arith
