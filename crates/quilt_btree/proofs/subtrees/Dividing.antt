-- A key that parts two children leads to a leaf whose records are all from it on.
use Rattle.std.proofs.Common.{◌≡◌, ◌⊎◌, inl, inr, ℕ, zero, suc, ◌-◌, Bool, true, List, [], ◌∷◌, ◌++◌, length, take, drop, Option, Some, None, slice_index, ⊎_elim}
use Rattle.std.proofs.lemmas.Bool.{and_from, and_parts}
use Rattle.std.proofs.Common.{slice_index_or, refl, sym, ◌∙◌, ap, subst, arith}
use Rattle.std.specs.Prelude.{slice_get}
use Rattle.std.specs.List.{list_all}
use Rattle.std.specs.Option.{option_or}
use Rattle.std.specs.Ordering.{is_lt, is_le}
use Rattle.quilt_record.specs.declared.key.Key.{Key}
use Rattle.quilt_record.specs.declared.record.Record.{Record}
use Rattle.quilt_record.specs.Records.{key_cmp}
use Rattle.quilt_node.specs.Pages.{Inner, inner_of, is_ascending}
use Rattle.quilt_node.specs.Nodes.{IsPlace}
use Rattle.quilt_node.specs.Tree.{is_below}
use Rattle.quilt_btree.specs.Subtree.{Subtree}
use Rattle.quilt_btree.specs.Trees.{SpellsSubtree, LeadsToLeaf, Divides, IsBound, IsCut}
use Rattle.quilt_record.proofs.Orders.{lt_le, le_le, lt_to_le}
use Rattle.quilt_btree.proofs.subtrees.Trees.{ascending_first, ascending_rest, one_less}
use Rattle.quilt_btree.proofs.lists.Rising.{all_follow, all_parts, below_on}
use Rattle.quilt_btree.proofs.lists.Lists.{gt_not_le}
use Rattle.quilt_btree.proofs.ways.Leaves.{same_le}
use Rattle.quilt_btree.proofs.subtrees.Descending.{AtFloor, leads_below, height_above}

-- a key has one place
pub same_place : (ks : List Key) (k : Key) (i j : ℕ) → IsPlace ks k i → IsPlace ks k j → i ≡ j
same_place [] k i j p q = let a = p.in_range in let b = q.in_range in omega arith
same_place (l ∷ ks) k zero zero p q = refl
same_place (l ∷ ks) k (suc i) zero p q =
    let a = (and_parts (is_le (key_cmp l k)) (list_all (λ m. is_le (key_cmp m k)) (take i ks)) p.before).0 in
    let b = gt_not_le k l (and_parts (is_lt (key_cmp k l)) (list_all (λ m. is_lt (key_cmp k m)) ks) q.behind).0 in cc
same_place (l ∷ ks) k zero (suc j) p q =
    let a = (and_parts (is_le (key_cmp l k)) (list_all (λ m. is_le (key_cmp m k)) (take j ks)) q.before).0 in
    let b = gt_not_le k l (and_parts (is_lt (key_cmp k l)) (list_all (λ m. is_lt (key_cmp k m)) ks) p.behind).0 in cc
same_place (l ∷ ks) k (suc i) (suc j) p q =
    ap suc (same_place ks k i j
    (record {
      in_range = let a = p.in_range in omega arith;
      before = (and_parts (is_le (key_cmp l k)) (list_all (λ m. is_le (key_cmp m k)) (take i ks)) p.before).1;
      behind = p.behind;
    })
    (record {
      in_range = let a = q.in_range in omega arith;
      before = (and_parts (is_le (key_cmp l k)) (list_all (λ m. is_le (key_cmp m k)) (take j ks)) q.before).1;
      behind = q.behind;
    }))

pub member : (p : Key → Bool) (ks : List Key) (i : ℕ) (k : Key) → slice_get ks i ≡ Some k → list_all p ks ≡ true → p k ≡ true
member p [] i k h g = cc
member p (l ∷ ks) zero k h g = let same : l ≡ k = cc in subst (λ m. p m ≡ true) same (and_parts (p l) (list_all p ks) g).0
member p (l ∷ ks) (suc i) k h g = member p ks i k h (and_parts (p l) (list_all p ks) g).1

-- a key that stands in ascending keys has the place behind it
pub place_behind : (ks : List Key) (i : ℕ) (k : Key) → is_ascending ks ≡ true → slice_get ks i ≡ Some k → IsPlace ks k (suc i)
place_behind [] i k a h = cc
place_behind (l ∷ ks) zero k a h =
    let same : l ≡ k = cc in
    record {
      in_range = omega arith;
      before = and_from (is_le (key_cmp l k)) true (subst (λ m. is_le (key_cmp l m) ≡ true) same (same_le l)) refl;
      behind = subst (λ m. list_all (λ n. is_lt (key_cmp m n)) ks ≡ true) same (ascending_first l ks a);
    }
place_behind (l ∷ ks) (suc i) k a h =
    let more = place_behind ks i k (ascending_rest l ks a) h in
    record {
      in_range = let m = more.in_range in omega arith;
      before = and_from (is_le (key_cmp l k)) (list_all (λ m. is_le (key_cmp m k)) (take (suc i) ks))
          (lt_to_le (key_cmp l k) (member (λ m. is_lt (key_cmp l m)) ks i k h (ascending_first l ks a))) more.before;
      behind = more.behind;
    }

-- keys up to a place are at most one that is below a bound that they all keep below, and those behind are above it
pub place_same : (ks : List Key) (k d : Key) (i : ℕ) → IsPlace ks k i → is_le (key_cmp k d) ≡ true
    → list_all (λ l. is_lt (key_cmp d l)) (drop i ks) ≡ true → IsPlace ks d i
place_same ks k d i p le h = record {
  in_range = p.in_range;
  before = all_follow (λ l. is_le (key_cmp l k)) (λ l. is_le (key_cmp l d)) (λ l g. le_le l k d g le) (take i ks) p.before;
  behind = h;
}

pub leaf_cut : (told : Option (List (List ℕ))) (page height : ℕ) (k : Key) (leaf : List Record) (high : Option Key) → height ≡ 1
    → IsCut told page height k high leaf high
leaf_cut told page height k leaf high one = record {
  starts = λ pages rs t s e d. absurd (subst (λ h. Divides pages h page k) one d);
  ends = λ pages rs s t e b. inl refl;
}

behind_all : (ks : List Key) (i : ℕ) (d : Key) → is_ascending ks ≡ true → is_below (option_or (slice_get ks i) None) d ≡ true
    → list_all (λ l. is_lt (key_cmp d l)) (drop i ks) ≡ true
behind_all [] zero d a h = refl
behind_all [] (suc i) d a h = refl
behind_all (k ∷ ks) zero d a h = and_from (is_lt (key_cmp d k)) (list_all (λ l. is_lt (key_cmp d l)) ks) h
    (all_follow (λ l. is_lt (key_cmp k l)) (λ l. is_lt (key_cmp d l)) (λ l g. lt_le d k l h (lt_to_le (key_cmp k l) g)) ks (ascending_first k ks a))
behind_all (k ∷ ks) (suc i) d a h = behind_all ks i d (ascending_rest k ks a) h

below_next : (o start : Option Key) (d : Key) → is_below (option_or o start) d ≡ true → is_below (option_or o None) d ≡ true
below_next None start d h = refl
below_next (Some k) start d h = h

below_start : (ks : List Key) (i : ℕ) (start : Option Key) (d : Key) → list_all (is_below start) ks ≡ true
    → is_below (option_or (slice_get ks i) start) d ≡ true → is_below start d ≡ true
below_start [] i start d w h = h
below_start (k ∷ ks) zero start d w h = below_on start k d (and_parts (is_below start k) (list_all (is_below start) ks) w).0 h
below_start (k ∷ ks) (suc i) start d w h = below_start ks i start d (and_parts (is_below start k) (list_all (is_below start) ks) w).1 h

module _ (pages : List (List ℕ)) (h page i : ℕ) (inner : Inner) (start high : Option Key) where
  bound_here : (o : Option Key) → inner_of (length pages) (slice_index_or pages page []) ≡ Some inner → is_ascending inner.keys ≡ true
      → list_all (is_below start) inner.keys ≡ true → slice_get inner.keys i ≡ o → high ≡ option_or o start
      → IsBound pages (suc (suc h)) page start high
  bound_here None there a w e is = inl is
  bound_here (Some d) there a w e is =
      inr (
        d,
        is,
        record { inner = inner; page_is = there; place = suc i; is_place = place_behind inner.keys i d a e; parts = inl (i, refl, e) },
        member (is_below start) inner.keys i d e w,
      )

  bound_up : (k : Key) → inner_of (length pages) (slice_index_or pages page []) ≡ Some inner → is_ascending inner.keys ≡ true
      → list_all (is_below start) inner.keys ≡ true → IsPlace inner.keys k i → is_below high k ≡ true → IsBound pages (suc h)
      (slice_index inner.children i) (option_or (slice_get inner.keys i) start) high → IsBound pages (suc (suc h)) page start high
  bound_up k there a w p under (inl e) = bound_here (slice_get inner.keys i) there a w refl e
  bound_up k there a w p under (inr q) =
      let d = q.0 in
      let le : is_le (key_cmp k d) ≡ true = lt_to_le (key_cmp k d) (subst (λ o. is_below o k ≡ true) q.1 under) in
      inr (
        d,
        q.1,
        record {
          inner = inner;
          page_is = there;
          place = i;
          is_place = place_same inner.keys k d i p le (behind_all inner.keys i d a (below_next (slice_get inner.keys i) start d q.3));
          parts = inr q.2;
        },
        below_start inner.keys i start d w q.3,
      )

pub cut_up : {old : Option (List (List ℕ))} {new : Option (List (List ℕ))} {page height : ℕ} {child : ℕ} {i : ℕ} {k : Key} {inner : Inner}
    (start : Option Key) {next : Option Key} {leaf : List Record} {high : Option Key} → AtFloor old new page height child i k inner
    → next ≡ option_or (slice_get inner.keys i) start
    → ((rs : List Record) (s : SpellsSubtree new child (height - 1) rs) → s.bounds.high ≡ next → LeadsToLeaf k rs leaf next high)
    → IsCut new child (height - 1) k next leaf high → IsCut old page height k start leaf high
cut_up {old} {new = new} {page} {height} {child = child} {i} {k = k} {inner} start {next = next} {leaf = leaf} {high = high} a is leads cut = record {
  starts = λ pages rs t s e d.
      let at = leads_below old page height inner i k a.some a.above s a.reads a.place in
      let here : SpellsSubtree new child (height - 1) at.here = record {
        pages = at.spells.pages;
        is_told = a.told ∙ at.spells.is_told;
        is_root = at.spells.is_root;
        bounds = at.spells.bounds;
        used = at.spells.used;
        subtree =
            subst (λ c. Subtree at.spells.pages (height - 1) at.spells.is_root (c, at.spells.bounds) at.here at.spells.used) (sym a.is_child)
            at.spells.subtree;
      } in
      let n = height_above height a.some a.above in
      let div = subst (λ m. Divides pages m page k) n.1 d in
      let mine = a.reads pages t in
      let theirs = div.page_is in
      let same : div.inner ≡ inner = cc in
      let place : div.place ≡ i = same_place inner.keys k div.place i (subst (λ (x : Inner). IsPlace x.keys k div.place) same div.is_place) a.place in
      let high_is : at.spells.bounds.high ≡ next = at.is_high ∙ at.is_next ∙ ap (option_or (slice_get inner.keys i)) e ∙ sym is in
      let lead : LeadsToLeaf k at.here leaf next high = leads at.here (record {
        pages = at.spells.pages;
        is_told = a.told ∙ at.spells.is_told;
        is_root = at.spells.is_root;
        bounds = at.spells.bounds;
        used = at.spells.used;
        subtree =
            subst (λ c. Subtree at.spells.pages (height - 1) at.spells.is_root (c, at.spells.bounds) at.here at.spells.used) (sym a.is_child)
            at.spells.subtree;
      }) high_is in
      ⊎_elim
      (λ q. (all_parts (λ (r : Record). is_le (key_cmp k r.key)) leaf lead.behind
      (all_parts (λ (r : Record). is_le (key_cmp k r.key)) lead.before (leaf ++ lead.behind)
      (subst (λ l. list_all (λ (r : Record). is_le (key_cmp k r.key)) l ≡ true) lead.records (at.from_low q.0 k (sym place ∙ q.1) q.2))).1).0)
      (λ g. cut.starts pages at.here (a.told ∙ t) (record {
        pages = at.spells.pages;
        is_told = a.told ∙ at.spells.is_told;
        is_root = at.spells.is_root;
        bounds = at.spells.bounds;
        used = at.spells.used;
        subtree =
            subst (λ c. Subtree at.spells.pages (height - 1) at.spells.is_root (c, at.spells.bounds) at.here at.spells.used) (sym a.is_child)
            at.spells.subtree;
      }) high_is
      (subst (λ m. Divides pages m child k) (sym (one_less height n.0 n.1))
      (subst (λ c. Divides pages (suc n.0) c k) (ap (slice_index inner.children) place ∙ sym a.is_child) g)))
      (subst (λ (x : Inner). ((j : ℕ) × (div.place ≡ suc j) × (slice_get x.keys j ≡ Some k))
      ⊎ Divides pages (suc n.0) (slice_index x.children div.place) k) same div.parts);
  ends = λ pages rs s t e b.
      let at = leads_below old page height inner i k a.some a.above s a.reads a.place in
      let n = height_above height a.some a.above in
      let high_is : at.spells.bounds.high ≡ next = at.is_high ∙ at.is_next ∙ ap (option_or (slice_get inner.keys i)) e ∙ sym is in
      let here_is : at.high ≡ next = at.is_next ∙ ap (option_or (slice_get inner.keys i)) e ∙ sym is in
      let under : is_below next k ≡ true = subst (λ o. is_below o k ≡ true) here_is (at.key_under (subst (λ o. is_below o k ≡ true) (sym e) b)) in
      let lead : LeadsToLeaf k at.here leaf next high = leads at.here (record {
        pages = at.spells.pages;
        is_told = a.told ∙ at.spells.is_told;
        is_root = at.spells.is_root;
        bounds = at.spells.bounds;
        used = at.spells.used;
        subtree =
            subst (λ c. Subtree at.spells.pages (height - 1) at.spells.is_root (c, at.spells.bounds) at.here at.spells.used) (sym a.is_child)
            at.spells.subtree;
      }) high_is in
      let bound : IsBound pages (height - 1) child next high = cut.ends pages at.here (record {
        pages = at.spells.pages;
        is_told = a.told ∙ at.spells.is_told;
        is_root = at.spells.is_root;
        bounds = at.spells.bounds;
        used = at.spells.used;
        subtree =
            subst (λ c. Subtree at.spells.pages (height - 1) at.spells.is_root (c, at.spells.bounds) at.here at.spells.used) (sym a.is_child)
            at.spells.subtree;
      }) (a.told ∙ t) high_is under in
      let lower = subst (λ m. IsBound pages m child next high) (one_less height n.0 n.1) bound in
      let there = subst (λ c. IsBound pages (suc n.0) c next high) a.is_child lower in
      subst (λ m. IsBound pages m page start high) (sym n.1)
      (bound_up pages n.0 page i inner start high k (a.reads pages t) at.ascend
      (subst (λ o. list_all (is_below o) inner.keys ≡ true) e at.keys_under) a.place (lead.key_under under)
      (subst (λ o. IsBound pages (suc n.0) (slice_index inner.children i) o high) is there));
}
