-- Two neighbouring leaves are joined, or their records are redistributed.
use Rattle.std.proofs.Common.{◌≡◌, ℕ, ◌+◌, ◌<◌, ◌≤◌, Bool, true, false, List, [], ◌∷◌, ◌++◌, length, Option, Some, IfSome, slice_index_or, slice_set, refl, sym}
use Rattle.std.proofs.Common.{◌∙◌, ap, subst, arith, length-append}
use Rattle.std.specs.Prelude.{slice_get}
use Rattle.std.proofs.lemmas.Option.{same_Some}
use Rattle.quilt_record.specs.declared.key.Key.{Key}
use Rattle.quilt_record.specs.declared.record.Record.{Record}
use Rattle.quilt_node.specs.Pages.{leaf_of, is_ascending}
use Rattle.quilt_node.specs.Nodes.{keys_of}
use Rattle.quilt_node.specs.Tree.{Bounds, are_within}
use Rattle.quilt_store.specs.Store.{FreesOnly}
use Rattle.quilt_world.specs.Tale.{Goes}
use Rattle.quilt_btree.specs.declared.outcomes.Rebalanced.TheVariants as rebalanced
use Rattle.quilt_btree.specs.Subtree.{Subtree}
use Rattle.quilt_btree.specs.Trees.{SpellsSubtree, ReadsLeaf}
use Rattle.quilt_btree.specs.Edits.{KeepsAccount}
use Rattle.quilt_btree.specs.Rebalancing.{CanRebalance, DidRebalance, HasGiven}
use Rattle.quilt_btree.proofs.stores.Moves.{AreApart}
use Rattle.quilt_btree.proofs.lists.Rising.{IsRising, rising_join}
use Rattle.quilt_btree.proofs.subtrees.Trees.{keys_append, subtree_rises}
use Rattle.quilt_btree.proofs.stores.Pairs.{is_joined, are_written, left_taken, right_taken}
use Rattle.quilt_btree.proofs.lists.RisingApart.{rises_apart}
use Rattle.quilt_btree.proofs.removals.LeafRemovals.{tells_on, has_many, many_enough}
use Rattle.quilt_btree.proofs.lists.Lists.{begins_with}

-- the two leaves, as they were read
pub record AreLeaves (told : Option (List (List ℕ))) (free : ℕ → Bool) (left : ℕ) (key : Key) (right : ℕ) (b : Bounds) (rs : List Record)
    (used : List ℕ) (m : CanRebalance told free 1 left key right b rs used) (l r : List Record) : Type 0 where
  pub first : l ≡ m.first
  pub rest : r ≡ m.rest
  pub records : rs ≡ l ++ r
  pub first_many : 71 ≤ length l
  pub rest_many : 71 ≤ length r
  pub rises : IsRising b (keys_of rs)
  pub pages : used ≡ right ∷ left ∷ []
  pub apart : AreApart free (right ∷ left ∷ [])

module _ (told : Option (List (List ℕ))) (free : ℕ → Bool) (left : ℕ) (key : Key) (right : ℕ) (b : Bounds) (rs : List Record) (used : List ℕ)
    (m : CanRebalance told free 1 left key right b rs used) (l r : List Record) (reads : ReadsLeaf told left l) (also : ReadsLeaf told right r) where
  pub are_leaves : AreLeaves told free left key right b rs used m l r
  are_leaves =
      let s : Subtree m.pages 1 true (left, record { low = b.low; high = Some key }) m.first m.first_used = m.is_left.subtree in
      let t : Subtree m.pages 1 true (right, record { low = Some key; high = b.high }) m.rest m.rest_used = m.is_right.subtree in
      let there = reads m.pages m.is_told in
      let other = also m.pages m.is_told in
      let first : l ≡ m.first = same_Some l m.first (sym there ∙ s.page) in
      let rest : r ≡ m.rest = same_Some r m.rest (sym other ∙ t.page) in
      let pages : used ≡ right ∷ left ∷ [] = m.is_used ∙ ap (λ u. u ++ m.first_used) t.is_used ∙ ap (λ u. right ∷ u) s.is_used in
      record {
        first = first;
        rest = rest;
        records = m.records ∙ ap (λ x. x ++ m.rest) (sym first) ∙ ap (λ x. l ++ x) (sym rest);
        first_many = m.is_left.nearly l there;
        rest_many = m.is_right.nearly r other;
        rises = subst (λ x. IsRising b (keys_of x)) (sym m.records) (subst (IsRising b) (sym (keys_append m.first m.rest))
            (rising_join b key (keys_of m.first) (keys_of m.rest) m.low m.high
            (subtree_rises m.pages 1 true (left, record { low = b.low; high = Some key }) m.first m.first_used m.is_left.subtree)
            (subtree_rises m.pages 1 true (right, record { low = Some key; high = b.high }) m.rest m.rest_used m.is_right.subtree)));
        pages = pages;
        apart = subst (AreApart free) pages m.apart;
      }

  -- they ascend one behind the other
  pub leaves_ascend : is_ascending (keys_of (l ++ r)) ≡ true
  leaves_ascend =
      let a = are_leaves in
      subst (λ x. is_ascending (keys_of x) ≡ true) a.records a.rises.ascends

one_leaf : (pages : List (List ℕ)) (page : ℕ) {bytes : List ℕ} (b : Bounds) {all : List Record} → slice_index_or pages page [] ≡ bytes
    → leaf_of bytes ≡ Some all → 72 ≤ length all → are_within b (keys_of all) ≡ true
    → Subtree pages 1 false (page, b) all (page ∷ [])
one_leaf pages page b {all} here is many within =
    record { page = ap leaf_of here ∙ is; enough = many_enough false 72 (length all) many; within = within; is_used = refl }

-- what is known of a call that joins two leaves
pub record LeavesJoin (told mid now_told : Option (List (List ℕ))) (free was now : ℕ → Bool) (size left right : ℕ) (l r all : List Record)
    (bytes : List ℕ) : Type 0 where
  pub reads : ReadsLeaf told left l
  pub also : ReadsLeaf told right r
  pub inside : left < size
  pub many : IfSome told (λ x. length x ≡ size)
  pub all_is : all ≡ l ++ r
  pub written : leaf_of bytes ≡ Some all
  pub is_mid : mid ≡ told
  pub tells : Goes (λ old new. HasGiven right (slice_set old left bytes) new) mid now_told
  pub is_free : was ≡ free
  pub frees : FreesOnly right true was now

-- what is known of a call that parts the records of two leaves
pub record LeavesPart (told mid now_told : Option (List (List ℕ))) (free now : ℕ → Bool) (size left right : ℕ) (l r first rest : List Record)
    (start : Record) (bytes others : List ℕ) : Type 0 where
  pub reads : ReadsLeaf told left l
  pub also : ReadsLeaf told right r
  pub inside : left < size
  pub inside_too : right < size
  pub many : IfSome told (λ x. length x ≡ size)
  pub records : first ++ rest ≡ l ++ r
  pub enough : 71 ≤ length l → 71 ≤ length r → (72 ≤ length first) × (72 ≤ length rest)
  pub starts : slice_get rest 0 ≡ Some start
  pub written : leaf_of bytes ≡ Some first
  pub written_too : leaf_of others ≡ Some rest
  pub is_mid : mid ≡ told
  pub tells : Goes (λ old new. new ≡ slice_set (slice_set old left bytes) right others) mid now_told
  pub frees : now ≡ free

module _ (told mid now_told : Option (List (List ℕ))) (free now : ℕ → Bool) (size left : ℕ) (key : Key) (right height : ℕ) (b : Bounds)
    (rs : List Record) (used : List ℕ) (l r : List Record) (bytes : List ℕ) where
  pub leaves_joined : (was : ℕ → Bool) (all : List Record) → height ≡ 1 → LeavesJoin told mid now_told free was now size left right l r all bytes
      → CanRebalance told free height left key right b rs used → DidRebalance told now_told free now height left right b rs used rebalanced.Joined
  leaves_joined was all one c can =
      let m = subst (λ h. CanRebalance told free h left key right b rs used) one can in
      let a = are_leaves told free left key right b rs used m l r c.reads c.also in
      let on = tells_on (λ old new. HasGiven right (slice_set old left bytes) new) mid now_told m.pages (c.is_mid ∙ m.is_told) c.tells in
      let j = is_joined m.pages free left right bytes on.0 now a.apart (has_many told m.pages size left c.many m.is_told c.inside) on.2
      (subst (λ f. FreesOnly right true f now) c.is_free c.frees) in
      let same : all ≡ rs = c.all_is ∙ sym a.records in
      let many : 72 ≤ length all = enough (length all) (length l) (length r) (ap length c.all_is ∙ length-append l r) a.first_many a.rest_many in
      subst (λ h. DidRebalance told now_told free now h left right b rs used rebalanced.Joined) (sym one) (record {
        pages = m.pages;
        news = on.0;
        was = m.is_told;
        is = on.1;
        done = record {
          uses = left ∷ [];
          subtree = subst (λ x. Subtree on.0 1 false (left, b) x (left ∷ [])) same
              (one_leaf on.0 left b j.here c.written many (subst (λ x. are_within b (keys_of x) ≡ true) (sym same) a.rises.within));
          moves = subst (λ u. KeepsAccount m.pages on.0 free now u (left ∷ [])) (sym a.pages) j.moves;
        };
      })
    where
      enough : (n x y : ℕ) → n ≡ x + y → 71 ≤ x → 71 ≤ y → 72 ≤ n
      enough n x y e f g = omega arith

  pub leaves_separated : (first rest : List Record) (start : Record) (others : List ℕ) → height ≡ 1
      → LeavesPart told mid now_told free now size left right l r first rest start bytes others
      → CanRebalance told free height left key right b rs used
      → DidRebalance told now_told free now height left right b rs used (rebalanced.Redistributed start.key)
  leaves_separated first rest start others one c can =
      let m = subst (λ h. CanRebalance told free h left key right b rs used) one can in
      let a = are_leaves told free left key right b rs used m l r c.reads c.also in
      let on = tells_on (λ old new. new ≡ slice_set (slice_set old left bytes) right others) mid now_told m.pages (c.is_mid ∙ m.is_told) c.tells in
      let w = are_written m.pages free left right bytes others a.apart (has_many told m.pages size left c.many m.is_told c.inside)
      (has_many told m.pages size right c.many m.is_told c.inside_too) in
      let news = slice_set (slice_set m.pages left bytes) right others in
      let all : rs ≡ first ++ rest = a.records ∙ sym c.records in
      let enough = c.enough a.first_many a.rest_many in
      let from = begins_with rest start c.starts in
      let rises : IsRising b (keys_of first ++ start.key ∷ keys_of from.0) =
      subst (IsRising b) (ap (λ x. keys_of first ++ keys_of x) from.1)
      (subst (IsRising b) (keys_append first rest) (subst (λ x. IsRising b (keys_of x)) all a.rises)) in
      let parts = rises_apart b (keys_of first) start.key (keys_of from.0) rises in
      subst (λ h. DidRebalance told now_told free now h left right b rs used (rebalanced.Redistributed start.key)) (sym one) (record {
        pages = m.pages;
        news = news;
        was = m.is_told;
        is = on.1 ∙ ap Some on.2;
        done = record {
          first = first;
          rest = rest;
          first_uses = left ∷ [];
          rest_uses = right ∷ [];
          is_left = one_leaf news left (record { low = b.low; high = Some start.key }) w.here c.written enough.0 parts.before.within;
          is_right = one_leaf news right (record { low = Some start.key; high = b.high }) w.there c.written_too enough.1
              (subst (λ x. are_within (record { low = Some start.key; high = b.high }) (keys_of x) ≡ true) (sym from.1) parts.from_here.within);
          records = all;
          low = parts.low;
          high = parts.high;
          moves = subst (λ u. KeepsAccount m.pages news free now u (right ∷ left ∷ [])) (sym a.pages)
              (subst (λ f. KeepsAccount m.pages news free f (right ∷ left ∷ []) (right ∷ left ∷ [])) (sym c.frees) w.moves);
        };
      })

module _ (told : Option (List (List ℕ))) (free : ℕ → Bool) where
  -- both are read
  pub left_spells : (height left : ℕ) (key : Key) (right : ℕ) (b : Bounds) (rs : List Record) (used : List ℕ)
      (m : CanRebalance told free height left key right b rs used) → SpellsSubtree told left height m.first
  left_spells height left key right b rs used m =
      record {
        pages = m.pages;
        is_told = m.is_told;
        is_root = true;
        bounds = record { low = b.low; high = Some key };
        used = m.first_used;
        subtree = m.is_left.subtree;
      }

  pub right_spells : (height left : ℕ) (key : Key) (right : ℕ) (b : Bounds) (rs : List Record) (used : List ℕ)
      (m : CanRebalance told free height left key right b rs used) → SpellsSubtree told right height m.rest
  right_spells height left key right b rs used m =
      record {
        pages = m.pages;
        is_told = m.is_told;
        is_root = true;
        bounds = record { low = Some key; high = b.high };
        used = m.rest_used;
        subtree = m.is_right.subtree;
      }

  pub not_leaves : {left : ℕ} {key : Key} {right height : ℕ} {b : Bounds} {rs : List Record} {used : List ℕ} {l r : List Record} {test : Bool}
      → height ≡ 1 → ReadsLeaf told left l → ReadsLeaf told right r → test ≡ is_ascending (keys_of (l ++ r)) → test ≡ false
      → CanRebalance told free height left key right b rs used → ⊥
  not_leaves {left} {key} {right} {b} {rs} {used} {l} {r} {test} one reads also e fails can =
      let t = leaves_ascend told free left key right b rs used (subst (λ h. CanRebalance told free h left key right b rs used) one can) l r reads
      also in
      never test (is_ascending (keys_of (l ++ r))) e fails t
    where
      never : (x y : Bool) → x ≡ y → x ≡ false → y ≡ true → ⊥
      never x y e f g = cc

  pub leaves_taken : {was : ℕ → Bool} {left : ℕ} {key : Key} {right height : ℕ} {b : Bounds} {rs : List Record} {used : List ℕ} → height ≡ 1
      → was ≡ free → CanRebalance told free height left key right b rs used → (was left ≡ false) × (was right ≡ false)
  leaves_taken {left} {key} {right} {b} {rs} {used} one e can =
      let m = subst (λ h. CanRebalance told free h left key right b rs used) one can in
      let s : Subtree m.pages 1 true (left, record { low = b.low; high = Some key }) m.first m.first_used = m.is_left.subtree in
      let t : Subtree m.pages 1 true (right, record { low = Some key; high = b.high }) m.rest m.rest_used = m.is_right.subtree in
      let pages : used ≡ right ∷ left ∷ [] = m.is_used ∙ ap (λ u. u ++ m.first_used) t.is_used ∙ ap (λ u. right ∷ u) s.is_used in
      let apart = subst (AreApart free) pages m.apart in
      (ap (λ f. f left) e ∙ left_taken free left right apart, ap (λ f. f right) e ∙ right_taken free left right apart)
