-- What the leaf of a finger tells of the tree.
use Rattle.std.proofs.Common.{◌≡◌, ◌≢◌, ◌≤◌, ℕ, true, List, [], ◌∷◌, ◌++◌, filter, Option, Some, None, sym, ◌∙◌, ap, subst, arith}
use Rattle.std.specs.Prelude.{IfSome}
use Rattle.std.specs.List.{last_or}
use Rattle.std.specs.Ordering.{is_lt}
use Rattle.std.proofs.lemmas.List.{append-nil}
use Rattle.std.proofs.lemmas.List.Elements.{filter-append}
use Rattle.quilt_record.specs.declared.key.Key.{Key}
use Rattle.quilt_record.specs.declared.record.Record.{Record}
use Rattle.quilt_record.specs.Records.{key_cmp}
use Rattle.quilt_record.proofs.Orders.{lt_le}
use Rattle.quilt_node.specs.Nodes.{page_records}
use Rattle.quilt_node.specs.Pages.{leaf_of}
use Rattle.quilt_node.specs.Tree.{is_below}
use Rattle.quilt_btree.specs.declared.finger.Finger.{Finger}
use Rattle.quilt_btree.specs.declared.tree.Tree.{Tree}
use Rattle.quilt_btree.specs.Lists.{is_at_most, floor_of}
use Rattle.quilt_btree.specs.Fingers.{IsLeafOf, IsFinger}
use Rattle.quilt_btree.specs.Arrivals.{Arrives}
use Rattle.quilt_btree.specs.Trees.{IsTree, is_past}
use Rattle.quilt_btree.proofs.lists.Lists.{filter_none, above_not_at_most, last_append}
use Rattle.quilt_btree.proofs.lists.Rising.{all_follow}
use Rattle.quilt_btree.proofs.subtrees.Whole.{tree_spells}

-- the leaf to which a key leads
pub leaf_of_finger : {told : Option (List (List ℕ))} {t : Tree} {k : Key} {rs : List Record} {bytes : List ℕ} {high : Option Key}
    → Arrives told t.root t.height k None bytes high → 1 ≤ t.height → IsTree told t rs → IsLeafOf bytes high rs
leaf_of_finger {told = told} {t = t} {rs = rs} {bytes = bytes} a some is =
    let ne : t.height ≢ 0 = omega arith in
    let s = tree_spells told t rs ne is in
    let l = a.leads rs s.0 s.1 in
    record {
      own = page_records bytes;
      is_leaf = a.leaf rs s.0;
      before = l.before;
      behind = l.behind;
      records = l.records;
      bounded = l.bounded;
    }

-- a key below the bound is below all that stands behind the leaf
pub under_past : (high : Option Key) (k m : Key) → is_below high k ≡ true → is_past high m ≡ true → is_lt (key_cmp k m) ≡ true
under_past None k m below past = cc
under_past (Some h) k m below past = lt_le k h m below past

last_of : {X : Type 0} (o : Option X) (xs : List X) (x : X) → Some x ≡ last_or None xs → Some x ≡ last_or o xs
last_of o [] x h = cc
last_of o (y ∷ xs) x h = h

-- so the floor of such a key is in the leaf, where the leaf has one
pub floor_is_near : (bytes : List ℕ) (high : Option Key) (k : Key) (r : Record) (rs : List Record) → is_below high k ≡ true
    → ((own : List Record) → leaf_of bytes ≡ Some own → Some r ≡ floor_of k own) → IsLeafOf bytes high rs → Some r ≡ floor_of k rs
unfolding floor_of
floor_is_near bytes high k r rs below floor l =
    let above = all_follow (λ (s : Record). is_past high s.key) (λ s. is_lt (key_cmp k s.key)) (λ s past. under_past high k s.key below past) l.behind
    l.bounded in
    let kept : filter (is_at_most k) rs ≡ filter (is_at_most k) l.before ++ filter (is_at_most k) l.own =
    ap (filter (is_at_most k)) l.records ∙ filter-append (is_at_most k) l.before (l.own ++ l.behind)
    ∙ ap (λ xs. filter (is_at_most k) l.before ++ xs) (filter-append (is_at_most k) l.own l.behind
    ∙ ap (λ xs. filter (is_at_most k) l.own ++ xs) (filter_none (is_at_most k) l.behind (above_not_at_most k l.behind above))
    ∙ append-nil (filter (is_at_most k) l.own)) in
    last_of (last_or None (filter (is_at_most k) l.before)) (filter (is_at_most k) l.own) r (floor l.own l.is_leaf)
    ∙ sym (ap (last_or None) kept ∙ last_append None (filter (is_at_most k) l.before) (filter (is_at_most k) l.own))

-- what a look into the leaf of the finger tells of the tree
pub finger_floor : (o : Option Record) (finger : Option Finger) (f : Finger) (k : Key) → finger ≡ Some f → is_below f.high k ≡ true
    → ((own : List Record) → leaf_of f.bytes ≡ Some own → o ≡ floor_of k own)
    → IfSome o (λ r. (told : Option (List (List ℕ))) (t : Tree) (rs : List Record) → IsTree told t rs → IsFinger told t finger → Some r ≡ floor_of k rs)
finger_floor None finger f k at below floor = tt
finger_floor (Some r) finger f k at below floor = λ told t rs is fits.
    floor_is_near f.bytes f.high k r rs below floor (subst (λ (z : Option Finger). IfSome z (λ x. IsLeafOf x.bytes x.high rs)) at (fits rs is))
