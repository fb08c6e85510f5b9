-- An underfull child is rebalanced with a neighbour.
use Rattle.std.proofs.Common.{◌≡◌, ◌⊎◌, ℕ, suc, ◌+◌, ◌-◌, ◌<◌, Bool, true, false, List, length, Option, Some, Result, Ok, Err, IfOk, IfErr, slice_index}
use Rattle.std.proofs.Common.{slice_set, sym, subst, arith}
use Rattle.std.specs.Prelude.{slice_get}
use Rattle.quilt_record.specs.declared.key.Key.{Key}
use Rattle.quilt_record.specs.declared.record.Record.{Record}
use Rattle.quilt_node.specs.Pages.{Inner, is_ascending}
use Rattle.quilt_node.specs.Edits.{with_key}
use Rattle.quilt_node.specs.Tree.{Bounds}
use Rattle.quilt_types.specs.declared.stop.Stop.{Stop}
use Rattle.quilt_btree.specs.declared.outcomes.Rebalanced.{Rebalanced}
use Rattle.quilt_btree.specs.declared.outcomes.Rebalanced.TheVariants as rebalanced
use Rattle.quilt_btree.specs.declared.outcomes.Removed.{Removed}
use Rattle.quilt_btree.specs.declared.outcomes.Removed.TheVariants as removed
use Rattle.quilt_store.specs.Stops.{IsNotDamage}
use Rattle.quilt_btree.specs.Edits.{DidLeave}
use Rattle.quilt_btree.specs.Rebalancing.{CanRebalance, DidRebalance, HasUnderfull, WritesInner, HasDropped}
use Rattle.quilt_btree.proofs.rows.Middles.{gap_bounds}
use Rattle.quilt_btree.proofs.removals.Underfulls.{Neighbours, neighbours}
use Rattle.quilt_btree.proofs.removals.ChildRebalances.{joined_children, separated_children, separated_ascends, set_is, page_taken, left_joined, left_separated}
use Rattle.quilt_btree.proofs.subtrees.Trees.{one_less}

-- which two children are rebalanced
pub record Choice (told : Option (List (List ℕ))) (page : ℕ) (inner : Inner) (i j next left : ℕ) (key : Key) (right : ℕ) : Type 0 where
  pub in_range : j + 1 < length inner.children
  pub one : (j ≡ i) ⊎ (j + 1 ≡ i)
  pub is_next : next ≡ suc j
  pub is_left : left ≡ slice_index inner.children j
  pub is_right : right ≡ slice_index inner.children next
  pub is_key : slice_get inner.keys j ≡ Some key
  pub many : length inner.children ≡ length inner.keys + 1
  pub inside : (pages : List (List ℕ)) → told ≡ Some pages → page < length pages

module _ (told mid : Option (List (List ℕ))) (free between : ℕ → Bool) where
  -- what the rebalancing of two pages did
  abbrev pub RebalancesAs : Rebalanced → ℕ → ℕ → Key → ℕ → Type 0
  RebalancesAs o height left key right =
      (b : Bounds) (rs : List Record) (used : List ℕ) → CanRebalance told free height left key right b rs used
      → DidRebalance told mid free between height left right b rs used o

module _ (told : Option (List (List ℕ))) (free : ℕ → Bool) (page height : ℕ) (inner : Inner) (i j next left : ℕ) (key : Key) (right : ℕ) where
  pub chosen : (is_root : Bool) (b : Bounds) (rs : List Record) (used : List ℕ) → Choice told page inner i j next left key right
      → (s : HasUnderfull told free page height inner i is_root b rs used)
      → Neighbours told free page s.below inner j left key right is_root b rs used
  chosen is_root b rs used c s =
      neighbours s j c.in_range c.one c.is_next c.is_left c.is_right c.is_key

  -- the two can be rebalanced
  pub sound_rebalance : (e : Stop) → Choice told page inner i j next left key right
      → ((b : Bounds) (rs : List Record) (used : List ℕ) → CanRebalance told free (height - 1) left key right b rs used → IsNotDamage e)
      → (is_root : Bool) (b : Bounds) (rs : List Record) (used : List ℕ) → HasUnderfull told free page height inner i is_root b rs used → IsNotDamage e
  sound_rebalance e c f is_root b rs used s =
      let n = chosen is_root b rs used c s in
      f (gap_bounds n.cut.ka n.cut.kb b) n.here n.here_used
      (subst (λ h. CanRebalance told free h left key right (gap_bounds n.cut.ka n.cut.kb b) n.here n.here_used)
      (sym (one_less height s.below s.is_height)) n.can)

module _ (told mid : Option (List (List ℕ))) (free between : ℕ → Bool) (page height : ℕ) (inner : Inner) (i j left : ℕ) (key : Key) (right : ℕ) where
  -- what holds of a page with an underfull child: that no page is damaged, and what is left of it
  abbrev pub SoundUnder : Stop → Type 0
  SoundUnder e =
      (is_root : Bool) (b : Bounds) (rs : List Record) (used : List ℕ) → HasUnderfull told free page height inner i is_root b rs used → IsNotDamage e

  abbrev pub LeavesUnder : Option (List (List ℕ)) → (ℕ → Bool) → Removed → Type 0
  LeavesUnder now_told now o =
      (is_root : Bool) (b : Bounds) (rs : List Record) (used : List ℕ) → HasUnderfull told free page height inner i is_root b rs used
      → DidLeave told now_told free now page height is_root b used rs o

  did_rebalance : (o : Rebalanced) (is_root : Bool) (b : Bounds) (rs : List Record) (used : List ℕ)
      (s : HasUnderfull told free page height inner i is_root b rs used)
      (n : Neighbours told free page s.below inner j left key right is_root b rs used)
      → RebalancesAs told mid free between o (height - 1) left key right
      → DidRebalance told mid free between (suc s.below) left right (gap_bounds n.cut.ka n.cut.kb b) n.here n.here_used o
  did_rebalance o is_root b rs used s n rebalances =
      subst (λ h. RebalancesAs told mid free between o h left key right) (one_less height s.below s.is_height) rebalances
      (gap_bounds n.cut.ka n.cut.kb b) n.here n.here_used n.can

  joined_underfull : (next : ℕ) → Choice told page inner i j next left key right
      → RebalancesAs told mid free between rebalanced.Joined (height - 1) left key right → (is_root : Bool) (b : Bounds) (rs : List Record)
      (used : List ℕ) → HasUnderfull told free page height inner i is_root b rs used → between page ≡ false
  joined_underfull next c rebalances is_root b rs used s =
      let n = chosen told free page height inner i j next left key right is_root b rs used c s in
      let d = did_rebalance rebalanced.Joined is_root b rs used s n rebalances in
      page_taken mid free between page s.below n.pages _ b rs used
      (joined_children told mid free between page s.below inner j left key right is_root b rs used n d)

  pub joined_sound : (r : Result Removed Stop) (next : ℕ) → Choice told page inner i j next left key right
      → RebalancesAs told mid free between rebalanced.Joined (height - 1) left key right → IfErr r (λ e. between page ≡ false → IsNotDamage e)
      → IfErr r SoundUnder
  joined_sound (Ok v) next c rebalances f = f
  joined_sound (Err e) next c rebalances f = λ is_root b rs used s.
      f (joined_underfull next c rebalances is_root b rs used s)

  pub joined_left : (r : Result Removed Stop) (now_told : Option (List (List ℕ))) (now : ℕ → Bool) (next : ℕ)
      → Choice told page inner i j next left key right → RebalancesAs told mid free between rebalanced.Joined (height - 1) left key right
      → now ≡ between → IfOk r (λ o. HasDropped page inner j mid now_told o)
      → IfOk r (LeavesUnder now_told now)
  joined_left (Err e) now_told now next c rebalances f d = d
  joined_left (Ok o) now_told now next c rebalances f d = λ is_root b rs used s.
      let n = chosen told free page height inner i j next left key right is_root b rs used c s in
      let did = did_rebalance rebalanced.Joined is_root b rs used s n rebalances in
      left_joined told mid now_told free between now page height s.below inner j left key right is_root b rs used o s.is_height n
      (joined_children told mid free between page s.below inner j left key right is_root b rs used n did)
      (c.many, place j (length inner.children) (length inner.keys) c.in_range c.many) (c.inside n.pages n.is_told) f d
    where
      place : (j m k : ℕ) → j + 1 < m → m ≡ k + 1 → j < k
      place j m k a e = omega arith

  pub separated_sound : (x : Stop) (next : ℕ) (separator : Key) → Choice told page inner i j next left key right
      → RebalancesAs told mid free between (rebalanced.Redistributed separator) (height - 1) left key right
      → (between page ≡ false → is_ascending (slice_set inner.keys j separator) ≡ true → IsNotDamage x) → SoundUnder x
  separated_sound x next separator c rebalances f = λ is_root b rs used s.
      let n = chosen told free page height inner i j next left key right is_root b rs used c s in
      let d = did_rebalance (rebalanced.Redistributed separator) is_root b rs used s n rebalances in
      let fits = separated_ascends told mid free between page s.below inner j left key right is_root b rs used separator n d in
      f (page_taken mid free between page s.below n.pages (with_key inner j separator) b rs used
      (separated_children told free page s.below inner j left key right is_root b rs used separator n mid between d))
      (subst (λ l. is_ascending l ≡ true) (sym (set_is told free page s.below inner j left key right is_root b rs used separator n)) fits.ascends)

  pub separated_left : (now_told : Option (List (List ℕ))) (now : ℕ → Bool) (next : ℕ) (separator : Key)
      → Choice told page inner i j next left key right
      → RebalancesAs told mid free between (rebalanced.Redistributed separator) (height - 1) left key right → now ≡ between
      → WritesInner page (with_key inner j separator) mid now_told → LeavesUnder now_told now removed.Done
  separated_left now_told now next separator c rebalances f writes = λ is_root b rs used s.
      let n = chosen told free page height inner i j next left key right is_root b rs used c s in
      let d = did_rebalance (rebalanced.Redistributed separator) is_root b rs used s n rebalances in
      left_separated told mid now_told free between now page height s.below inner j left key right is_root b rs used separator s.is_height n
      (separated_children told free page s.below inner j left key right is_root b rs used separator n mid between d) (c.inside n.pages n.is_told) f writes
