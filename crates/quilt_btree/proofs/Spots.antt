-- What the leaf of a spot tells of the tree.
use Rattle.std.proofs.Common.{◌≡◌, ◌≢◌, ℕ, ◌<◌, ◌≤◌, true, false, List, [], ◌∷◌, ◌++◌, filter, take, length, Option, Some, None, refl, sym, ◌∙◌, ap, subst, arith}
use Rattle.std.specs.Prelude.{IfSome, slice_get, slice_index_or}
use Rattle.std.specs.List.{list_all}
use Rattle.std.specs.Ordering.{is_le, is_lt}
use Rattle.std.proofs.lemmas.Option.{same_Some}
use Rattle.quilt_record.specs.declared.key.Key.{Key}
use Rattle.quilt_record.specs.declared.record.Record.{Record}
use Rattle.quilt_record.specs.Records.{key_cmp}
use Rattle.quilt_record.proofs.Orders.{lt_le, le_le, lt_to_le}
use Rattle.quilt_node.specs.Nodes.{keys_of, page_records}
use Rattle.quilt_node.specs.Pages.{leaf_of, is_ascending}
use Rattle.quilt_node.specs.Tree.{is_below}
use Rattle.quilt_types.specs.declared.stop.Stop.{Stop}
use Rattle.quilt_store.specs.Stops.{IsNotDamage}
use Rattle.quilt_btree.specs.declared.tree.Tree.{Tree}
use Rattle.quilt_btree.specs.Arrivals.{Arrives}
use Rattle.quilt_btree.specs.Lists.{value_at_key, floor_of, range_of, is_from_to}
use Rattle.quilt_btree.specs.Looks.{AddsFrom}
use Rattle.quilt_btree.specs.Searches.{AreOf}
use Rattle.quilt_btree.specs.Spots.{HoldsKeys, IsLeafFrom, IsAtSpot}
use Rattle.quilt_btree.specs.declared.spot.Spot.{Spot}
use Rattle.quilt_btree.specs.Trees.{IsTree, LeadsToLeaf, Before, is_past}
use Rattle.quilt_btree.proofs.cursors.Fingers.{floor_is_near, under_past}
use Rattle.quilt_btree.proofs.lists.Lists.{gt_not_le, begins_with, true_false}
use Rattle.quilt_btree.proofs.lists.Rising.{all_follow, all_map}
use Rattle.quilt_btree.proofs.ranges.Ranges.{range_first, range_next, range_ends, range_fills}
use Rattle.quilt_btree.proofs.ranges.Rests.{next_divides}
use Rattle.quilt_btree.proofs.subtrees.Trees.{leaf_list, subtree_rises, keys_append}
use Rattle.quilt_btree.proofs.subtrees.Whole.{tree_spells}
use Rattle.quilt_btree.proofs.ways.Forks.{value_led}
use Rattle.quilt_btree.proofs.lists.Separators.{below_separator}

-- the bytes of a page, where the pages are told
are_pages : (told : Option (List (List ℕ))) (pages : List (List ℕ)) (page : ℕ) → told ≡ Some pages → AreOf told page (slice_index_or pages page [])
are_pages told pages page is = λ others o. ap (λ ps. slice_index_or ps page []) (same_Some pages others (sym is ∙ o))

-- the leaf to which a key leads is the leaf for keys from this one on
pub leads_from : (told : Option (List (List ℕ))) (t : Tree) (k : Key) (page : ℕ) (high : Option Key) → 1 ≤ t.height
    → ((bytes : List ℕ) → AreOf told page bytes → Arrives told t.root t.height k None bytes high) → IsLeafFrom told t page k high
leads_from told t k page high some f = λ rs is.
    let ne : t.height ≢ 0 = omega arith in
    let s = tree_spells told t rs ne is in
    let bytes = slice_index_or is.pages page [] in
    let a = f bytes (are_pages told is.pages page is.is_told) in
    let l = a.leads rs s.0 s.1 in
    record {
      own = page_records bytes;
      is_leaf = λ other are. ap leaf_of (are is.pages is.is_told) ∙ a.leaf rs s.0;
      before = l.before;
      behind = l.behind;
      records = l.records;
      lower = l.lower;
      bounded = l.bounded;
      here_under = l.here_under;
      bound = λ pages told_is. a.cut.ends pages rs s.0 told_is s.1 refl;
    }

-- the leaf is the one to which each of its keys leads
pub led_from : {told : Option (List (List ℕ))} {t : Tree} {page : ℕ} {low : Key} {high : Option Key} {rs : List Record} (k : Key)
    (s : HoldsKeys told t page low high rs) → is_le (key_cmp low k) ≡ true → is_below high k ≡ true → LeadsToLeaf k rs s.own None high
led_from {low} {high} k s le below = record {
  before = s.before;
  behind = s.behind;
  records = s.records;
  lower = all_follow (λ (r : Record). is_lt (key_cmp r.key low)) (λ r. is_lt (key_cmp r.key k)) (λ r h. lt_le r.key low k h le) s.before s.lower;
  higher = all_follow (λ (r : Record). is_past high r.key) (λ r. is_lt (key_cmp k r.key)) (λ r past. under_past high k r.key below past) s.behind s.bounded;
  bounded = s.bounded;
  nearer = λ m past. never m past;
  key_under = λ h. below;
  here_under = s.here_under;
}
  where
    never : (m : Key) → is_past None m ≡ true → is_past high m ≡ true
    never m h = cc

-- so the record with such a key is in the leaf
pub value_from : {told : Option (List (List ℕ))} {t : Tree} {page : ℕ} {low : Key} {high : Option Key} {bytes : List ℕ} (k : Key)
    {v : Option (List ℕ)} → IsLeafFrom told t page low high → is_le (key_cmp low k) ≡ true → is_below high k ≡ true → AreOf told page bytes
    → ((here : List Record) → leaf_of bytes ≡ Some here → v ≡ value_at_key k here) → (rs : List Record) → IsTree told t rs → v ≡ value_at_key k rs
value_from {bytes} k {v} f le below are found rs is =
    let s = f rs is in
    let l = led_from k s le below in
    value_led k rs bytes v (record {
      here = s.own;
      is_leaf = s.is_leaf bytes are;
      before = l.before;
      behind = l.behind;
      records = l.records;
      lower = l.lower;
      higher = l.higher;
    }) found

-- and so is the floor of such a key, where the leaf has one
pub floor_of_spot : {told : Option (List (List ℕ))} {t : Tree} {page : ℕ} {low : Key} {high : Option Key} {bytes : List ℕ} (k : Key)
    (o : Option Record) → IsLeafFrom told t page low high → is_below high k ≡ true → AreOf told page bytes
    → ((here : List Record) → leaf_of bytes ≡ Some here → o ≡ floor_of k here)
    → IfSome o (λ r. (rs : List Record) → IsTree told t rs → Some r ≡ floor_of k rs)
floor_of_spot k None f below are found = tt
floor_of_spot {high} {bytes} k (Some r) f below are found = λ rs is.
    let s = f rs is in
    floor_is_near bytes high k r rs below found
    (record { own = s.own; is_leaf = s.is_leaf bytes are; before = s.before; behind = s.behind; records = s.records; bounded = s.bounded })

-- what stands before a record of a list that ascends is below it
below_first : (before own behind : List Record) (r : Record) → is_ascending (keys_of (before ++ (own ++ behind))) ≡ true → slice_get own 0 ≡ Some r
    → list_all (λ (l : Record). is_lt (key_cmp l.key r.key)) before ≡ true
below_first before own behind r a is =
    let f = begins_with own r is in
    let cut = subst (λ l. is_ascending (keys_of (before ++ (l ++ behind))) ≡ true) f.1 a in
    all_map (λ (l : Record). l.key) (λ l. is_lt (key_cmp l r.key)) before
    (below_separator r.key (keys_of before) (keys_of (f.0 ++ behind))
    (subst (λ l. is_ascending l ≡ true) (keys_append before (r ∷ (f.0 ++ behind))) cut))

-- it is the leaf for all keys from its first on
pub widened_from : {told : Option (List (List ℕ))} {t : Tree} {page : ℕ} {low : Key} {high : Option Key} {bytes : List ℕ} (r : Record) → 1 ≤ t.height
    → AreOf told page bytes → ((own : List Record) → leaf_of bytes ≡ Some own → 0 < length own → slice_get own 0 ≡ Some r)
    → IsLeafFrom told t page low high → IsLeafFrom told t page r.key high
widened_from {told} {t} {bytes} r some are first f = λ rs is.
    let ne : t.height ≢ 0 = omega arith in
    let s = f rs is in
    let leaf = s.is_leaf bytes are in
    let least = (leaf_list bytes s.own leaf).least in
    let tree = (tree_spells told t rs ne is).0 in
    let rises = (subtree_rises tree.pages t.height tree.is_root (t.root, tree.bounds) rs tree.used tree.subtree).ascends in
    record {
      own = s.own;
      is_leaf = s.is_leaf;
      before = s.before;
      behind = s.behind;
      records = s.records;
      lower = below_first s.before s.own s.behind r (subst (λ (l : List Record). is_ascending (keys_of l) ≡ true) s.records rises)
          (first s.own leaf (omega arith));
      bounded = s.bounded;
      here_under = s.here_under;
      bound = s.bound;
    }

-- what is added of a page behind a look that wrote nothing
pub added_along : {told now : Option (List (List ℕ))} {page : ℕ} {low high : Key} {most : ℕ} {old new : List Record} → now ≡ told
    → AddsFrom now page low high most old new → AddsFrom told page low high most old new
added_along {page = page} {low = low} {high = high} {most = most} {old = old} {new = new} same a =
    subst (λ o. AddsFrom o page low high most old new) same a

-- the records of a range in the leaf are the range so far
module _ {told : Option (List (List ℕ))} {t : Tree} {page : ℕ} {from : Key} {up : Option Key} {low high : Key} {most : ℕ}
    {old new : List Record} (f : IsLeafFrom told t page from up) (le : is_le (key_cmp from low) ≡ true) (below : is_below up low ≡ true)
    (a : AddsFrom told page low high most old new) (none : old ≡ []) where
  so_far : (rs : List Record) → IsTree told t rs
      → (own : List Record) × (l : LeadsToLeaf low rs own None up) × (new ≡ range_of low high most (l.before ++ own))
  so_far rs is =
      let s = f rs is in
      let l = led_from low s le below in
      let leaf = s.is_leaf a.bytes a.are in (
        s.own,
        l,
        range_first low high most rs s.own new None up l
            (a.added ∙ ap (λ (l : List Record). take most (l ++ filter (is_from_to low high) a.some)) none
            ∙ ap (λ (l : List Record). take most ([] ++ l)) (a.same s.own leaf)),
      )

  goes_on : (next : Key) → up ≡ Some next → (rs : List Record) → IsTree told t rs → Before told t low high most next rs new
  goes_on next e rs is =
      let s = so_far rs is in
      let on = subst (λ o. (l : LeadsToLeaf low rs s.0 None o) × (new ≡ range_of low high most (l.before ++ s.0))) e (s.1, s.2) in (
        is.pages,
        is.is_told,
        next_divides is.pages t.height t.root up next e ((f rs is).bound is.pages is.is_told),
        lt_to_le (key_cmp low next) (on.0.key_under refl),
        range_next low low high most rs s.0 new None next on.0 refl on.1,
      )

  -- where it ends there, where there are as many as wanted, and where it goes on
  pub spot_ends : ((next : Key) → up ≡ Some next → is_le (key_cmp next high) ≡ false) → (rs : List Record) → IsTree told t rs
      → new ≡ range_of low high most rs
  spot_ends over rs is = let s = so_far rs is in range_ends low low high most rs s.0 new None up s.1 over s.2

  pub spot_fills : length new ≡ most → (rs : List Record) → IsTree told t rs → new ≡ range_of low high most rs
  spot_fills full rs is = let s = so_far rs is in range_fills low low high most rs s.0 new None up s.1 full s.2

  pub spot_sound : {later : Option (List (List ℕ))} {next : Key} (e : Stop) → later ≡ told → up ≡ Some next
      → ((l : Key) (rs : List Record) → IsTree later t rs → Before later t l high most next rs new → IsNotDamage e) → (rs : List Record) → IsTree told t rs
      → IsNotDamage e
  spot_sound {next = next} e along up_is g rs is =
      subst (λ o. (l : Key) (rs : List Record) → IsTree o t rs → Before o t l high most next rs new → IsNotDamage e) along g low rs is (goes_on next up_is rs is)

  pub spot_rest : {later : Option (List (List ℕ))} {next : Key} (last : List Record) → later ≡ told → up ≡ Some next
      → ((l : Key) (rs : List Record) → IsTree later t rs → Before later t l high most next rs new → last ≡ range_of l high most rs)
      → (rs : List Record) → IsTree told t rs → last ≡ range_of low high most rs
  spot_rest {next = next} last along up_is g rs is =
      subst (λ o. (l : Key) (rs : List Record) → IsTree o t rs → Before o t l high most next rs new → last ≡ range_of l high most rs) along g
      low rs is (goes_on next up_is rs is)

-- a key of the leaf is below the one that begins the next
pub under_next : (k next : Key) (high : Option Key) → is_below high k ≡ true → high ≡ Some next → is_lt (key_cmp k next) ≡ true
under_next k next high below is = subst (λ o. is_below o k ≡ true) is below

-- a range of keys of a spot does not go on behind its leaf
pub never_on : (size : ℕ) {o : Option Spot} {s : Spot} (high next : Key) → o ≡ Some s → IsAtSpot size o high → s.high ≡ Some next
    → is_le (key_cmp next high) ≡ true → ⊥
never_on size high next is at up le =
    let here = subst (λ z. IsAtSpot size z high) is at in
    let below = subst (λ z. is_below z high ≡ true) up here.3 in
    let no = gt_not_le high next below in
    true_false (is_le (key_cmp next high)) le no

-- a key of a leaf is a key of the spot that is put there
pub placed_at : (size : ℕ) (s wide : Spot) (k : Key) → (1 ≤ s.page) × (s.page < size) → (is_le (key_cmp s.low k) ≡ true) × (is_below s.high k ≡ true)
    → (wide.page ≡ s.page) × (wide.high ≡ s.high) × (is_le (key_cmp wide.low s.low) ≡ true) → IsAtSpot size (Some wide) k
placed_at size s wide k page key same = (
  subst (λ (p : ℕ). 1 ≤ p) (sym same.0) page.0,
  subst (λ (p : ℕ). p < size) (sym same.0) page.1,
  le_le wide.low s.low k same.2 key.0,
  subst (λ z. is_below z k ≡ true) (sym same.1) key.1,
)
