-- The child to which a key leads, and what stands before and behind it.
use Rattle.std.proofs.Common.{◌≡◌, ℕ, suc, ◌+◌, ◌-◌, ◌<◌, ◌≤◌, true, false, ◌&&◌, not, List, [], ◌∷◌, ◌++◌, length, map, take, drop, Option, Some, None}
use Rattle.std.proofs.lemmas.Bool.{and_parts, not-true}
use Rattle.std.proofs.Common.{slice_index, refl, sym, ◌∙◌, ap, subst, arith, take-append-drop, length-take-le, length-drop, drop-cons}
use Rattle.std.specs.List.{list_all}
use Rattle.std.specs.Ordering.{is_lt, is_le}
use Rattle.quilt_record.specs.declared.key.Key.{Key}
use Rattle.quilt_record.specs.declared.record.Record.{Record}
use Rattle.quilt_record.specs.Records.{key_cmp}
use Rattle.quilt_node.specs.Pages.{Inner, is_ascending}
use Rattle.quilt_node.specs.Nodes.{IsPlace}
use Rattle.quilt_node.specs.Tree.{Bounds, bounded, is_above, is_below, are_within}
use Rattle.quilt_btree.specs.Subtree.{Reading, Row, Subtree}
use Rattle.quilt_btree.specs.Trees.{is_past}
use Rattle.quilt_record.proofs.Orders.{lt_le, lt_to_le, not_le}
use Rattle.quilt_btree.proofs.lists.Rising.{all_follow, all_map}
use Rattle.quilt_btree.proofs.subtrees.Trees.{KeysFit, IsInnerList, subtree_rises, row_rises, ascending_rest, within_rest}
use Rattle.quilt_btree.proofs.rows.Places.{front, from_keys, head_bounds, tail_places, bounded_at, AtPlace, at_place, IsSide, Rises, front_before, tail_behind}
use Rattle.quilt_btree.proofs.lists.Lists.{AreBelow, AreAbove, gt_not_le}

-- the keys behind some of them ascend, and lie within the bounds there
pub record AreBehind (ka kb : List Key) (b : Bounds) : Type 0 where
  pub ascend : is_ascending kb ≡ true
  pub within : are_within (from_keys ka b) kb ≡ true

pub keys_behind : (ka kb : List Key) (b : Bounds) → is_ascending (ka ++ kb) ≡ true → are_within b (ka ++ kb) ≡ true → AreBehind ka kb b
keys_behind [] kb b a w = record { ascend = a; within = w }
keys_behind (k ∷ ka) kb b a w =
    let more = keys_behind ka kb (record { low = Some k; high = b.high }) (ascending_rest k (ka ++ kb) a) (within_rest b k (ka ++ kb) a w) in
    record { ascend = more.ascend; within = more.within }

-- the bounds of the child at a place
abbrev pub child_bounds : Inner → Bounds → ℕ → Bounds
child_bounds inner b i = head_bounds (drop i inner.keys) (from_keys (take i inner.keys) b)

-- the children before, at and behind a place
abbrev pub AtChild : Reading → Inner → Bounds → ℕ → List Record → List ℕ → Type 0
AtChild S inner b i rs used =
    AtPlace S (front (take i inner.children) (take i inner.keys) b) ((slice_index inner.children i, child_bounds inner b i) ∷ [])
    (tail_places (drop (suc i) inner.children) (drop i inner.keys) (from_keys (take i inner.keys) b)) rs used

pub cut_children : (cs : List ℕ) (i : ℕ) → i < length cs → cs ≡ take i cs ++ slice_index cs i ∷ drop (suc i) cs
cut_children cs i lt = sym (take-append-drop i cs) ∙ ap (λ l. take i cs ++ l) (drop-cons cs i 0 lt)

pub as_long : (inner : Inner) (i : ℕ) → i < length inner.children → length inner.children ≡ length inner.keys + 1
    → length (take i inner.children) ≡ length (take i inner.keys)
as_long inner i lt n =
    let a = length-take-le i inner.children (omega arith) in
    let b = length-take-le i inner.keys (omega arith) in
    a ∙ sym b

-- keys up to one
pub key_side : (k : Key) → IsSide (λ l. is_le (key_cmp l k)) (λ m. is_lt (key_cmp m k))
key_side k = record {
  down = λ l m p q. lt_le m l k q p;
  up = λ l m p q. gt_not_le k m (lt_le k l m (not_le l k p) q);
}

-- a child's place by a key
pub record LeadsDown (S : Reading) (inner : Inner) (b : Bounds) (i : ℕ) (k : Key) (rs : List Record) (used : List ℕ) : Type 0 where
  pub at : AtChild S inner b i rs used
  pub lower : AreBelow k at.first
  pub higher : AreAbove k at.last

place_below : (i m n : ℕ) → i ≤ n → m ≡ n + 1 → i < m
place_below i m n h e = omega arith

pub place_in : (inner : Inner) (k : Key) (i : ℕ) → IsPlace inner.keys k i → length inner.children ≡ length inner.keys + 1 → i < length inner.children
place_in inner k i p n = place_below i (length inner.children) (length inner.keys) p.in_range n

pub behind_many : (cs : List ℕ) (ks : List Key) (i : ℕ) → length cs ≡ length ks + 1 → length (drop (suc i) cs) ≡ length (drop i ks)
behind_many cs ks i n = length-drop (suc i) cs ∙ less (length cs) (length ks) i n ∙ sym (length-drop i ks)
  where
    less : (m n i : ℕ) → m ≡ n + 1 → m - suc i ≡ n - i
    less m n i e = omega arith

pub tail_many : (cs : List ℕ) (ks : List Key) (i : ℕ) → length cs ≡ length ks + 1 → suc (length (drop (suc i) cs)) ≡ length (drop i ks) + 1
tail_many cs ks i n = more (length (drop (suc i) cs)) (length (drop i ks)) (behind_many cs ks i n)
  where
    more : (m n : ℕ) → m ≡ n → suc m ≡ n + 1
    more m n e = omega arith

module _ (inner : Inner) (b : Bounds) (i : ℕ) (rs : List Record) (used : List ℕ) where
  pub at_child : (S : Reading) → i < length inner.children → length inner.children ≡ length inner.keys + 1
      → Row S (bounded inner.children inner.keys b) rs used → AtChild S inner b i rs used
  at_child S lt n row =
      let ca = take i inner.children in
      let ka = take i inner.keys in
      let kb = drop i inner.keys in
      let c = slice_index inner.children i in
      let cb = drop (suc i) inner.children in
      let cut : bounded inner.children inner.keys b ≡ front ca ka b ++ (c, child_bounds inner b i) ∷ tail_places cb kb (from_keys ka b) =
      ap (λ l. bounded l inner.keys b) (cut_children inner.children i lt) ∙ ap (λ l. bounded (ca ++ c ∷ cb) l b) (sym (take-append-drop i inner.keys))
      ∙ bounded_at ca c cb ka kb b (as_long inner i lt n) in
      at_place S (front ca ka b) ((c, child_bounds inner b i) ∷ []) (tail_places cb kb (from_keys ka b)) rs used
      (subst (λ l. Row S l rs used) cut row)

  pub leads_down : (pages : List (List ℕ)) (h : ℕ) (bytes : List ℕ) (k : Key) → IsInnerList (length pages) bytes inner
      → are_within b inner.keys ≡ true → IsPlace inner.keys k i → Row (Subtree pages (suc h) false) (bounded inner.children inner.keys b) rs used
      → LeadsDown (Subtree pages (suc h) false) inner b i k rs used
  leads_down pages h bytes k page w p row =
      let S = Subtree pages (suc h) false in
      let rises : Rises S = λ c ss u t. subtree_rises pages (suc h) false c ss u t in
      let lt = place_in inner k i p page.keys in
      let at = at_child S lt page.keys row in
      let ka = take i inner.keys in
      let kb = drop i inner.keys in
      let behind = keys_behind ka kb b (subst (λ l. is_ascending l ≡ true) (sym (take-append-drop i inner.keys)) page.ascends)
      (subst (λ l. are_within b l ≡ true) (sym (take-append-drop i inner.keys)) w) in
      record {
        at = at;
        lower = front_before S rises (λ l. is_le (key_cmp l k)) (λ m. is_lt (key_cmp m k)) (key_side k)
            (take i inner.children) ka b at.first at.first_used p.before at.row_before;
        higher = all_follow (λ (r : Record). not (is_le (key_cmp r.key k))) (λ r. is_lt (key_cmp k r.key))
            (λ r h. not_le r.key k (not-true (is_le (key_cmp r.key k)) h)) at.last
            (tail_behind S rises (λ l. is_le (key_cmp l k)) (λ m. is_lt (key_cmp m k)) (key_side k) (drop (suc i) inner.children) kb
            (from_keys ka b) at.last at.last_used
            (record { many = tail_many inner.children inner.keys i page.keys; ascends = behind.ascend; within = behind.within })
            (all_follow (λ l. is_lt (key_cmp k l)) (λ l. not (is_le (key_cmp l k))) (λ l g. ap not (gt_not_le k l g)) kb p.behind) at.row_behind);
      }

-- the records behind the first child are from its upper bound on
pub tail_past : {S : Reading} → Rises S → (cs : List ℕ) (ks : List Key) (b : Bounds) (rs : List Record) (used : List ℕ) → KeysFit (suc (length cs)) ks b
    → Row S (tail_places cs ks b) rs used → list_all (λ r. is_past (head_bounds ks b).high r.key) rs ≡ true
tail_past one [] [] b rs used f row = subst (λ l. list_all (λ (r : Record). is_past b.high r.key) l ≡ true) (sym row.0) refl
tail_past one (c ∷ cs) [] b rs used f row = absurd (let n = f.many in omega arith)
tail_past one cs (k ∷ ks) b rs used f row =
    let rises = row_rises one cs ks (record { low = Some k; high = b.high }) rs used
    (record { many = more (length cs) (length ks) f.many; ascends = ascending_rest k ks f.ascends; within = within_rest b k ks f.ascends f.within }) row in
    all_map (λ (r : Record). r.key) (λ m. is_le (key_cmp k m)) rs
    (all_follow (λ m. is_le (key_cmp k m) && is_below b.high m) (λ m. is_le (key_cmp k m))
    (λ m g. (and_parts (is_le (key_cmp k m)) (is_below b.high m) g).0) (map (λ r. r.key) rs) rises.within)
  where
    more : (m n : ℕ) → suc m ≡ suc n + 1 → m ≡ n + 1
    more m n h = omega arith

-- and that bound is at most the page's own
pub head_nearer : (ks : List Key) (b : Bounds) → are_within b ks ≡ true → (m : Key) → is_past b.high m ≡ true
    → is_past (head_bounds ks b).high m ≡ true
head_nearer [] b w m h = h
head_nearer (k ∷ ks) b w m h =
    let t = and_parts (is_above b.low k && is_below b.high k) (are_within b ks) w in
    below_past b.high k m (and_parts (is_above b.low k) (is_below b.high k) t.0).1 h
  where
    below_past : (o : Option Key) (k m : Key) → is_below o k ≡ true → is_past o m ≡ true → is_le (key_cmp k m) ≡ true
    below_past None k m g h = cc
    below_past (Some high) k m g h = lt_to_le (key_cmp k m) (lt_le k high m g h)
