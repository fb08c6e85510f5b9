-- A subtree of a store that tells its pages, and the subtree of the child to which a key leads.
use Rattle.std.proofs.Common.{◌≡◌, ◌≢◌, ℕ, zero, suc, ◌-◌, ◌<◌, ◌≤◌, true, false, ◌&&◌, List, [], ◌∷◌, ◌++◌, length, map, take, drop, Option, Some, None}
use Rattle.std.proofs.lemmas.Bool.{and_parts}
use Rattle.std.proofs.Common.{Result, Ok, Err, IfOk, slice_index, slice_index_or, refl, sym, ◌∙◌, ap, subst, append_assoc, arith}
use Rattle.std.proofs.Common.{take-append-drop, drop_of_length-le}
use Rattle.std.specs.Prelude.{slice_get}
use Rattle.std.specs.List.{list_all, last_or}
use Rattle.std.specs.Option.{option_or}
use Rattle.std.specs.Ordering.{is_lt, is_le}
use Rattle.std.proofs.lemmas.List.{append-nil}
use Rattle.quilt_record.specs.declared.key.Key.{Key}
use Rattle.quilt_record.specs.declared.record.Record.{Record}
use Rattle.quilt_record.specs.Records.{key_cmp}
use Rattle.quilt_node.specs.Pages.{Inner, is_ascending}
use Rattle.quilt_node.specs.Nodes.{IsPlace}
use Rattle.quilt_node.specs.Tree.{Bounds, bounded, are_within, is_above, is_below}
use Rattle.quilt_types.specs.declared.stop.Stop.{Stop}
use Rattle.quilt_btree.specs.Lists.{floor_of}
use Rattle.quilt_btree.specs.Subtree.{Reading, Row, Subtree}
use Rattle.quilt_btree.specs.declared.step.Found.{Found}
use Rattle.quilt_btree.specs.Trees.{SpellsSubtree, ReadsLeaf, ReadsInner, LeadsToLeaf, is_past}
use Rattle.quilt_btree.proofs.lists.Rising.{all_append, all_follow, all_map}
use Rattle.quilt_btree.proofs.subtrees.Trees.{SpellsRow, IsInnerList, inner_list, subtree_rises}
use Rattle.quilt_btree.proofs.rows.Places.{front, from_keys, head_bounds, tail_places, Rises, one_row, high_from, head_low}
use Rattle.quilt_btree.proofs.lists.Lists.{IsAmong, floor_between, last_append}
use Rattle.quilt_btree.proofs.subtrees.Descents.{child_bounds, AtChild, at_child, leads_down, keys_behind, tail_past, head_nearer, tail_many, place_in}

-- at height 1 the page is a leaf
pub leaf_spells : (told : Option (List (List ℕ))) (page height : ℕ) (rs leaf : List Record) → height ≡ 1 → SpellsSubtree told page height rs
    → ReadsLeaf told page leaf → leaf ≡ rs
leaf_spells told page height rs leaf one s reads =
    let t = subst (λ h. Subtree s.pages h s.is_root (page, s.bounds) rs s.used) one s.subtree in
    let there = reads s.pages s.is_told in
    let mine = t.page in
    cc

-- above it an inner page
pub record IsAbove (told : Option (List (List ℕ))) (page height : ℕ) (inner : Inner) (rs : List Record) (s : SpellsSubtree told page height rs) : Type 0 where
  pub h : ℕ
  pub is_h : height ≡ suc (suc h)
  pub list : IsInnerList (length s.pages) (slice_index_or s.pages page []) inner
  pub within : are_within s.bounds inner.keys ≡ true
  pub under : List ℕ
  pub row : Row (Subtree s.pages (suc h) false) (bounded inner.children inner.keys s.bounds) rs under

pub height_above : (height : ℕ) → 1 ≤ height → height ≢ 1 → (h : ℕ) × (height ≡ suc (suc h))
height_above zero some ne = absurd (omega arith)
height_above (suc zero) some ne = absurd (ne refl)
height_above (suc (suc h)) some ne = (h, refl)

module _ (told : Option (List (List ℕ))) (page height : ℕ) (rs : List Record) (inner : Inner) where
  pub inner_spells : 1 ≤ height → height ≢ 1 → (s : SpellsSubtree told page height rs) → ReadsInner told page inner → IsAbove told page height inner rs s
  inner_spells some ne s reads =
      let e = height_above height some ne in
      let t = subst (λ n. Subtree s.pages n s.is_root (page, s.bounds) rs s.used) e.1 s.subtree in
      let there = reads s.pages s.is_told in
      let mine = t.page in
      let same : t.inner ≡ inner = cc in
      record {
        h = e.0;
        is_h = e.1;
        list = inner_list (length s.pages) (slice_index_or s.pages page []) inner there;
        within = subst (λ (i : Inner). are_within s.bounds i.keys ≡ true) same t.within;
        under = t.under;
        row = subst (λ (i : Inner). Row (Subtree s.pages (suc e.0) false) (bounded i.children i.keys s.bounds) rs t.under) same t.children;
      }

  -- the child's subtree
  pub child_spells : (i : ℕ) (s : SpellsSubtree told page height rs) (up : IsAbove told page height inner rs s)
      (at : AtChild (Subtree s.pages (suc up.h) false) inner s.bounds i rs up.under) → SpellsSubtree told (slice_index inner.children i) (height - 1) at.here
  child_spells i s up at =
      let n : height - 1 ≡ suc up.h = let e = up.is_h in omega arith in
      record {
        pages = s.pages;
        is_told = s.is_told;
        is_root = false;
        bounds = child_bounds inner s.bounds i;
        used = at.here_used;
        subtree = subst (λ m. Subtree s.pages m false (slice_index inner.children i, child_bounds inner s.bounds i) at.here at.here_used) (sym n)
            (one_row (Subtree s.pages (suc up.h) false) (slice_index inner.children i, child_bounds inner s.bounds i) at.here at.here_used at.row_here);
      }

-- what stands around the child to which a key leads
pub record LeadsBelow (told : Option (List (List ℕ))) (height : ℕ) (inner : Inner) (i : ℕ) (k : Key) (rs : List Record) (start : Option Key) : Type 0 where
  pub first : List Record
  pub here : List Record
  pub last : List Record
  pub among : IsAmong k first here last rs
  pub spells : SpellsSubtree told (slice_index inner.children i) (height - 1) here
  pub high : Option Key
  pub is_high : spells.bounds.high ≡ high
  pub is_next : high ≡ option_or (slice_get inner.keys i) start
  pub past : list_all (λ r. is_past high r.key) last ≡ true
  pub nearer : (m : Key) → is_past start m ≡ true → is_past high m ≡ true
  pub key_under : is_below start k ≡ true → is_below high k ≡ true
  pub ascend : is_ascending inner.keys ≡ true
  pub keys_under : list_all (is_below start) inner.keys ≡ true
  pub from_low : (j : ℕ) (d : Key) → i ≡ suc j → slice_get inner.keys j ≡ Some d → list_all (λ r. is_le (key_cmp d r.key)) here ≡ true
  pub none_before : i ≡ 0 → first ≡ []
  pub before : (j : ℕ) → i ≡ suc j → (earlier : List Record) × (prior : List Record) × (first ≡ earlier ++ prior)
      × SpellsSubtree told (slice_index inner.children j) (height - 1) prior

pub head_high : (ks : List Key) (i : ℕ) (b : Bounds) → (head_bounds (drop i ks) b).high ≡ option_or (slice_get ks i) b.high
head_high [] zero b = refl
head_high [] (suc i) b = refl
head_high (k ∷ ks) zero b = refl
head_high (k ∷ ks) (suc i) b = head_high ks i b

-- the last of some children that each have a key behind them
front_last : {S : Reading} (cs : List ℕ) (ks : List Key) (b : Bounds) (j : ℕ) {rs : List Record} → j < length cs → j < length ks
    → SpellsRow S (front (take (suc j) cs) (take (suc j) ks) b) rs
    → (earlier : List Record) × (prior : List Record) × (bounds : Bounds) × (pages : List ℕ) × (rs ≡ earlier ++ prior)
    × S (slice_index cs j, bounds) prior pages
front_last [] ks b j lt lk r = absurd (omega arith)
front_last (c ∷ cs) [] b j lt lk r = absurd (omega arith)
front_last (c ∷ cs) (k ∷ ks) b zero lt lk r =
    let row = r.row in
    let none = row.after in
    ([], row.first, record { low = b.low; high = Some k }, row.first_used, row.records ∙ ap (λ l. row.first ++ l) none.0 ∙ append-nil row.first, row.here)
front_last {S} (c ∷ cs) (k ∷ ks) b (suc j) lt lk r =
    let row = r.row in
    let more =
    front_last {S = S} cs ks (record { low = Some k; high = b.high }) j {rs = row.rest} (nearer j (length cs) lt) (nearer j (length ks) lk)
    (record { used = row.rest_used; row = row.after }) in
    (row.first ++ more.0, more.1, more.2, more.3, row.records ∙ ap (λ l. row.first ++ l) more.4 ∙ sym (append_assoc row.first more.0 more.1), more.5)
  where
    nearer : (i n : ℕ) → suc i < suc n → i < n
    nearer i n h = omega arith

low_from : (ks : List Key) (j : ℕ) (d : Key) (b : Bounds) → slice_get ks j ≡ Some d → (from_keys (take (suc j) ks) b).low ≡ Some d
low_from [] j d b h = cc
low_from (k ∷ ks) zero d b h = h
low_from (k ∷ ks) (suc j) d b h = low_from ks j d (record { low = Some k; high = b.high }) h

pub key_below : (ks : List Key) (b : Bounds) (k : Key) → list_all (λ l. is_lt (key_cmp k l)) ks ≡ true → is_below b.high k ≡ true
    → is_below (head_bounds ks b).high k ≡ true
key_below [] b k p h = h
key_below (l ∷ ks) b k p h = (and_parts (is_lt (key_cmp k l)) (list_all (λ m. is_lt (key_cmp k m)) ks) p).0

pub along_told : (old new : Option (List (List ℕ))) (page height : ℕ) (rs : List Record) → new ≡ old → SpellsSubtree old page height rs
    → SpellsSubtree new page height rs
along_told old new page height rs e s =
    record { pages = s.pages; is_told = e ∙ s.is_told; is_root = s.is_root; bounds = s.bounds; used = s.used; subtree = s.subtree }

module _ (told : Option (List (List ℕ))) (page height : ℕ) where
  pub leads_below : {rs : List Record} (inner : Inner) (i : ℕ) (k : Key) → 1 ≤ height → height ≢ 1 → (s : SpellsSubtree told page height rs)
      → ReadsInner told page inner → IsPlace inner.keys k i → LeadsBelow told height inner i k rs s.bounds.high
  unfolding child_spells
  leads_below {rs} inner i k some ne s reads p =
      let up = inner_spells told page height rs inner some ne s reads in
      let S = Subtree s.pages (suc up.h) false in
      let rises : Rises S = λ c ss u t. subtree_rises s.pages (suc up.h) false c ss u t in
      let down = leads_down inner s.bounds i rs up.under s.pages up.h (slice_index_or s.pages page []) k up.list up.within p up.row in
      let at = down.at in
      let ka = take i inner.keys in
      let kb = drop i inner.keys in
      let behind = keys_behind ka kb s.bounds (subst (λ l. is_ascending l ≡ true) (sym (take-append-drop i inner.keys)) up.list.ascends)
      (subst (λ l. are_within s.bounds l ≡ true) (sym (take-append-drop i inner.keys)) up.within) in
      record {
        first = at.first;
        here = at.here;
        last = at.last;
        among = record { records = at.records; lower = down.lower; higher = down.higher };
        spells = child_spells told page height rs inner i s up at;
        high = (child_bounds inner s.bounds i).high;
        is_high = refl;
        is_next = head_high inner.keys i (from_keys ka s.bounds) ∙ ap (λ o. option_or (slice_get inner.keys i) o) (high_from ka s.bounds);
        past = tail_past rises (drop (suc i) inner.children) kb (from_keys ka s.bounds) at.last at.last_used
            (record { many = tail_many inner.children inner.keys i up.list.keys; ascends = behind.ascend; within = behind.within }) at.row_behind;
        nearer = λ m h. head_nearer kb (from_keys ka s.bounds) behind.within m (subst (λ o. is_past o m ≡ true) (sym (high_from ka s.bounds)) h);
        key_under = λ h. key_below kb (from_keys ka s.bounds) k p.behind (subst (λ o. is_below o k ≡ true) (sym (high_from ka s.bounds)) h);
        ascend = up.list.ascends;
        keys_under = all_follow (λ m. is_above s.bounds.low m && is_below s.bounds.high m) (is_below s.bounds.high)
            (λ m h. (and_parts (is_above s.bounds.low m) (is_below s.bounds.high m) h).1) inner.keys up.within;
        from_low = λ j d e is.
            let child = one_row S (slice_index inner.children i, child_bounds inner s.bounds i) at.here at.here_used at.row_here in
            let low : (child_bounds inner s.bounds i).low ≡ Some d =
            head_low kb (from_keys ka s.bounds) ∙ ap (λ n. (from_keys (take n inner.keys) s.bounds).low) e ∙ low_from inner.keys j d s.bounds is in
            let rises = rises (slice_index inner.children i, child_bounds inner s.bounds i) at.here at.here_used child in
            all_map (λ (r : Record). r.key) (λ m. is_le (key_cmp d m)) at.here
            (all_follow (λ m. is_above (child_bounds inner s.bounds i).low m && is_below (child_bounds inner s.bounds i).high m) (λ m. is_le (key_cmp d m))
            (λ m h. subst (λ o. is_above o m ≡ true) low
            (and_parts (is_above (child_bounds inner s.bounds i).low m) (is_below (child_bounds inner s.bounds i).high m) h).0)
            (map (λ r. r.key) at.here) rises.within);
        none_before = λ e. let row =
            subst (λ n. Row S (front (take n inner.children) (take n inner.keys) s.bounds) at.first at.first_used) e at.row_before in row.0;
        before = λ j e.
            let lt : j < length inner.children = let q = place_in inner k i p up.list.keys in omega arith in
            let lk : j < length inner.keys = let q = p.in_range in omega arith in
            let f = front_last inner.children inner.keys s.bounds j lt lk
            (subst (λ n. SpellsRow S (front (take n inner.children) (take n inner.keys) s.bounds) at.first) e
            (record { used = at.first_used; row = at.row_before })) in
            let n : height - 1 ≡ suc up.h = let z = up.is_h in omega arith in (
              f.0,
              f.1,
              f.4,
              record {
                pages = s.pages;
                is_told = s.is_told;
                is_root = false;
                bounds = f.2;
                used = f.3;
                subtree = subst (λ m. Subtree s.pages m false (slice_index inner.children j, f.2) f.1 f.3) (sym n) f.5;
              },
            );
      }

  pub leaf_leads : (k : Key) (leaf : List Record) (high : Option Key) → height ≡ 1 → ReadsLeaf told page leaf → (rs : List Record)
      (s : SpellsSubtree told page height rs) → s.bounds.high ≡ high → LeadsToLeaf k rs leaf high high
  leaf_leads k leaf high one reads rs s e =
      let same = leaf_spells told page height rs leaf one s reads in
      let rises = subtree_rises s.pages height s.is_root (page, s.bounds) rs s.used s.subtree in
      record {
        before = [];
        behind = [];
        records = sym same ∙ sym (append-nil leaf);
        lower = refl;
        higher = refl;
        bounded = refl;
        nearer = λ m h. h;
        key_under = λ h. h;
        here_under = subst (λ o. list_all (λ (r : Record). is_below o r.key) leaf ≡ true) e
            (subst (λ l. list_all (λ (r : Record). is_below s.bounds.high r.key) l ≡ true) (sym same)
            (all_map (λ (r : Record). r.key) (is_below s.bounds.high) rs
            (all_follow (λ m. is_above s.bounds.low m && is_below s.bounds.high m) (is_below s.bounds.high)
            (λ m h. (and_parts (is_above s.bounds.low m) (is_below s.bounds.high m) h).1) (map (λ r. r.key) rs) rises.within)));
      }

leads_on : {told : Option (List (List ℕ))} {height i : ℕ} {k : Key} {inner : Inner} {rs : List Record} {start : Option Key}
    (at : LeadsBelow told height inner i k rs start) (leaf : List Record) (high : Option Key)
    → LeadsToLeaf k at.here leaf at.high high → LeadsToLeaf k rs leaf start high
leads_on {k} at leaf high l = record {
  before = at.first ++ l.before;
  behind = l.behind ++ at.last;
  records = at.among.records ∙ ap (λ m. at.first ++ (m ++ at.last)) l.records
      ∙ ap (λ m. at.first ++ m) (append_assoc l.before (leaf ++ l.behind) at.last ∙ ap (λ m. l.before ++ m) (append_assoc leaf l.behind at.last))
      ∙ sym (append_assoc at.first l.before (leaf ++ (l.behind ++ at.last)));
  lower = all_append (λ (r : Record). is_lt (key_cmp r.key k)) at.first l.before at.among.lower l.lower;
  higher = all_append (λ (r : Record). is_lt (key_cmp k r.key)) l.behind at.last l.higher at.among.higher;
  bounded = all_append (λ (r : Record). is_past high r.key) l.behind at.last l.bounded
      (all_follow (λ (r : Record). is_past at.high r.key) (λ r. is_past high r.key) (λ r h. l.nearer r.key h) at.last at.past);
  nearer = λ m h. l.nearer m (at.nearer m h);
  key_under = λ h. l.key_under (at.key_under h);
  here_under = l.here_under;
}

-- the inner page at a page, and its child to which the key leads
pub record AtFloor (old new : Option (List (List ℕ))) (page height child i : ℕ) (k : Key) (inner : Inner) : Type 0 where
  pub told : new ≡ old
  pub some : 1 ≤ height
  pub above : height ≢ 1
  pub reads : ReadsInner old page inner
  pub place : IsPlace inner.keys k i
  pub is_child : child ≡ slice_index inner.children i

pub leads_up : (r : Result Found Stop) (leaf : List Record) {old new : Option (List (List ℕ))} {page height child i : ℕ} {k : Key} {inner : Inner}
    (start : Option Key) {high : Option Key} → AtFloor old new page height child i k inner → high ≡ option_or (slice_get inner.keys i) start
    → IfOk r (λ f. (rs : List Record) (s : SpellsSubtree new child (height - 1) rs) → s.bounds.high ≡ high → LeadsToLeaf k rs leaf high f.high)
    → IfOk r (λ f. (rs : List Record) (s : SpellsSubtree old page height rs) → s.bounds.high ≡ start → LeadsToLeaf k rs leaf start f.high)
leads_up (Err e) leaf start a is f = f
leads_up (Ok v) leaf {old} {new} {page} {height} {i} {k} {inner} start {high} a is f = λ rs s h.
    let at = subst (λ o. LeadsBelow old height inner i k rs o) h (leads_below old page height inner i k a.some a.above s a.reads a.place) in
    let same : at.high ≡ high = at.is_next ∙ sym is in
    let g = subst (λ (c : ℕ). (rs : List Record) (s : SpellsSubtree new c (height - 1) rs) → s.bounds.high ≡ high → LeadsToLeaf k rs leaf high v.high) a.is_child f in
    leads_on at leaf v.high
    (subst (λ o. LeadsToLeaf k at.here leaf o v.high) (sym same)
    (g at.here (record {
      pages = at.spells.pages;
      is_told = a.told ∙ at.spells.is_told;
      is_root = at.spells.is_root;
      bounds = at.spells.bounds;
      used = at.spells.used;
      subtree = at.spells.subtree;
    }) (at.is_high ∙ same)))

-- the last child
pub record EndsBelow (told : Option (List (List ℕ))) (height child : ℕ) (rs : List Record) : Type 0 where
  pub first : List Record
  pub here : List Record
  pub records : rs ≡ first ++ here
  pub spells : SpellsSubtree told child (height - 1) here

last_late : {X : Type 0} (o : Option X) (xs : List X) (x : X) → last_or None xs ≡ Some x → last_or o xs ≡ Some x
last_late o [] x h = cc
last_late o (y ∷ xs) x h = h

module _ (page height child n : ℕ) (inner : Inner) (some : 1 ≤ height) (ne : height ≢ 1) (many : n ≡ length inner.children)
    (is : child ≡ slice_index inner.children (n - 1)) where
  pub ends_below : (told : Option (List (List ℕ))) → ReadsInner told page inner → (rs : List Record) → SpellsSubtree told page height rs
      → EndsBelow told height child rs
  ends_below told reads rs s =
      let up = inner_spells told page height rs inner some ne s reads in
      let S = Subtree s.pages (suc up.h) false in
      let i = n - 1 in
      let two = up.list.least in
      let lt : i < length inner.children = omega arith in
      let at = at_child inner s.bounds i rs up.under S lt up.list.keys up.row in
      let no_key : length inner.keys ≤ i = let k = up.list.keys in omega arith in
      let no_more : length inner.children ≤ suc i = omega arith in
      let row = subst (λ l. Row S (tail_places (drop (suc i) inner.children) l (from_keys (take i inner.keys) s.bounds)) at.last at.last_used)
      (drop_of_length-le inner.keys no_key) at.row_behind in
      let end = subst (λ l. Row S (bounded l [] (from_keys (take i inner.keys) s.bounds)) at.last at.last_used)
      (drop_of_length-le inner.children no_more) row in
      record {
        first = at.first;
        here = at.here;
        records = at.records ∙ ap (λ l. at.first ++ (at.here ++ l)) end.0 ∙ ap (λ l. at.first ++ l) (append-nil at.here);
        spells = subst (λ c. SpellsSubtree told c (height - 1) at.here) (sym is) (child_spells told page height rs inner i s up at);
      }

  pub last_up : (r : Result Record Stop) (old new : Option (List (List ℕ))) → new ≡ old → ReadsInner old page inner
      → IfOk r (λ x. (rs : List Record) → SpellsSubtree new child (height - 1) rs → last_or None rs ≡ Some x)
      → IfOk r (λ x. (rs : List Record) → SpellsSubtree old page height rs → last_or None rs ≡ Some x)
  last_up (Err e) old new t reads f = f
  last_up (Ok x) old new t reads f = λ rs s.
      let end = ends_below old reads rs s in
      ap (last_or None) end.records ∙ last_append None end.first end.here
      ∙ last_late (last_or None end.first) end.here x (f end.here (along_told old new child (height - 1) end.here t end.spells))

-- the floor is under the child, or else the last record before it
module _ {old new : Option (List (List ℕ))} {page height child i : ℕ} {k : Key} {inner : Inner} where
  pub floor_here : (r : Record) → AtFloor old new page height child i k inner
      → ((rs : List Record) → SpellsSubtree new child (height - 1) rs → Some r ≡ floor_of k rs) → (rs : List Record) → SpellsSubtree old page height rs
      → Some r ≡ floor_of k rs
  floor_here r a f rs s =
      let at = leads_below old page height inner i k a.some a.above s a.reads a.place in
      let here =
      f at.here (subst (λ c. SpellsSubtree new c (height - 1) at.here) (sym a.is_child)
      (along_told old new (slice_index inner.children i) (height - 1) at.here a.told at.spells)) in
      ap (λ o. option_or o (last_or None at.first)) here ∙ sym (floor_between k at.first at.here at.last rs at.among)

  pub floor_none : AtFloor old new page height child i k inner → i ≡ 0
      → ((rs : List Record) → SpellsSubtree new child (height - 1) rs → None ≡ floor_of k rs) → (rs : List Record) → SpellsSubtree old page height rs
      → None ≡ floor_of k rs
  floor_none a zero_place f rs s =
      let at = leads_below old page height inner i k a.some a.above s a.reads a.place in
      let here =
      f at.here (subst (λ c. SpellsSubtree new c (height - 1) at.here) (sym a.is_child)
      (along_told old new (slice_index inner.children i) (height - 1) at.here a.told at.spells)) in
      ap (last_or None) (sym (at.none_before zero_place)) ∙ ap (λ o. option_or o (last_or None at.first)) here
      ∙ sym (floor_between k at.first at.here at.last rs at.among)

pub floor_before : {old new newer : Option (List (List ℕ))} {page height child prior i : ℕ} {k : Key} {inner : Inner} (r : Record)
    → AtFloor old new page height child i k inner → i ≢ 0 → newer ≡ old → prior ≡ slice_index inner.children (i - 1)
    → ((rs : List Record) → SpellsSubtree new child (height - 1) rs → None ≡ floor_of k rs)
    → ((rs : List Record) → SpellsSubtree newer prior (height - 1) rs → last_or None rs ≡ Some r) → {rs : List Record} → SpellsSubtree old page height rs
    → Some r ≡ floor_of k rs
floor_before {old = old} {new = new} {newer = newer} {page = page} {height = height} {i = i} {k = k} {inner = inner} r a some t is f g {rs = rs} s =
    let at = leads_below old page height inner i k a.some a.above s a.reads a.place in
    let here =
    f at.here (subst (λ c. SpellsSubtree new c (height - 1) at.here) (sym a.is_child)
    (along_told old new (slice_index inner.children i) (height - 1) at.here a.told at.spells)) in
    let n : i ≡ suc (i - 1) = omega arith in
    let b = at.before (i - 1) n in
    let last =
    g b.1 (subst (λ c. SpellsSubtree newer c (height - 1) b.1) (sym is) (along_told old newer (slice_index inner.children (i - 1)) (height - 1) b.1 t b.3)) in
    let of_first : last_or None at.first ≡ Some r = ap (last_or None) b.2 ∙ last_append None b.0 b.1 ∙ last_late (last_or None b.0) b.1 r last in
    sym of_first ∙ ap (λ o. option_or o (last_or None at.first)) here ∙ sym (floor_between k at.first at.here at.last rs at.among)
