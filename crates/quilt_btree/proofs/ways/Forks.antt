-- What the bytes of a page say of the subtree there: the child to which a key leads, and the last one.
use Rattle.std.proofs.Common.{◌≡◌, ◌≢◌, ◌⊎◌, ℕ, zero, suc, ◌-◌, ◌<◌, ◌≤◌, true, ◌&&◌, nat_le, nat_lt, List, [], ◌∷◌, ◌++◌, length, Option, Some, None, Result}
use Rattle.std.proofs.lemmas.Bool.{and_parts, leb-true, ltb-true}
use Rattle.std.proofs.Common.{Ok, Err, IfOk, IfErr, IfSome, OnOk, slice_index, slice_index_or, refl, sym, ◌∙◌, ap, subst, append_assoc, arith}
use Rattle.std.specs.List.{last_or}
use Rattle.std.specs.Ordering.{is_lt}
use Rattle.std.proofs.lemmas.List.{append-nil}
use Rattle.std.proofs.lemmas.Option.{same_Some}
use Rattle.quilt_record.specs.declared.key.Key.{Key}
use Rattle.quilt_record.specs.declared.record.Record.{Record}
use Rattle.quilt_record.specs.Records.{key_cmp}
use Rattle.quilt_node.specs.Pages.{Inner, leaf_of, inner_of}
use Rattle.quilt_node.specs.Nodes.{are_pages, IsPlace, IsGap}
use Rattle.quilt_store.specs.Store.{Touches}
use Rattle.quilt_world.specs.Tale.{Goes}
use Rattle.quilt_types.specs.declared.stop.Stop.{Stop}
use Rattle.quilt_btree.specs.Lists.{value_at_key}
use Rattle.quilt_store.specs.Stops.{IsNotDamage}
use Rattle.quilt_btree.specs.Subtree.{Subtree}
use Rattle.quilt_btree.specs.Trees.{SpellsSubtree, ReadsInner, IsTree}
use Rattle.quilt_btree.specs.Floors.{child_place, last_pages, floor_pages, TouchesInTurn, HoldsFirst, ReadsNone}
use Rattle.quilt_btree.specs.Searches.{IsFork, AreOf, IsLeafFor}
use Rattle.quilt_btree.proofs.lists.Rising.{all_append}
use Rattle.quilt_btree.proofs.lists.Lists.{IsAmong, value_between}
use Rattle.quilt_btree.proofs.stores.Held.{IsTouched}
use Rattle.quilt_btree.proofs.subtrees.Descending.{height_above, leads_below, along_told, AtFloor, ends_below, last_up}
use Rattle.quilt_btree.proofs.subtrees.Trees.{inner_list, leaf_list}
use Rattle.quilt_btree.proofs.subtrees.Descents.{place_in}
use Rattle.quilt_btree.proofs.ways.Turns.{AtLast, last_touched, last_again, root_first}
use Rattle.quilt_btree.specs.declared.tree.Tree.{Tree}
use Rattle.quilt_btree.proofs.subtrees.Whole.{tree_spells}

-- a page above the leaves, as it was read
pub record IsRead (old new : Option (List (List ℕ))) (page height size : ℕ) (bytes : List ℕ) : Type 0 where
  pub some : 1 ≤ height
  pub above : height ≢ 1
  pub told : new ≡ old
  pub many : IfSome old (λ pages. length pages ≡ size)
  pub are : AreOf old page bytes

pub record IsHere (told : Option (List (List ℕ))) (page height size : ℕ) (bytes : List ℕ) : Type 0 where
  pub inner : Inner
  pub reads : ReadsInner told page inner
  pub is : inner_of size bytes ≡ Some inner
  pub is_height : inner.height ≡ height

pub page_here : {old new : Option (List (List ℕ))} {page height size : ℕ} {bytes : List ℕ} {rs : List Record} → IsRead old new page height size bytes
    → SpellsSubtree old page height rs → IsHere old page height size bytes
page_here {page = page} {height = height} {size = size} {bytes = bytes} {rs = rs} r s =
    let n = height_above height r.some r.above in
    let t = subst (λ n. Subtree s.pages n s.is_root (page, s.bounds) rs s.used) n.1 s.subtree in
    let same : bytes ≡ slice_index_or s.pages page [] = r.are s.pages s.is_told in
    let long : length s.pages ≡ size = subst (λ o. IfSome o (λ pages. length pages ≡ size)) s.is_told r.many in
    record {
      inner = t.inner;
      reads = λ pages is. subst (λ ps. inner_of (length ps) (slice_index_or ps page []) ≡ Some t.inner) (same_Some s.pages pages (sym s.is_told ∙ is))
          t.page;
      is = ap (inner_of size) same ∙ ap (λ m. inner_of m (slice_index_or s.pages page [])) (sym long) ∙ t.page;
      is_height = t.is_height ∙ sym n.1;
    }

pub leaf_here : (told : Option (List (List ℕ))) (page height : ℕ) (bytes : List ℕ) (rs : List Record) → height ≡ 1 → AreOf told page bytes
    → SpellsSubtree told page height rs → leaf_of bytes ≡ Some rs
leaf_here told page height bytes rs one are s =
    let t = subst (λ h. Subtree s.pages h s.is_root (page, s.bounds) rs s.used) one s.subtree in
    ap leaf_of (are s.pages s.is_told) ∙ t.page

pub record HasPrior (told : Option (List (List ℕ))) (height : ℕ) (inner : Inner) (i p : ℕ) : Type 0 where
  pub some : i ≢ 0
  pub is : p ≡ slice_index inner.children (i - 1)
  pub here : List Record
  pub spells : SpellsSubtree told p (height - 1) here

-- the child to which the key leads, and what stands around it
pub record Forked (old new : Option (List (List ℕ))) (page height : ℕ) (k : Key) (child : ℕ) (prior : Option ℕ) (rs : List Record) : Type 0 where
  pub inner : Inner
  pub i : ℕ
  pub at : AtFloor old new page height child i k inner
  pub number : i ≡ child_place k inner
  pub before : List Record
  pub here : List Record
  pub behind : List Record
  pub among : IsAmong k before here behind rs
  pub spells : SpellsSubtree new child (height - 1) here
  pub first : prior ≡ None → i ≡ 0
  pub later : (p : ℕ) → prior ≡ Some p → HasPrior old height inner i p

module _ (old new : Option (List (List ℕ))) (page height size : ℕ) (bytes : List ℕ) where
  pub forked : (k : Key) (child : ℕ) (prior : Option ℕ) (rs : List Record) → IsRead old new page height size bytes
      → ((inner : Inner) → inner_of size bytes ≡ Some inner → IsFork k inner child prior) → SpellsSubtree old page height rs
      → Forked old new page height k child prior rs
  forked k child prior rs r fork s =
      let h = page_here r s in
      let f = fork h.inner h.is in
      let low = leads_below old page height h.inner f.place k r.some r.above s h.reads f.is_place in
      record {
        inner = h.inner;
        i = f.place;
        at = record { told = r.told; some = r.some; above = r.above; reads = h.reads; place = f.is_place; is_child = f.child_is };
        number = f.number;
        before = low.first;
        here = low.here;
        behind = low.last;
        among = low.among;
        spells = subst (λ c. SpellsSubtree new c (height - 1) low.here) (sym f.child_is)
            (along_told old new (slice_index h.inner.children f.place) (height - 1) low.here r.told low.spells);
        first = f.first;
        later = λ p e.
            let q = f.later p e in
            let some : f.place ≢ 0 = q.0 in
            let n : f.place ≡ suc (f.place - 1) = omega arith in
            let b = low.before (f.place - 1) n in
            record { some = q.0; is = q.1; here = b.1; spells = subst (λ c. SpellsSubtree old c (height - 1) b.1) (sym q.1) b.3 };
      }

  -- a page above the leaves forks
  pub forks : (e : Stop) → IsRead old new page height size bytes → ((inner : Inner) → inner_of size bytes ≡ Some inner → ⊥) → (rs : List Record)
      → SpellsSubtree old page height rs → IsNotDamage e
  forks e r none rs s = let h = page_here r s in absurd (none h.inner h.is)

led_up : (k : Key) (before here behind rs : List Record) (bytes : List ℕ) → IsAmong k before here behind rs → IsLeafFor k here bytes
    → IsLeafFor k rs bytes
led_up k before here behind rs bytes a l = record {
  here = l.here;
  is_leaf = l.is_leaf;
  before = before ++ l.before;
  behind = l.behind ++ behind;
  records = a.records ∙ ap (λ m. before ++ (m ++ behind)) l.records
      ∙ ap (λ m. before ++ m) (append_assoc l.before (l.here ++ l.behind) behind ∙ ap (λ m. l.before ++ m) (append_assoc l.here l.behind behind))
      ∙ sym (append_assoc before l.before (l.here ++ (l.behind ++ behind)));
  lower = all_append (λ (r : Record). is_lt (key_cmp r.key k)) before l.before a.lower l.lower;
  higher = all_append (λ (r : Record). is_lt (key_cmp k r.key)) l.behind behind l.higher a.higher;
}

-- what a lent page shows
pub are_of : (told : Option (List (List ℕ))) (page : ℕ) (bytes : List ℕ) → IfSome told (λ pages. bytes ≡ slice_index_or pages page [])
    → AreOf told page bytes
are_of told page bytes shown = λ pages is. subst (λ o. IfSome o (λ ps. bytes ≡ slice_index_or ps page [])) is shown

module _ (old new : Option (List (List ℕ))) (page height size : ℕ) (bytes : List ℕ) (k : Key) (child : ℕ) (prior : Option ℕ) where
  -- the leaf's page in place of its bytes
  pub led_page : (r : Result ℕ Stop) → IsRead old new page height size bytes
      → ((inner : Inner) → inner_of size bytes ≡ Some inner → IsFork k inner child prior)
      → IfOk r (λ leaf. (rs : List Record) → SpellsSubtree new child (height - 1) rs → (last : List ℕ) → AreOf new leaf last → IsLeafFor k rs last)
      → IfOk r (λ leaf. (rs : List Record) → SpellsSubtree old page height rs → (last : List ℕ) → AreOf old leaf last → IsLeafFor k rs last)
  led_page (Err e) r fork f = f
  led_page (Ok leaf) r fork f = λ rs s last are.
      let a = forked old new page height size bytes k child prior rs r fork s in
      led_up k a.before a.here a.behind rs last a.among (f a.here a.spells last (λ pages is. are pages (sym r.told ∙ is)))

  pub sound_on : {T : Type 0} (r : Result T Stop) → IsRead old new page height size bytes
      → ((inner : Inner) → inner_of size bytes ≡ Some inner → IsFork k inner child prior)
      → IfErr r (λ e. (rs : List Record) → SpellsSubtree new child (height - 1) rs → IsNotDamage e)
      → IfErr r (λ e. (rs : List Record) → SpellsSubtree old page height rs → IsNotDamage e)
  sound_on (Ok v) r fork f = f
  sound_on (Err e) r fork f = λ rs s.
      let a = forked old new page height size bytes k child prior rs r fork s in
      f a.here a.spells

pub value_led : (k : Key) (rs : List Record) (bytes : List ℕ) (v : Option (List ℕ)) → IsLeafFor k rs bytes
    → ((here : List Record) → leaf_of bytes ≡ Some here → v ≡ value_at_key k here) → v ≡ value_at_key k rs
value_led k rs bytes v l f =
    f l.here l.is_leaf ∙ sym (value_between k l.before l.here l.behind rs (record { records = l.records; lower = l.lower; higher = l.higher }))

-- the last child
pub record Ended (old new : Option (List (List ℕ))) (page height child : ℕ) : Type 0 where
  pub inner : Inner
  pub at : AtLast old new page height child (length inner.children) inner
  pub here : List Record
  pub spells : SpellsSubtree new child (height - 1) here

module _ (page height : ℕ) (bytes : List ℕ) where
  pub leaf_led : (told : Option (List (List ℕ))) (k : Key) → height ≡ 1 → AreOf told page bytes → (rs : List Record) → SpellsSubtree told page height rs
      → IsLeafFor k rs bytes
  leaf_led told k one are rs s = record {
    here = rs;
    is_leaf = leaf_here told page height bytes rs one are s;
    before = [];
    behind = [];
    records = sym (append-nil rs);
    lower = refl;
    higher = refl;
  }

  pub ended : (old new : Option (List (List ℕ))) (size child : ℕ) (rs : List Record) → IsRead old new page height size bytes
      → ((inner : Inner) → inner_of size bytes ≡ Some inner → Some child ≡ Some (slice_index inner.children (length inner.children - 1)))
      → SpellsSubtree old page height rs → Ended old new page height child
  ended old new size child rs r f s =
      let h = page_here r s in
      let is = same_Some child (slice_index h.inner.children (length h.inner.children - 1)) (f h.inner h.is) in
      let e = ends_below page height child (length h.inner.children) h.inner r.some r.above refl is old h.reads rs s in
      record {
        inner = h.inner;
        at = record { told = r.told; some = r.some; above = r.above; reads = h.reads; many = refl; is_child = is };
        here = e.here;
        spells = along_told old new child (height - 1) e.here r.told e.spells;
      }

abbrev pub IsLast : ℕ → List ℕ → ℕ → Type 0
IsLast size bytes child = (inner : Inner) → inner_of size bytes ≡ Some inner → Some child ≡ Some (slice_index inner.children (length inner.children - 1))

module _ (old new : Option (List (List ℕ))) (page height size : ℕ) (bytes : List ℕ) (child : ℕ) where
  pub last_on : (r : Result Record Stop) → IsRead old new page height size bytes → IsLast size bytes child
      → IfOk r (λ x. (rs : List Record) → SpellsSubtree new child (height - 1) rs → last_or None rs ≡ Some x)
      → IfOk r (λ x. (rs : List Record) → SpellsSubtree old page height rs → last_or None rs ≡ Some x)
  last_on (Err e) r is f = f
  last_on (Ok x) r is f = λ rs s.
      let a = ended page height bytes old new size child rs r is s in
      last_up page height child (length a.inner.children) a.inner r.some r.above refl a.at.is_child (Ok x) old new r.told a.at.reads f rs s

  pub sound_last : {T : Type 0} (r : Result T Stop) → IsRead old new page height size bytes → IsLast size bytes child
      → IfErr r (λ e. (rs : List Record) → SpellsSubtree new child (height - 1) rs → IsNotDamage e)
      → IfErr r (λ e. (rs : List Record) → SpellsSubtree old page height rs → IsNotDamage e)
  sound_last (Ok v) r is f = f
  sound_last (Err e) r is f = λ rs s.
      let a = ended page height bytes old new size child rs r is s in
      f a.here a.spells

pub touched_last : (r : Result Record Stop) {old new : Option (List (List ℕ))} {page height size : ℕ} {bytes : List ℕ} {child : ℕ}
    (h0 h1 h2 : Option (List ℕ)) → IsRead old new page height size bytes → IsLast size bytes child → Goes (Touches page) h0 h1
    → OnOk r ((rs : List Record) → SpellsSubtree new child (height - 1) rs → TouchesInTurn (λ pages. last_pages pages (height - 1) child) new h1 h2)
    → OnOk r ((rs : List Record) → SpellsSubtree old page height rs → TouchesInTurn (λ pages. last_pages pages height page) old h0 h2)
touched_last (Err e) h0 h1 h2 r is t f = f
touched_last (Ok x) {old = old} {new = new} {page = page} {height = height} {size = size} {bytes = bytes} {child = child} h0 h1 h2 r is t f = λ rs s.
    let a = ended page height bytes old new size child rs r is s in
    last_touched (Ok x) h0 h1 h2 a.at t (f a.here a.spells)

-- a child of a well formed page is a page
pub child_page : (size : ℕ) (cs : List ℕ) (i : ℕ) → are_pages size cs ≡ true → i < length cs → (1 ≤ slice_index cs i) × (slice_index cs i < size)
child_page size [] i h lt = absurd (omega arith)
child_page size (c ∷ cs) zero h lt =
    let p = and_parts (nat_le 1 c && nat_lt c size) (are_pages size cs) h in
    let q = and_parts (nat_le 1 c) (nat_lt c size) p.0 in
    (leb-true 1 c q.0, ltb-true c size q.1)
child_page size (c ∷ cs) (suc i) h lt =
    let p = and_parts (nat_le 1 c && nat_lt c size) (are_pages size cs) h in
    child_page size cs i p.1 (nearer i (length cs) lt)
  where
    nearer : (i n : ℕ) → suc i < suc n → i < n
    nearer i n h = omega arith

pub record IsInside (size : ℕ) (inner : Inner) (i child : ℕ) : Type 0 where
  pub lt : i < length inner.children
  pub is : child ≡ slice_index inner.children i
  pub least : 1 ≤ child
  pub most : child < size

-- a place among the children
pub inside : (size : ℕ) (bytes : List ℕ) (inner : Inner) (i child : ℕ) → inner_of size bytes ≡ Some inner → i < length inner.children
    → (i < length inner.children → child ≡ slice_index inner.children i) → IsInside size inner i child
inside size bytes inner i child is lt f =
    let e = f lt in
    let p = child_page size inner.children i (inner_list size bytes inner is).in_range lt in
    record { lt = lt; is = e; least = subst (λ c. 1 ≤ c) (sym e) p.0; most = subst (λ c. c < size) (sym e) p.1 }

pub place_inside : (size : ℕ) (bytes : List ℕ) (inner : Inner) (k : Key) (i : ℕ) → inner_of size bytes ≡ Some inner → IsPlace inner.keys k i
    → i < length inner.children
place_inside size bytes inner k i is p = place_in inner k i p (inner_list size bytes inner is).keys

pub before_inside : (size : ℕ) (bytes : List ℕ) (inner : Inner) (k : Key) (i : ℕ) → inner_of size bytes ≡ Some inner → IsPlace inner.keys k i
    → i - 1 < length inner.children
before_inside size bytes inner k i is p = let lt = place_inside size bytes inner k i is p in omega arith

pub no_page : (size child : ℕ) → (child < 1) ⊎ ((1 ≤ child) × (size ≤ child)) → 1 ≤ child → child < size → ⊥
no_page size child h a b = omega (arith, h)

module _ (k : Key) (inner : Inner) (i child : ℕ) where
  pub first_fork : IsPlace inner.keys k i → i ≡ child_place k inner → child ≡ slice_index inner.children i → i ≡ 0 → IsFork k inner child None
  first_fork p n e z = record {
    place = i;
    is_place = p;
    number = n;
    child_is = e;
    first = λ h. z;
    later = λ q h. absurd (differ q h);
  }
    where
      differ : (q : ℕ) → None ≡ Some q → ⊥
      differ q h = cc

  pub later_fork : (prior : ℕ) → IsPlace inner.keys k i → i ≡ child_place k inner → child ≡ slice_index inner.children i → i ≢ 0
      → prior ≡ slice_index inner.children (i - 1) → IsFork k inner child (Some prior)
  later_fork prior p n e ne is = record {
    place = i;
    is_place = p;
    number = n;
    child_is = e;
    first = λ h. absurd (differ prior h);
    later = λ q h. (ne, sym (same_Some prior q h) ∙ is);
  }
    where
      differ : (q : ℕ) → Some q ≡ None → ⊥
      differ q h = cc

pub gap_before : (k : Key) (rs : List Record) (i : ℕ) → IsGap k rs i → i ≢ 0 → i - 1 < length rs
gap_before k rs i g ne = omega (arith, g.in_range)

module _ (old new : Option (List (List ℕ))) (page height size : ℕ) where
  pub again_last : {bytes : List ℕ} {child : ℕ} {h0 h1 : Option (List ℕ)} {a b : Option ℕ} (c : Option ℕ) → IsRead old new page height size bytes
      → IsLast size bytes child → IsTouched page h0 h1 a b
      → ((rs : List Record) → SpellsSubtree new child (height - 1) rs → ReadsNone (λ pages. last_pages pages (height - 1) child) new h1 b c)
      → (rs : List Record) → SpellsSubtree old page height rs → ReadsNone (λ pages. last_pages pages height page) old h0 a c
  again_last {bytes} {child} c r is t g = λ rs s.
      let at = ended page height bytes old new size child rs r is s in
      last_again old new page height child (length at.inner.children) at.inner c at.at t (g at.here at.spells)

  pub read_ok : (n : ℕ) (bytes : List ℕ) → 1 ≤ height → height ≢ 1 → new ≡ old → IfSome old (λ pages. length pages ≡ n) → size ≡ n
      → AreOf old page bytes → IsRead old new page height size bytes
  read_ok n bytes some above told many e are = record {
    some = some;
    above = above;
    told = told;
    many = subst (λ m. IfSome old (λ pages. length pages ≡ m)) (sym e) many;
    are = are;
  }

-- a leaf has a last record
pub leaf_has_last : (bytes : List ℕ) → ((rs : List Record) → leaf_of bytes ≡ Some rs → None ≡ last_or None rs) → (rs : List Record)
    → leaf_of bytes ≡ Some rs → ⊥
leaf_has_last bytes f rs is = some_last rs (leaf_list bytes rs is).least (f rs is)
  where
    none : (x : Record) → None ≡ Some x → ⊥
    none x h = cc

    has_last : (x : Record) (xs : List Record) → None ≡ last_or (Some x) xs → ⊥
    has_last x [] h = none x h
    has_last x (y ∷ ys) h = has_last y ys h

    some_last : (rs : List Record) → 1 ≤ length rs → None ≡ last_or None rs → ⊥
    some_last [] lt h = omega arith
    some_last (x ∷ xs) lt h = has_last x xs h

-- what holds where a subtree is sound holds where the tree is
pub whole_on : {T : Type 0} (r : Result T Stop) (told : Option (List (List ℕ))) (t : Tree) (P : Type 0) → t.height ≢ 0
    → OnOk r ((rs : List Record) → SpellsSubtree told t.root t.height rs → P) → OnOk r ((rs : List Record) → IsTree told t rs → P)
whole_on (Err e) told t P ne f = f
whole_on (Ok v) told t P ne f = λ rs is. f rs (tree_spells told t rs ne is).0

pub first_whole : {T : Type 0} (r : Result T Stop) (told : Option (List (List ℕ))) (t : Tree) (k : Key) (old new : Option (List ℕ)) → t.height ≤ 3
    → OnOk r ((rs : List Record) → IsTree told t rs → TouchesInTurn (λ pages. floor_pages pages k t.height t.root) told old new)
    → OnOk r ((rs : List Record) → IsTree told t rs → HoldsFirst (λ pages. floor_pages pages k t.height t.root) told old new)
first_whole (Err e) told t k old new le f = f
first_whole (Ok v) told t k old new le f = λ rs is. root_first told k t.height t.root old new le (f rs is)
