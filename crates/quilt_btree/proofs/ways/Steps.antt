-- The way down to a leaf in the bytes of pages, with the bound below which the leaf's keys stay.
use Rattle.std.proofs.Common.{◌≡◌, ℕ, zero, suc, ◌+◌, ◌-◌, ◌<◌, ◌≤◌, true, false, List, [], ◌∷◌, drop, length, Option, Some, Result, Ok, Err}
use Rattle.std.proofs.lemmas.Bool.{and_parts}
use Rattle.std.proofs.Common.{IfOk, IfErr, slice_index, sym, ◌∙◌, ap, subst, arith}
use Rattle.std.specs.Prelude.{slice_get}
use Rattle.std.specs.List.{list_all}
use Rattle.std.specs.Option.{option_or}
use Rattle.std.specs.Ordering.{is_lt}
use Rattle.std.proofs.lemmas.Option.{same_Some}
use Rattle.quilt_types.specs.declared.stop.Stop.{Stop}
use Rattle.quilt_record.specs.declared.key.Key.{Key}
use Rattle.quilt_record.specs.declared.record.Record.{Record}
use Rattle.quilt_record.specs.Records.{key_cmp}
use Rattle.quilt_node.specs.Pages.{Inner, leaf_of, inner_of}
use Rattle.quilt_node.specs.Nodes.{IsPlace, page_records}
use Rattle.quilt_node.specs.Tree.{is_below}
use Rattle.quilt_node.proofs.Places.{leaf_records}
use Rattle.quilt_btree.specs.declared.step.Found.{Found}
use Rattle.quilt_btree.specs.Searches.{AreOf, IsStepDown}
use Rattle.quilt_store.specs.Stops.{IsNotDamage}
use Rattle.quilt_btree.specs.Arrivals.{Arrives}
use Rattle.quilt_btree.specs.Trees.{SpellsSubtree, LeadsToLeaf, IsCut}
use Rattle.quilt_btree.proofs.subtrees.Descending.{AtFloor, leads_below, along_told, leads_up, leaf_leads}
use Rattle.quilt_btree.proofs.subtrees.Dividing.{cut_up, leaf_cut}
use Rattle.quilt_btree.proofs.ways.Forks.{IsRead, page_here, leaf_here}
use Rattle.quilt_btree.proofs.subtrees.Trees.{inner_list, leaf_list}
use Rattle.quilt_btree.proofs.lists.Ascents.{no_more}
use Rattle.quilt_btree.proofs.lists.Lists.{true_false}

-- the step down from an inner page
abbrev pub StepsTo : ℕ → List ℕ → Key → Option Key → ℕ → Option Key → Type 0
StepsTo size bytes k start child next = (inner : Inner) → inner_of size bytes ≡ Some inner → IsStepDown k inner start child next

-- the leaf is one of the pages that were told before
pub told_before : (old new : Option (List (List ℕ))) (page : ℕ) (last : List ℕ) → new ≡ old → AreOf old page last → AreOf new page last
told_before old new page last same are = λ pages is. are pages (sym same ∙ is)

-- a step down from an inner page that was read, to the child where a key belongs
module _ {old new : Option (List (List ℕ))} {page height size : ℕ} {bytes : List ℕ} {k : Key} {child : ℕ} {start next : Option Key}
    (is : IsRead old new page height size bytes) (steps : StepsTo size bytes k start child next) where
  step_down : (rs : List Record) → SpellsSubtree old page height rs
      → (inner : Inner) × (i : ℕ) × AtFloor old new page height child i k inner × (next ≡ option_or (slice_get inner.keys i) start)
  step_down rs s =
      let h = page_here is s in
      let st = steps h.inner h.is in (
        h.inner,
        st.place,
        record { told = is.told; some = is.some; above = is.above; reads = h.reads; place = st.is_place; is_child = st.child_is },
        st.next_is,
      )

  -- the child spells a part of the records
  step_spells : (rs : List Record) → SpellsSubtree old page height rs → (here : List Record) × SpellsSubtree new child (height - 1) here
  step_spells rs s =
      let d = step_down rs s in
      let low = leads_below old page height d.0 d.1 k is.some is.above s d.2.reads d.2.place in (
        low.here,
        subst (λ c. SpellsSubtree new c (height - 1) low.here) (sym d.2.is_child)
            (along_told old new (slice_index d.0.children d.1) (height - 1) low.here is.told low.spells),
      )

  step_led : (v : Found) (leaf : List Record)
      → ((rs : List Record) (s : SpellsSubtree new child (height - 1) rs) → s.bounds.high ≡ next → LeadsToLeaf k rs leaf next v.high)
      → (rs : List Record) (s : SpellsSubtree old page height rs) → s.bounds.high ≡ start → LeadsToLeaf k rs leaf start v.high
  step_led v leaf f rs s top = let d = step_down rs s in leads_up (Ok v) leaf start d.2 d.3 f rs s top

  step_cut : (leaf : List Record) (high : Option Key)
      → ((rs : List Record) (s : SpellsSubtree new child (height - 1) rs) → s.bounds.high ≡ next → LeadsToLeaf k rs leaf next high)
      → IsCut new child (height - 1) k next leaf high → IsCut old page height k start leaf high
  step_cut leaf high f g =
      let up : (rs : List Record) → SpellsSubtree old page height rs → IsCut old page height k start leaf high = λ rs s.
      let d = step_down rs s in cut_up start d.2 d.3 f g in
      record {
        starts = λ pages rs t s top e. (up rs s).starts pages rs t s top e;
        ends = λ pages rs s t top b. (up rs s).ends pages rs s t top b;
      }

  -- where the key leads below the child, it leads from the page
  pub step_arrives : (r : Result Found Stop)
      → IfOk r (λ f. (last : List ℕ) → AreOf new f.page last → Arrives new child (height - 1) k next last f.high)
      → IfOk r (λ f. (last : List ℕ) → AreOf old f.page last → Arrives old page height k start last f.high)
  step_arrives (Err e) f = f
  step_arrives (Ok v) f = λ last are.
      let low = f last (told_before old new v.page last is.told are) in
      record {
        leaf = λ rs s. let here = step_spells rs s in low.leaf here.0 here.1;
        least = λ rs s. let here = step_spells rs s in low.least here.0 here.1;
        leads = step_led v (page_records last) low.leads;
        cut = step_cut (page_records last) v.high low.leads low.cut;
      }

  pub step_sound : {T : Type 0} (r : Result T Stop) → IfErr r (λ e. (rs : List Record) → SpellsSubtree new child (height - 1) rs → IsNotDamage e)
      → IfErr r (λ e. (rs : List Record) → SpellsSubtree old page height rs → IsNotDamage e)
  step_sound (Ok v) f = f
  step_sound (Err e) f = λ rs s. let here = step_spells rs s in f here.0 here.1

pub step_above : (r : Result Found Stop) (k : Key) (start next : Option Key) → (is_below start k ≡ true → is_below next k ≡ true)
    → IfOk r (λ f. is_below next k ≡ true → is_below f.high k ≡ true) → IfOk r (λ f. is_below start k ≡ true → is_below f.high k ≡ true)
step_above (Err e) k start next g f = f
step_above (Ok v) k start next g f = λ h. f (g h)

module _ (told : Option (List (List ℕ))) (page height : ℕ) (bytes : List ℕ) where
  -- the leaf itself
  here_led : (k : Key) (high : Option Key) → height ≡ 1 → AreOf told page bytes → (rs : List Record) (s : SpellsSubtree told page height rs)
      → s.bounds.high ≡ high → LeadsToLeaf k rs (page_records bytes) high high
  here_led k high one are rs s top =
      let is = leaf_here told page height bytes rs one are s in
      subst (λ l. LeadsToLeaf k rs l high high) (sym (leaf_records bytes rs is))
      (leaf_leads told page height k rs high one (λ pages t. ap leaf_of (sym (are pages t)) ∙ is) rs s top)

  here_leaf : height ≡ 1 → AreOf told page bytes → (rs : List Record) → SpellsSubtree told page height rs → leaf_of bytes ≡ Some (page_records bytes)
  here_leaf one are rs s =
      let is = leaf_here told page height bytes rs one are s in
      is ∙ ap Some (sym (leaf_records bytes rs is))

here_least : (told : Option (List (List ℕ))) (page height : ℕ) (bytes : List ℕ) → height ≡ 1 → AreOf told page bytes → (rs : List Record)
    → SpellsSubtree told page height rs → 1 ≤ length (page_records bytes)
here_least told page height bytes one are rs s =
    let is = leaf_here told page height bytes rs one are s in
    subst (λ (l : List Record). 1 ≤ length l) (sym (leaf_records bytes rs is)) (leaf_list bytes rs is).least

pub here_arrives : (told : Option (List (List ℕ))) (page height : ℕ) (bytes : List ℕ) (k : Key) (high : Option Key) → height ≡ 1
    → AreOf told page bytes → Arrives told page height k high bytes high
here_arrives told page height bytes k high one are = record {
  leaf = here_leaf told page height bytes one are;
  least = here_least told page height bytes one are;
  leads = here_led told page height bytes k high one are;
  cut = leaf_cut told page height k (page_records bytes) high one;
}

-- the step in the bytes of a well formed page
pub keys_many : (pages : ℕ) (bytes : List ℕ) (inner : Inner) (i n : ℕ) → inner_of pages bytes ≡ Some inner → n ≡ length inner.children
    → i + 1 < n → i < length inner.keys
keys_many pages bytes inner i n is many more = let e = (inner_list pages bytes inner is).keys in omega arith

module _ (inner : Inner) (i : ℕ) (high : Option Key) where
  -- no key stands behind the last child
  pub last_high : (pages : ℕ) (bytes : List ℕ) (n : ℕ) → inner_of pages bytes ≡ Some inner → n ≡ length inner.children → n ≤ i + 1
      → high ≡ option_or (slice_get inner.keys i) high
  last_high pages bytes n is many le =
      let l = inner_list pages bytes inner is in
      let few : length inner.keys ≤ i = let e = l.keys in omega arith in
      sym (ap (λ o. option_or o high) (no_more inner.keys i few))

module _ (inner : Inner) (k : Key) (i child : ℕ) (high : Option Key) where
  pub last_step : (pages : ℕ) (bytes : List ℕ) (n : ℕ) → inner_of pages bytes ≡ Some inner → IsPlace inner.keys k i → n ≡ length inner.children
      → n ≤ i + 1 → child ≡ slice_index inner.children i → IsStepDown k inner high child high
  last_step pages bytes n is p many le c = record { place = i; is_place = p; child_is = c; next_is = last_high inner i high pages bytes n is many le }

  pub next_step : (next : Key) → IsPlace inner.keys k i → child ≡ slice_index inner.children i → slice_get inner.keys i ≡ Some next
      → IsStepDown k inner high child (Some next)
  next_step next p c is = record { place = i; is_place = p; child_is = c; next_is = sym (ap (λ o. option_or o high) is) }

first_over : (k next : Key) (ks : List Key) (i : ℕ) → list_all (λ l. is_lt (key_cmp k l)) (drop i ks) ≡ true → slice_get ks i ≡ Some next
    → is_lt (key_cmp k next) ≡ true
first_over k next [] i h is = cc
first_over k next (l ∷ ks) zero h is =
    subst (λ m. is_lt (key_cmp k m) ≡ true) (same_Some l next is) (and_parts (is_lt (key_cmp k l)) (list_all (λ l. is_lt (key_cmp k l)) ks) h).0
first_over k next (l ∷ ks) (suc i) h is = first_over k next ks i h is

pub next_is_above : (inner : Inner) (k next : Key) (i : ℕ) → IsPlace inner.keys k i → slice_get inner.keys i ≡ Some next
    → is_lt (key_cmp k next) ≡ false → ⊥
next_is_above inner k next i p is not = let h = first_over k next inner.keys i p.behind is in true_false (is_lt (key_cmp k next)) h not
