-- The records of a map: which they are, that they rise by their keys, and how many they are.
use Rattle.std.proofs.Common.{◌≡◌, ℕ, ◌≤◌, ◌↔◌, List, [], ◌∷◌, length, Some, refl, sym, ◌∙◌, ap, subst, arith, Contains, flat_map, sum_by, eqb, ne_eqb, nat_cmp}
use Rattle.std.proofs.Common.{Ordering, Less, Equal, Greater}
use Rattle.std.specs.Prelude.{unwrap_or}
use Rattle.std.specs.Ordering.{ordering_then}
use Rattle.std.specs.Cmp.{IsTotalOrder, on_total, then_total, tied_itself}
use Rattle.std.specs.Cmp.Lexicographic.{slice_cmp, nat_list_cmp_total}
use Rattle.std.specs.FinMap as finmap
use Rattle.std.specs.FinMap.{nat_cmp-IsAntisymmetric, slice_cmp-IsAntisymmetric, IsAntisymmetric}
use Rattle.std.proofs.lemmas.Bool.{cond-false}
use Rattle.std.proofs.lemmas.List.{length-map}
use Rattle.std.proofs.lemmas.List.Concat.{length-flat_map}
use Rattle.std.proofs.lemmas.List.Elements.{All-contains}
use Rattle.quilt_types.specs.Layers.{Layer, Map, IsMap, IsLayer}
use Rattle.quilt_types.specs.Facts.{Fact, IsOfKind, HasColour, HoldsPoint, HoldsNoPoint, IsSegment, IsMetBy, IsMetByNone, facts, records}
use Rattle.quilt_record.specs.declared.record.Record.{Record}
use Rattle.quilt_record.specs.Records.{Numbering, capacity_of, key_cmp, record_cmp, record_of, records_of}
use Rattle.quilt_loc.specs.Codes.{Rises}
use Rattle.quilt_spell.specs.Apart.{Apart}
use Rattle.quilt_spell.specs.Written.{number_of, number_in, by_key, layer_records, IsWritten, IsNumbering}
use Rattle.quilt_loc.proofs.Members.{Contains-here, Contains-there, Contains-map, Contains-map_from, Contains-flat_map, Contains-flat_map_from}
use Rattle.quilt_record.proofs.Orders.{key_total, then_equal}
use Rattle.quilt_loc.proofs.Rising.{same_rising}
use Rattle.quilt_spell.proofs.Lists.{Apart-map, Apart-flat_map, Apart-rises, same_length}
use Rattle.quilt_spell.proofs.Maps.{by_first, Rises-entries, entry_from_get, get_from_entry, member_from_list, from_list_member, items_rise}
use Rattle.quilt_spell.proofs.facts.FactKeys.{fact_alone, facts_apart}

-- ---- orders
pub name_same : IsAntisymmetric (slice_cmp nat_cmp)
name_same = slice_cmp-IsAntisymmetric nat_cmp-IsAntisymmetric

pub key_same : IsAntisymmetric key_cmp
key_same a b e =
    let d4 = ordering_then (nat_cmp a.depth b.depth) (nat_cmp a.item b.item) in
    let d3 = ordering_then (nat_cmp a.code b.code) d4 in
    let d2 = ordering_then (nat_cmp a.part b.part) d3 in
    let t1 = then_equal (nat_cmp a.layer b.layer) d2 e in
    let t2 = then_equal (nat_cmp a.part b.part) d3 t1.1 in
    let t3 = then_equal (nat_cmp a.code b.code) d4 t2.1 in
    let t4 = then_equal (nat_cmp a.depth b.depth) (nat_cmp a.item b.item) t3.1 in
    let layer = nat_cmp-IsAntisymmetric a.layer b.layer t1.0 in
    let part = nat_cmp-IsAntisymmetric a.part b.part t2.0 in
    let code = nat_cmp-IsAntisymmetric a.code b.code t3.0 in
    let depth = nat_cmp-IsAntisymmetric a.depth b.depth t4.0 in
    let item = nat_cmp-IsAntisymmetric a.item b.item t4.1 in
    λ i. record { layer = layer i; part = part i; code = code i; depth = depth i; item = item i }

pub record_total : IsTotalOrder record_cmp
record_total = then_total (on_total (λ (r : Record). r.key) key_total) (on_total (λ (r : Record). r.value) nat_list_cmp_total)

pub record_same : IsAntisymmetric record_cmp
record_same a b e =
    let t = then_equal (key_cmp a.key b.key) (slice_cmp nat_cmp a.value b.value) e in
    let key = key_same a.key b.key t.0 in
    let value = name_same a.value b.value t.1 in
    λ i. record { key = key i; value = value i }

pub by_key_total : IsTotalOrder by_key
by_key_total = on_total (λ (r : Record). r.key) key_total

-- records of which no two have one key rise by their keys
key_first : (r s : Record) → (r.key ≡ s.key → r ≡ s) → record_cmp r s ≡ Less → by_key r s ≡ Less
key_first r s one h = step (key_cmp r.key s.key) refl h
  where
    step : (o : Ordering) → key_cmp r.key s.key ≡ o → ordering_then o (slice_cmp nat_cmp r.value s.value) ≡ Less → o ≡ Less
    step Less e l = refl
    step Equal e l = let same = one (key_same r.key s.key e) in let tie = tied_itself record_total r in let no : Equal ≡ Less =
        sym tie ∙ ap (record_cmp r) same ∙ h in cc
    step Greater e l = cc

pub keys_rise : (rs : List Record) → ((r s : Record) → Contains rs r → Contains rs s → r.key ≡ s.key → r ≡ s) → Rises record_cmp rs → Rises by_key rs
keys_rise [] one h = tt
keys_rise (r ∷ rs) one h = (
  λ s c. key_first r s (one r s (Contains-here r rs) (Contains-there r rs s c)) (h.0 s c),
  keys_rise rs (λ s t c d. one s t (Contains-there r rs s c) (Contains-there r rs t d)) h.1,
)

-- ---- which records a map has
module _ (n : ℕ) (numbers : Numbering) (layers : Map) where
  all_of : List ℕ × Layer → List Record
  all_of e = layer_records n e.0 (number_of numbers e.0) e.1

  -- the list before it is put in order
  all : List Record
  all = flat_map all_of (finmap.entries layers)

  all_is : (r : Record) → Contains (records_of n numbers layers) r ↔ Contains all r
  unfolding records_of layer_records all all_of
  all_is r = (member_from_list record_cmp record_total record_same all r, from_list_member record_cmp record_total record_same all r)

  pub records_rise : Rises record_cmp (records_of n numbers layers)
  unfolding records_of
  records_rise = items_rise record_cmp record_total record_same _

  pub written_from : (r : Record) → Contains (records_of n numbers layers) r → IsWritten n numbers layers r
  unfolding all all_of
  written_from r c =
      let m = Contains-flat_map_from all_of (finmap.entries layers) r ((all_is r).0 c) in
      record { name = m.0.0; layer = m.0.1; at = get_from_entry (slice_cmp nat_cmp) nat_list_cmp_total name_same layers m.0 m.1; written = m.2 }

  pub written_is : (r : Record) → IsWritten n numbers layers r → Contains (records_of n numbers layers) r
  unfolding all all_of
  written_is r w =
      (all_is r).1 (Contains-flat_map all_of (finmap.entries layers) (w.name, w.layer) r
      (entry_from_get (slice_cmp nat_cmp) nat_list_cmp_total name_same layers w.name w.layer w.at) w.written)

-- ---- the keys of records of a layer
pub number_in_key : (n c k : ℕ) (name : List ℕ) (f : Fact) → 1 ≤ k → number_in (record_of n c name k f).key ≡ k
number_in_key n c k name (IsOfKind kind number) le = refl
number_in_key n c k name (HasColour b colour) le = cond-false (eqb k 0) 0 k (ne_eqb k 0 (λ e. absurd (omega arith)))
number_in_key n c k name (HoldsPoint b p label) le = cond-false (eqb k 0) _ k (ne_eqb k 0 (λ e. absurd (omega arith)))
number_in_key n c k name (HoldsNoPoint b) le = cond-false (eqb k 0) 0 k (ne_eqb k 0 (λ e. absurd (omega arith)))
number_in_key n c k name (IsSegment id s) le = cond-false (eqb k 0) id k (ne_eqb k 0 (λ e. absurd (omega arith)))
number_in_key n c k name (IsMetBy b id) le = cond-false (eqb k 0) id k (ne_eqb k 0 (λ e. absurd (omega arith)))
number_in_key n c k name (IsMetByNone b) le = cond-false (eqb k 0) 0 k (ne_eqb k 0 (λ e. absurd (omega arith)))

pub layer_record_from : (n : ℕ) (name : List ℕ) (k : ℕ) (l : Layer) (r : Record) → Contains (layer_records n name k l) r
    → (f : Fact) × Contains (facts n l) f × (record_of n (capacity_of l) name k f ≡ r)
unfolding layer_records
layer_record_from n name k l r c = Contains-map_from (record_of n (capacity_of l) name k) (facts n l) r c

pub layer_record : (n : ℕ) (name : List ℕ) (k : ℕ) (l : Layer) (f : Fact) → Contains (facts n l) f
    → Contains (layer_records n name k l) (record_of n (capacity_of l) name k f)
unfolding layer_records
layer_record n name k l f c = Contains-map (record_of n (capacity_of l) name k) (facts n l) f c

pub number_in_layer : (n : ℕ) (name : List ℕ) (k : ℕ) (l : Layer) (r : Record) → 1 ≤ k → Contains (layer_records n name k l) r → number_in r.key ≡ k
number_in_layer n name k l r le c =
    let m = layer_record_from n name k l r c in
    ap (λ (s : Record). number_in s.key) (sym m.2) ∙ number_in_key n (capacity_of l) k name m.0 le

pub layer_apart : (form n : ℕ) (name : List ℕ) (k : ℕ) (l : Layer) → n ≤ 12 → 1 ≤ k → IsLayer form n l → Apart (layer_records n name k l)
unfolding layer_records
layer_apart form n name k l le least h =
    Apart-map (record_of n (capacity_of l) name k) (facts n l)
    (λ f g c d e. fact_alone n le name k least form l h f g c d (ap (λ (r : Record). r.key) e)) (facts_apart n l)

pub layer_length : (n : ℕ) (name : List ℕ) (k : ℕ) (l : Layer) → length (layer_records n name k l) ≡ length (facts n l)
unfolding layer_records
layer_length n name k l = length-map (facts n l) (record_of n (capacity_of l) name k)

-- ---- numbers
pub number_at : (numbers : Numbering) (name : List ℕ) (k : ℕ) → finmap.get numbers name ≡ Some k → number_of numbers name ≡ k
number_at numbers name k e = ap (λ o. unwrap_or o 0) e

module _ (layers : Map) (numbers : Numbering) (num : IsNumbering layers numbers) where
  pub number_is : (name : List ℕ) (l : Layer) → finmap.get layers name ≡ Some l → finmap.get numbers name ≡ Some (number_of numbers name)
  number_is name l at = let h = num.has name l at in h.1 ∙ ap Some (sym (number_at numbers name h.0 h.1))

  pub number_fits : (name : List ℕ) (l : Layer) → finmap.get layers name ≡ Some l → (1 ≤ number_of numbers name) × (number_of numbers name ≤ 255)
  number_fits name l at = num.in_range name (number_of numbers name) (number_is name l at)

  pub name_alone : (a b : List ℕ) (l m : Layer) → finmap.get layers a ≡ Some l → finmap.get layers b ≡ Some m
      → number_of numbers a ≡ number_of numbers b → a ≡ b
  name_alone a b l m at bt e = num.differ a b (number_of numbers b) (number_is a l at ∙ ap Some e) (number_is b m bt)

same_layer : (l m : Layer) → Some l ≡ Some m → l ≡ m
same_layer l m e = cc

-- ---- the records of a valid map
module _ (form n : ℕ) (numbers : Numbering) (layers : Map) (le : n ≤ 12) (h : IsMap form n layers) (num : IsNumbering layers numbers) where
  pub layer_fits : (name : List ℕ) (l : Layer) → finmap.get layers name ≡ Some l → IsLayer form n l
  layer_fits name l at =
      All-contains (λ (e : List ℕ × Layer). IsLayer form n e.1) (finmap.entries layers) (name, l) h.each
      (entry_from_get (slice_cmp nat_cmp) nat_list_cmp_total name_same layers name l at)

  -- two records with one key are one
  pub written_alone : (r s : Record) → IsWritten n numbers layers r → IsWritten n numbers layers s → r.key ≡ s.key → r ≡ s
  written_alone r s w v e =
      let k = number_of numbers w.name in
      let j = number_of numbers v.name in
      let fr = number_fits layers numbers num w.name w.layer w.at in
      let fs = number_fits layers numbers num v.name v.layer v.at in
      let same : k ≡ j =
      sym (number_in_layer n w.name k w.layer r fr.0 w.written) ∙ ap number_in e ∙ number_in_layer n v.name j v.layer s fs.0 v.written in
      let name = name_alone layers numbers num w.name v.name w.layer v.layer w.at v.at same in
      let layer = same_layer w.layer v.layer (sym w.at ∙ ap (finmap.get layers) name ∙ v.at) in
      let m = layer_record_from n w.name k w.layer r w.written in
      let there : Contains (layer_records n w.name k w.layer) s =
      subst (λ (a : List ℕ). Contains (layer_records n a k w.layer) s) (sym name)
      (subst (λ (i : ℕ). Contains (layer_records n v.name i w.layer) s) (sym same)
      (subst (λ (l : Layer). Contains (layer_records n v.name j l) s) (sym layer) v.written)) in
      let o = layer_record_from n w.name k w.layer s there in
      let keys = ap (λ (q : Record). q.key) m.2 ∙ e ∙ sym (ap (λ (q : Record). q.key) o.2) in
      let fact = fact_alone n le w.name k fr.0 form w.layer (layer_fits w.name w.layer w.at) m.0 o.0 m.1 o.1 keys in
      sym m.2 ∙ ap (record_of n (capacity_of w.layer) w.name k) fact ∙ o.2

  -- the records rise strictly by their keys
  pub records_ascend : Rises by_key (records_of n numbers layers)
  records_ascend =
      keys_rise (records_of n numbers layers)
      (λ r s c d e. written_alone r s (written_from n numbers layers r c) (written_from n numbers layers s d) e) (records_rise n numbers layers)

  -- a list that rises by its keys, with exactly these members, is the records of the map
  pub ascending_are : (rs : List Record) → Rises by_key rs → ((r : Record) → Contains rs r ↔ IsWritten n numbers layers r) → rs ≡ records_of n numbers layers
  ascending_are rs up w =
      same_rising by_key by_key_total rs (records_of n numbers layers) up records_ascend
      (λ r. (λ c. written_is n numbers layers r ((w r).0 c), λ c. (w r).1 (written_from n numbers layers r c)))

  all_apart : Apart (all n numbers layers)
  unfolding all all_of
  all_apart =
      Apart-flat_map (all_of n numbers layers) (finmap.entries layers)
      (Apart-rises (by_first (slice_cmp nat_cmp)) (on_total (λ (e : List ℕ × Layer). e.0) nat_list_cmp_total) (finmap.entries layers)
      (Rises-entries (slice_cmp nat_cmp) layers))
      (λ e c.
      let at = get_from_entry (slice_cmp nat_cmp) nat_list_cmp_total name_same layers e c in
      layer_apart form n e.0 (number_of numbers e.0) e.1 le (number_fits layers numbers num e.0 e.1 at).0 (layer_fits e.0 e.1 at))
      (λ d e r c k x y.
      let dt = get_from_entry (slice_cmp nat_cmp) nat_list_cmp_total name_same layers d c in
      let et = get_from_entry (slice_cmp nat_cmp) nat_list_cmp_total name_same layers e k in
      let same =
      sym (number_in_layer n d.0 (number_of numbers d.0) d.1 r (number_fits layers numbers num d.0 d.1 dt).0 x)
      ∙ number_in_layer n e.0 (number_of numbers e.0) e.1 r (number_fits layers numbers num e.0 e.1 et).0 y in
      let name = name_alone layers numbers num d.0 e.0 d.1 e.1 dt et same in
      let layer = same_layer d.1 e.1 (sym dt ∙ ap (finmap.get layers) name ∙ et) in
      λ i. (name i, layer i))

  all_length : (es : List (List ℕ × Layer)) → length (flat_map (all_of n numbers layers) es) ≡ sum_by (λ e. length (facts n e.1)) es
  unfolding all_of
  all_length es =
      length-flat_map (all_of n numbers layers) es ∙ (λ i. sum_by (λ (e : List ℕ × Layer). layer_length n e.0 (number_of numbers e.0) e.1 i) es)

  -- how many there are
  pub records_count : length (records_of n numbers layers) ≡ records n layers
  unfolding all
  records_count =
      same_length (records_of n numbers layers) (all n numbers layers)
      (Apart-rises record_cmp record_total (records_of n numbers layers) (records_rise n numbers layers)) all_apart (all_is n numbers layers)
      ∙ all_length (finmap.entries layers)
