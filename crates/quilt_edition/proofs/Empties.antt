-- No records spell the map with no layer, and that map alone.
use Rattle.std.proofs.Common.{◌≡◌, ℕ, List, [], ◌∷◌, ◌++◌, map, flat_map, length, unwrap_or, refl, sym, ◌∙◌, ap, subst, arith, Bool, true, false, cond, Some}
use Rattle.std.proofs.Common.{Option, is_some, nat_cmp, nat_eq, Ordering}
use Rattle.std.specs.List.{list_any, IsDistinct}
use Rattle.std.specs.Ordering.{eq_by_cmp, is_eq}
use Rattle.std.specs.Cmp.{IsTotalOrder, nat_cmp_total, on_total, then_total}
use Rattle.std.specs.Cmp.Lexicographic.{slice_cmp, nat_list_cmp_total}
use Rattle.std.proofs.lemmas.Cmp.{tied_itself}
use Rattle.std.proofs.lemmas.Bool.{false≢true}
use Rattle.std.specs.FinMap as finmap
use Rattle.std.specs.FinMap.{get-insert, contains_key-keys, empty_of_len, len-entries, len-empty}
use Rattle.quilt_types.specs.Sets as finset
use Rattle.quilt_types.specs.Layers.{Layer, Map, IsMap, Region, Points, Lines}
use Rattle.quilt_types.specs.Facts.{Fact, facts}
use Rattle.quilt_record.specs.declared.key.Key.{Key}
use Rattle.quilt_record.specs.declared.record.Record.{Record}
use Rattle.quilt_record.specs.Records.{key_cmp, record_cmp, capacity_of, record_of, Numbering, records_of, Spells}

key_total : IsTotalOrder key_cmp
key_total =
    then_total (on_total (λ (k : Key). k.layer) nat_cmp_total)
    (then_total (on_total (λ (k : Key). k.part) nat_cmp_total)
    (then_total (on_total (λ (k : Key). k.code) nat_cmp_total)
    (then_total (on_total (λ (k : Key). k.depth) nat_cmp_total) (on_total (λ (k : Key). k.item) nat_cmp_total))))

record_total : IsTotalOrder record_cmp
record_total = then_total (on_total (λ (r : Record). r.key) key_total) (on_total (λ (r : Record). r.value) nat_list_cmp_total)

no_length : {A : Type 0} (es : List A) → length es ≡ 0 → es ≡ []
no_length [] e = refl
no_length (x ∷ es) e = absurd (omega arith)

-- ---- a set of something has an item

item_found : {K : Type 0} {R : K → K → Ordering} → IsTotalOrder R → (k : K) (ks : List K) → finset.contains (finset.from_list {R = R} (k ∷ ks)) k ≡ true
item_found {K} {R} o k ks =
    ap is_some (get-insert o (finset.from_list {R = R} ks) k tt k) ∙ found (eq_by_cmp R k k) _ (ap is_eq (tied_itself o k))
  where
    found : (b : Bool) (other : Option (Unit {0})) → b ≡ true → is_some (cond b (Some (tt {0})) other) ≡ true
    found true other is = refl
    found false other is = absurd (false≢true is)

some_item : {K : Type 0} {R : K → K → Ordering} → IsTotalOrder R → (k : K) (ks : List K) → finset.items (finset.from_list {R = R} (k ∷ ks)) ≡ [] → ⊥
some_item {K} {R} o k ks none =
    false≢true (sym (ap (list_any (eq_by_cmp R k)) none) ∙ sym (contains_key-keys (finset.from_list {R = R} (k ∷ ks)) k) ∙ item_found o k ks)

-- ---- a layer has a fact

first_fact : (n : ℕ) (layer : Layer) → (f : Fact) × ((fs : List Fact) × (facts n layer ≡ f ∷ fs))
first_fact n (Region grid) = (_, (_, refl))
first_fact n (Points capacity points) = (_, (_, refl))
first_fact n (Lines threshold segs cover) = (_, (_, refl))

-- ---- no records

abbrev all_records : ℕ → Numbering → List (List ℕ × Layer) → List Record
all_records n numbers es = flat_map (λ e. map (record_of n (capacity_of e.1) e.0 (unwrap_or (finmap.get numbers e.0) 0)) (facts n e.1)) es

no_entries : (n : ℕ) (numbers : Numbering) (es : List (List ℕ × Layer))
    → finset.items (finset.from_list {R = record_cmp} (all_records n numbers es)) ≡ [] → es ≡ []
no_entries n numbers [] none = refl
no_entries n numbers (e ∷ es) none =
    let first = first_fact n e.1 in
    let write = record_of n (capacity_of e.1) e.0 (unwrap_or (finmap.get numbers e.0) 0) in
    let rest = all_records n numbers es in
    absurd (some_item record_total (write first.0) (map write first.1.0 ++ rest)
    (subst (λ fs. finset.items (finset.from_list {R = record_cmp} (map write fs ++ rest)) ≡ []) first.1.1 none))

pub no_records : (n : ℕ) (numbers : Numbering) (layers : Map) → records_of n numbers layers ≡ [] → layers ≡ finmap.empty
unfolding records_of
no_records n numbers layers none =
    empty_of_len layers (len-entries layers ∙ ap length (no_entries n numbers (finmap.entries layers) none))

-- ---- no layers

entries-empty : {K X : Type 0} (R : K → K → Ordering) → finmap.entries (finmap.empty {X = X} {R = R}) ≡ []
entries-empty {K} {X} R = no_length _ (sym (len-entries _) ∙ len-empty R X)

records_of-empty : (n : ℕ) (numbers : Numbering) → records_of n numbers finmap.empty ≡ []
unfolding records_of
records_of-empty n numbers =
    ap (λ es. finset.items (finset.from_list {R = record_cmp} (all_records n numbers es))) (entries-empty (slice_cmp nat_cmp))
    ∙ ap (map (λ (e : Record × Unit {0}). e.0)) (entries-empty record_cmp)

distinct_nil : {K : Type 0} (same : K → K → Bool) → IsDistinct same []
unfolding IsDistinct
distinct_nil same = tt

pub spells_empty : (f n : ℕ) → Spells f n [] finmap.empty
spells_empty f n =
    let layers = entries-empty {X = Layer} (slice_cmp nat_cmp) in
    let numbers = entries-empty {X = ℕ} (slice_cmp nat_cmp) in
    let is_map : IsMap f n finmap.empty = record {
      few = omega (arith, len-empty (slice_cmp nat_cmp) Layer);
      named = rw layers (λ k d lt. absurd (omega arith));
      each = rw layers (λ k d lt. absurd (omega arith));
    } in
    record {
      map = is_map;
      numbers = finmap.empty;
      numbered = ap (map (λ (e : List ℕ × ℕ). e.0)) numbers ∙ sym (ap (map (λ (e : List ℕ × Layer). e.0)) layers);
      in_range = rw numbers (λ k d lt. absurd (omega arith));
      differ = rw numbers (distinct_nil nat_eq);
      written = sym (records_of-empty n finmap.empty);
    }
