-- How many facts two maps have apart, and how that is the difference of their records.
use Rattle.std.proofs.Common.{◌≡◌, ℕ, ◌+◌, Bool, true, false, not, List, map, length, Option, Some, None, refl, sym, ◌∙◌, ap, subst, ⊎_elim, arith, Contains}
use Rattle.std.proofs.Common.{filter, sum_by, nat_cmp}
use Rattle.std.specs.Cmp.{on_total}
use Rattle.std.specs.Cmp.Lexicographic.{slice_cmp, nat_list_cmp_total}
use Rattle.std.specs.FinMap as finmap
use Rattle.std.proofs.lemmas.List.{length-map}
use Rattle.std.proofs.lemmas.List.Concat.{length-flat_map}
use Rattle.std.proofs.lemmas.List.Filters.{length-filter_both}
use Rattle.std.proofs.lemmas.List.Sums.{length-filter}
use Rattle.quilt_types.specs.Layers.{Layer, Map}
use Rattle.quilt_types.specs.Facts.{Fact, facts, records, all_facts, is_fact_of, changes}
use Rattle.quilt_spell.specs.Apart.{Apart}
use Rattle.quilt_spell.specs.Changing.{with_layer, facts_in, is_among, facts_alone, lost}
use Rattle.quilt_loc.proofs.Members.{Contains-nil, Contains-map, Contains-map_from, Contains-flat_map, Contains-flat_map_from, Contains-filter}
use Rattle.quilt_loc.proofs.Members.{Contains-filter_from}
use Rattle.quilt_spell.proofs.Lists.{Apart-filter, Apart-map, Apart-flat_map, Apart-rises, same_length}
use Rattle.quilt_spell.proofs.Maps.{by_first, Rises-entries, entry_from_get, get_from_entry, get_inserted, get_others, get_removed, get_kept, same_or_not}
use Rattle.quilt_spell.proofs.facts.FactKeys.{facts_apart}
use Rattle.quilt_spell.proofs.Written.{name_same}
use Rattle.quilt_spell.proofs.facts.SameFacts.{among_from, among_is, fact_of_from, fact_of_is}

-- ---- what a test that fails says
pub not_true : (b : Bool) → not b ≡ true → b ≡ true → ⊥
not_true true h e = cc
not_true false h e = cc

pub not_from : (b : Bool) → (b ≡ true → ⊥) → not b ≡ true
not_from true h = absurd (h refl)
not_from false h = refl

-- ---- what a map with another layer answers
module _ (layers : Map) (name : List ℕ) where
  pub got_here : (new : Option Layer) → finmap.get (with_layer layers name new) name ≡ new
  got_here None = get_removed (slice_cmp nat_cmp) nat_list_cmp_total name_same layers name
  got_here (Some l) = get_inserted (slice_cmp nat_cmp) nat_list_cmp_total name_same layers name l

  pub got_there : (new : Option Layer) (b : List ℕ) → (b ≡ name → ⊥) → finmap.get (with_layer layers name new) b ≡ finmap.get layers b
  got_there None b d = get_kept (slice_cmp nat_cmp) nat_list_cmp_total name_same layers name b d
  got_there (Some l) b d = get_others (slice_cmp nat_cmp) nat_list_cmp_total name_same layers name l b d

-- ---- the facts of a map
paired : List ℕ → Fact → List ℕ × Fact
paired name f = (name, f)

facts_of : ℕ → List ℕ × Layer → List (List ℕ × Fact)
facts_of n e = map (paired e.0) (facts n e.1)

module _ (n : ℕ) (layers : Map) where
  some_facts : (o : Option Layer) (l : Layer) (f : Fact) → o ≡ Some l → Contains (facts n l) f → Contains (facts_in n o) f
  some_facts o l f e c = subst (λ (p : Option Layer). Contains (facts_in n p) f) (sym e) c

  pub fact_from : (f : List ℕ × Fact) → Contains (all_facts n layers) f → Contains (facts_in n (finmap.get layers f.0)) f.1
  unfolding facts_of paired
  fact_from f c =
      let m = Contains-flat_map_from (facts_of n) (finmap.entries layers) f c in
      let w = Contains-map_from (paired m.0.0) (facts n m.0.1) f m.2 in
      let there = some_facts (finmap.get layers m.0.0) m.0.1 w.0 (get_from_entry (slice_cmp nat_cmp) nat_list_cmp_total name_same layers m.0 m.1) w.1 in
      subst (λ (g : List ℕ × Fact). Contains (facts_in n (finmap.get layers g.0)) g.1) w.2 there

  given : (o : Option Layer) (name : List ℕ) (f : Fact) → finmap.get layers name ≡ o → Contains (facts_in n o) f → Contains (all_facts n layers) (name, f)
  unfolding facts_of paired
  given None name f e c = absurd (Contains-nil f c)
  given (Some l) name f e c =
      Contains-flat_map (facts_of n) (finmap.entries layers) (name, l) (name, f)
      (entry_from_get (slice_cmp nat_cmp) nat_list_cmp_total name_same layers name l e) (Contains-map (paired name) (facts n l) f c)

  pub fact_there : (name : List ℕ) (f : Fact) → Contains (facts_in n (finmap.get layers name)) f → Contains (all_facts n layers) (name, f)
  fact_there name f c = given (finmap.get layers name) name f refl c

  pub all_facts_apart : Apart (all_facts n layers)
  unfolding facts_of paired
  all_facts_apart =
      Apart-flat_map (facts_of n) (finmap.entries layers)
      (Apart-rises (by_first (slice_cmp nat_cmp)) (on_total (λ (e : List ℕ × Layer). e.0) nat_list_cmp_total) (finmap.entries layers)
      (Rises-entries (slice_cmp nat_cmp) layers))
      (λ e c. Apart-map (paired e.0) (facts n e.1) (λ f g _ _ w. ap (λ (z : List ℕ × Fact). z.1) w) (facts_apart n e.1))
      (λ d e f c k x y.
      let u = Contains-map_from (paired d.0) (facts n d.1) f x in
      let v = Contains-map_from (paired e.0) (facts n e.1) f y in
      let name = ap (λ (z : List ℕ × Fact). z.0) (u.2 ∙ sym v.2) in
      let dt = get_from_entry (slice_cmp nat_cmp) nat_list_cmp_total name_same layers d c in
      let et = get_from_entry (slice_cmp nat_cmp) nat_list_cmp_total name_same layers e k in
      let some : Some d.1 ≡ Some e.1 = sym dt ∙ ap (finmap.get layers) name ∙ et in
      let layer : d.1 ≡ e.1 = cc in
      λ i. (name i, layer i))

  pub all_facts_length : length (all_facts n layers) ≡ records n layers
  unfolding facts_of paired
  all_facts_length =
      length-flat_map (facts_of n) (finmap.entries layers)
      ∙ (λ i. sum_by (λ (e : List ℕ × Layer). length-map (facts n e.1) (paired e.0) i) (finmap.entries layers))

-- ---- two maps
module _ (n : ℕ) (a b : Map) where
  in_it : Map → List ℕ × Fact → Bool
  in_it m f = is_fact_of (all_facts n m) f

  both_have : (c d : Map) (f : List ℕ × Fact) → Contains (filter (in_it d) (all_facts n c)) f → Contains (filter (in_it c) (all_facts n d)) f
  unfolding in_it
  both_have c d f k =
      let w = Contains-filter_from (in_it d) (all_facts n c) f k in
      Contains-filter (in_it c) (all_facts n d) f (fact_of_from (all_facts n d) f w.1) (fact_of_is (all_facts n c) f w.0)

  common : length (filter (in_it b) (all_facts n a)) ≡ length (filter (in_it a) (all_facts n b))
  common =
      same_length (filter (in_it b) (all_facts n a)) (filter (in_it a) (all_facts n b))
      (Apart-filter (in_it b) (all_facts n a) (all_facts_apart n a)) (Apart-filter (in_it a) (all_facts n b) (all_facts_apart n b))
      (λ f. (both_have a b f, both_have b a f))

  parts : (c d : Map) → length (filter (in_it d) (all_facts n c)) + lost n c d ≡ records n c
  unfolding in_it lost
  parts c d =
      let e = length-filter_both (in_it d) (λ f. not (in_it d f)) (λ f. refl) (all_facts n c) in
      let k = length-filter (λ f. not (in_it d f)) (all_facts n c) in
      let r = all_facts_length n c in
      omega arith

  -- the records of two maps differ by what they lose to one another
  pub records_balance : records n a + lost n b a ≡ records n b + lost n a b
  records_balance = let p = parts a b in let q = parts b a in let c = common in omega arith

  pub changes_are : changes n a b ≡ lost n a b + lost n b a
  unfolding changes lost
  changes_are = refl

  -- where two maps agree but at one name
  module _ (name : List ℕ) (agree : (c : List ℕ) → (c ≡ name → ⊥) → finmap.get a c ≡ finmap.get b c) where
    gone_from : (f : List ℕ × Fact) → Contains (filter (λ f. not (in_it b f)) (all_facts n a)) f
        → Contains (map (paired name) (facts_alone n (finmap.get a name) (finmap.get b name))) f
    unfolding in_it paired
    gone_from f c =
        let w = Contains-filter_from (λ f. not (in_it b f)) (all_facts n a) f c in
        let here = fact_from n a f w.0 in
        let away = λ (e : Contains (facts_in n (finmap.get b f.0)) f.1). not_true (in_it b f) w.1 (fact_of_is (all_facts n b) f (fact_there n b f.0 f.1 e)) in
        ⊎_elim
        (λ e.
        let here' = subst (λ (c : List ℕ). Contains (facts_in n (finmap.get a c)) f.1) e here in
        let k = Contains-filter (λ g. not (is_among (facts_in n (finmap.get b name)) g)) (facts_in n (finmap.get a name)) f.1 here'
        (not_from (is_among (facts_in n (finmap.get b name)) f.1)
        (λ t. away (subst (λ (c : List ℕ). Contains (facts_in n (finmap.get b c)) f.1) (sym e) (among_from (facts_in n (finmap.get b name)) f.1 t)))) in
        let pair : (name, f.1) ≡ f = λ i. (sym e i, f.1) in
        subst (Contains (map (paired name) (facts_alone n (finmap.get a name) (finmap.get b name)))) pair
        (Contains-map (paired name) (facts_alone n (finmap.get a name) (finmap.get b name)) f.1 k))
        (λ d. absurd (away (subst (λ (o : Option Layer). Contains (facts_in n o) f.1) (agree f.0 d) here)))
        (same_or_not (slice_cmp nat_cmp) nat_list_cmp_total name_same f.0 name)

    gone_is : (f : List ℕ × Fact) → Contains (map (paired name) (facts_alone n (finmap.get a name) (finmap.get b name))) f
        → Contains (filter (λ f. not (in_it b f)) (all_facts n a)) f
    unfolding in_it paired
    gone_is f c =
        let m = Contains-map_from (paired name) (facts_alone n (finmap.get a name) (finmap.get b name)) f c in
        let g = m.0 in
        let w = Contains-filter_from (λ g. not (is_among (facts_in n (finmap.get b name)) g)) (facts_in n (finmap.get a name)) g m.1 in
        let k = Contains-filter (λ f. not (in_it b f)) (all_facts n a) (name, g) (fact_there n a name g w.0)
        (not_from (in_it b (name, g)) (λ t. not_true (is_among (facts_in n (finmap.get b name)) g) w.1
        (among_is (facts_in n (finmap.get b name)) g (fact_from n b (name, g) (fact_of_from (all_facts n b) (name, g) t))))) in
        subst (Contains (filter (λ f. not (in_it b f)) (all_facts n a))) m.2 k

    in_apart : (o : Option Layer) → Apart (facts_in n o)
    in_apart None = tt
    in_apart (Some l) = facts_apart n l

    pub lost_at : lost n a b ≡ length (facts_alone n (finmap.get a name) (finmap.get b name))
    unfolding lost in_it paired
    lost_at =
        let fs = facts_alone n (finmap.get a name) (finmap.get b name) in
        let there = filter (λ f. not (in_it b f)) (all_facts n a) in
        sym (length-filter (λ f. not (in_it b f)) (all_facts n a))
        ∙ same_length there (map (paired name) fs)
        (Apart-filter (λ f. not (in_it b f)) (all_facts n a) (all_facts_apart n a))
        (Apart-map (paired name) fs (λ f g _ _ w. ap (λ (z : List ℕ × Fact). z.1) w)
        (Apart-filter (λ g. not (is_among (facts_in n (finmap.get b name)) g)) (facts_in n (finmap.get a name)) (in_apart (finmap.get a name))))
        (λ f. (gone_from f, gone_is f))
        ∙ length-map fs (paired name)
