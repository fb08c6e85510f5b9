-- A list that spells a map, after the records of one layer were edited, spells the map with the other layer.
use Rattle.std.proofs.Common.{◌≡◌, ℕ, ◌+◌, ◌≤◌, ◌↔◌, Bool, true, false, not, ◌⊎◌, List, length, Option, Some, None, refl, sym, ◌∙◌, ap, subst, inl, inr, ⊎_elim}
use Rattle.std.proofs.Common.{arith, Contains, filter, nat_cmp}
use Rattle.std.specs.Cmp.Lexicographic.{slice_cmp, nat_list_cmp_total}
use Rattle.std.specs.FinMap as finmap
use Rattle.std.proofs.lemmas.Bool.{cases_Bool, not_from_false}
use Rattle.std.proofs.lemmas.List.{length-map}
use Rattle.quilt_types.specs.Layers.{Layer, Map, IsMap}
use Rattle.quilt_types.specs.Facts.{Fact, facts, records, changes}
use Rattle.quilt_record.specs.declared.record.Record.{Record}
use Rattle.quilt_record.specs.Records.{Numbering, capacity_of, record_of}
use Rattle.quilt_spell.specs.Apart.{Apart}
use Rattle.quilt_spell.specs.Written.{number_of, layer_records, IsWritten, IsNumbering}
use Rattle.quilt_spell.specs.Changing.{with_layer, facts_in, is_among, facts_alone, records_with, records_alone, KeepsCapacity, IsOne, LeadsTo, IsEdited, lost}
use Rattle.quilt_loc.proofs.Members.{Contains-nil, Contains-map, Contains-map_from, Contains-filter, Contains-filter_from}
use Rattle.quilt_spell.proofs.Lists.{Apart-filter, Apart-map, same_length}
use Rattle.quilt_spell.proofs.Maps.{same_or_not}
use Rattle.quilt_spell.proofs.facts.FactKeys.{fact_alone, facts_apart}
use Rattle.quilt_spell.proofs.facts.SameFacts.{among_from, among_is}
use Rattle.quilt_spell.proofs.Changes.{not_true, got_here, got_there, changes_are, records_balance, lost_at}
use Rattle.quilt_spell.proofs.Written.{name_same, number_in_layer, layer_record, layer_record_from, number_fits, name_alone, layer_fits}

-- a record of facts of a layer
pub record RecordWith (n : ℕ) (name : List ℕ) (number : ℕ) (layer : Option Layer) (fs : List Fact) (r : Record) : Type 0 where
  pub value : Layer
  pub is : layer ≡ Some value
  pub fact : Fact
  pub of : Contains fs fact
  pub written : record_of n (capacity_of value) name number fact ≡ r

pub record_with_from : (n : ℕ) (name : List ℕ) (number : ℕ) (layer : Option Layer) (fs : List Fact) (r : Record)
    → Contains (records_with n name number layer fs) r → RecordWith n name number layer fs r
record_with_from n name number None fs r c = absurd (Contains-nil r c)
record_with_from n name number (Some l) fs r c =
    let m = Contains-map_from (record_of n (capacity_of l) name number) fs r c in
    record { value = l; is = refl; fact = m.0; of = m.1; written = m.2 }

pub record_with_is : (n : ℕ) (name : List ℕ) (number : ℕ) (layer : Option Layer) (l : Layer) (fs : List Fact) (f : Fact) → layer ≡ Some l → Contains fs f
    → Contains (records_with n name number layer fs) (record_of n (capacity_of l) name number f)
record_with_is n name number layer l fs f e c =
    subst (λ (o : Option Layer). Contains (records_with n name number o fs) (record_of n (capacity_of l) name number f)) (sym e)
    (Contains-map (record_of n (capacity_of l) name number) fs f c)

pub same_capacity : (a b : Option Layer) (l m : Layer) → KeepsCapacity a b → a ≡ Some l → b ≡ Some m → capacity_of l ≡ capacity_of m
same_capacity None b l m h e k = cc
same_capacity (Some x) None l m h e k = cc
same_capacity (Some x) (Some y) l m h e k =
    let u : x ≡ l = cc in
    let v : y ≡ m = cc in
    ap capacity_of (sym u) ∙ h ∙ ap capacity_of v

pub facts_some : (n : ℕ) (o : Option Layer) (l : Layer) (f : Fact) → o ≡ Some l → Contains (facts_in n o) f → Contains (facts n l) f
facts_some n o l f e c = subst (λ (p : Option Layer). Contains (facts_in n p) f) e c

some_facts : (n : ℕ) (o : Option Layer) (l : Layer) (f : Fact) → o ≡ Some l → Contains (facts n l) f → Contains (facts_in n o) f
some_facts n o l f e c = subst (λ (p : Option Layer). Contains (facts_in n p) f) (sym e) c

-- a layer that has a fact is there
layer_with : (n : ℕ) (o : Option Layer) (f : Fact) → Contains (facts_in n o) f → (l : Layer) × (o ≡ Some l)
layer_with n None f c = absurd (Contains-nil f c)
layer_with n (Some l) f c = (l, refl)

pub alone_from : (n : ℕ) (a b : Option Layer) (f : Fact) → Contains (facts_alone n a b) f → Contains (facts_in n a) f × (Contains (facts_in n b) f → ⊥)
alone_from n a b f c =
    let w = Contains-filter_from (λ g. not (is_among (facts_in n b) g)) (facts_in n a) f c in
    (w.0, λ k. not_true (is_among (facts_in n b) f) w.1 (among_is (facts_in n b) f k))

alone_or_both : (n : ℕ) (a b : Option Layer) (f : Fact) → Contains (facts_in n a) f → Contains (facts_in n b) f ⊎ Contains (facts_alone n a b) f
alone_or_both n a b f c =
    ⊎_elim (λ t. inl (among_from (facts_in n b) f t))
    (λ e. inr (Contains-filter (λ g. not (is_among (facts_in n b) g)) (facts_in n a) f c (not_from_false (is_among (facts_in n b) f) e)))
    (cases_Bool (is_among (facts_in n b) f))

module _ (form n : ℕ) (layers : Map) (numbers after : Numbering) (name : List ℕ) (number : ℕ) (new : Option Layer) (le : n ≤ 12) (least : 1 ≤ number)
    (h : IsMap form n layers) (num : IsNumbering layers numbers)
    (was : (l : Layer) → finmap.get layers name ≡ Some l → number_of numbers name ≡ number)
    (is : (l : Layer) → new ≡ Some l → number_of after name ≡ number)
    (others : (b : List ℕ) → (b ≡ name → ⊥) → number_of after b ≡ number_of numbers b)
    (kept : KeepsCapacity (finmap.get layers name) new) (removed added : List Record)
    (leads : LeadsTo n name number (finmap.get layers name) new removed added) where
  abbrev old : Option Layer
  old = finmap.get layers name

  abbrev changed : Map
  changed = with_layer layers name new

  -- a record that goes is one of the old layer's
  gone_from : (r : Record) → Contains removed r → RecordWith n name number old (facts_alone n old new) r
  gone_from r c = record_with_from n name number old (facts_alone n old new) r ((leads.remove r).0 c)

  new_from : (r : Record) → Contains added r → RecordWith n name number new (facts_alone n new old) r
  new_from r c = record_with_from n name number new (facts_alone n new old) r ((leads.add r).0 c)

  -- what goes was there
  pub removed_there : (r : Record) → Contains removed r → IsWritten n numbers layers r
  removed_there r c =
      let g = gone_from r c in
      let f = facts_some n old g.value g.fact g.is (alone_from n old new g.fact g.of).0 in record {
        name = name;
        layer = g.value;
        at = g.is;
        written =
            subst (λ (k : ℕ). Contains (layer_records n name k g.value) r) (sym (was g.value g.is))
            (subst (Contains (layer_records n name number g.value)) g.written (layer_record n name number g.value g.fact f));
      }

  -- what comes is the new layer's
  pub added_new : (r : Record) → Contains added r → IsWritten n after changed r
  added_new r c =
      let g = new_from r c in
      let f = facts_some n new g.value g.fact g.is (alone_from n new old g.fact g.of).0 in record {
        name = name;
        layer = g.value;
        at = got_here layers name new ∙ g.is;
        written =
            subst (λ (k : ℕ). Contains (layer_records n name k g.value) r) (sym (is g.value g.is))
            (subst (Contains (layer_records n name number g.value)) g.written (layer_record n name number g.value g.fact f));
      }

  -- a record of another layer does not go
  other_stays : (w : List ℕ) (l : Layer) (r : Record) → finmap.get layers w ≡ Some l → Contains (layer_records n w (number_of numbers w) l) r
      → (w ≡ name → ⊥) → Contains removed r → ⊥
  unfolding removed_there gone_from
  other_stays w l r at c d gone =
      let t = removed_there r gone in
      let g = gone_from r gone in
      let here = number_in_layer n w (number_of numbers w) l r (number_fits layers numbers num w l at).0 c in
      let there = number_in_layer n name (number_of numbers name) g.value r (number_fits layers numbers num name g.value g.is).0 t.written in
      d (name_alone layers numbers num w name l g.value at g.is (sym here ∙ there))

  -- a fact that both layers have keeps its record
  fact_stays : (l : Layer) (f : Fact) → old ≡ Some l → Contains (facts n l) f → Contains (facts_in n new) f
      → Contains removed (record_of n (capacity_of l) name number f) → ⊥
  fact_stays l f e c k gone =
      let g = gone_from (record_of n (capacity_of l) name number f) gone in
      let a = alone_from n old new g.fact g.of in
      let same : g.value ≡ l = some_same g.value l (sym g.is ∙ e) in
      let keys = ap (λ (r : Record). r.key) (ap (λ (m : Layer). record_of n (capacity_of m) name number g.fact) (sym same) ∙ g.written) in
      let one =
      fact_alone n le name number least form l (layer_fits form n numbers layers le h num name l e) g.fact f (facts_some n old l g.fact e a.0) c keys in
      a.1 (subst (Contains (facts_in n new)) (sym one) k)
    where
      some_same : (x y : Layer) → Some x ≡ Some y → x ≡ y
      some_same x y e = cc

  -- what stays of the old layer is the new one's
  stays_from : (l : Layer) (r : Record) → old ≡ Some l → Contains (layer_records n name number l) r → (Contains removed r → ⊥) → IsWritten n after changed r
  stays_from l r e c stays =
      let m = layer_record_from n name number l r c in
      ⊎_elim
      (λ k.
      let o = layer_with n new m.0 k in
      let cap = same_capacity old new l o.0 kept e o.1 in
      let there = layer_record n name number o.0 m.0 (facts_some n new o.0 m.0 o.1 k) in
      let eq = ap (λ q. record_of n q name number m.0) (sym cap) ∙ m.2 in record {
        name = name;
        layer = o.0;
        at = got_here layers name new ∙ o.1;
        written = subst (λ (k : ℕ). Contains (layer_records n name k o.0) r) (sym (is o.0 o.1)) (subst (Contains (layer_records n name number o.0)) eq there);
      })
      (λ k. absurd (stays (subst (Contains removed) m.2
      ((leads.remove (record_of n (capacity_of l) name number m.0)).1 (record_with_is n name number old l (facts_alone n old new) m.0 e k)))))
      (alone_or_both n old new m.0 (some_facts n old l m.0 e m.1))

  module _ (rs now : List Record) (spells : (r : Record) → Contains rs r ↔ IsWritten n numbers layers r) (edited : IsEdited rs removed added now) where
    new_record : (r : Record) → Contains now r → IsWritten n after changed r
    new_record r c =
        ⊎_elim
        (λ stayed.
        let w = (spells r).0 stayed.0 in
        ⊎_elim
        (λ e.
        let at = ap (finmap.get layers) (sym e) ∙ w.at in
        let number' : number_of numbers w.name ≡ number = ap (number_of numbers) e ∙ was w.layer at in
        let there = subst (λ (k : ℕ). Contains (layer_records n name k w.layer) r) number'
        (subst (λ (a : List ℕ). Contains (layer_records n a (number_of numbers w.name) w.layer) r) e w.written) in
        stays_from w.layer r at there stayed.1)
        (λ d. record {
          name = w.name;
          layer = w.layer;
          at = got_there layers name new w.name d ∙ w.at;
          written = subst (λ (k : ℕ). Contains (layer_records n w.name k w.layer) r) (sym (others w.name d)) w.written;
        })
        (same_or_not (slice_cmp nat_cmp) nat_list_cmp_total name_same w.name name))
        (λ came. added_new r came)
        ((edited r).0 c)

    record_new : (r : Record) → IsWritten n after changed r → Contains now r
    record_new r w =
        (edited r).1
        (⊎_elim
        (λ e.
        let at : new ≡ Some w.layer = sym (got_here layers name new) ∙ ap (finmap.get changed) (sym e) ∙ w.at in
        let number' : number_of after w.name ≡ number = ap (number_of after) e ∙ is w.layer at in
        let there = subst (λ (k : ℕ). Contains (layer_records n name k w.layer) r) number'
        (subst (λ (a : List ℕ). Contains (layer_records n a (number_of after w.name) w.layer) r) e w.written) in
        let m = layer_record_from n name number w.layer r there in
        ⊎_elim
        (λ k.
        let o = layer_with n old m.0 k in
        let f = facts_some n old o.0 m.0 o.1 k in
        let cap = same_capacity old new o.0 w.layer kept o.1 at in
        let eq : record_of n (capacity_of o.0) name number m.0 ≡ r = ap (λ q. record_of n q name number m.0) cap ∙ m.2 in
        let here : IsWritten n numbers layers r = record {
          name = name;
          layer = o.0;
          at = o.1;
          written =
              subst (λ (k : ℕ). Contains (layer_records n name k o.0) r) (sym (was o.0 o.1))
              (subst (Contains (layer_records n name number o.0)) eq (layer_record n name number o.0 m.0 f));
        } in
        inl ((spells r).1 here, λ gone. fact_stays o.0 m.0 o.1 f (some_facts n new w.layer m.0 at m.1) (subst (Contains removed) (sym eq) gone)))
        (λ k. inr (subst (Contains added) m.2
        ((leads.add (record_of n (capacity_of w.layer) name number m.0)).1 (record_with_is n name number new w.layer (facts_alone n new old) m.0 at k))))
        (alone_or_both n new old m.0 (some_facts n new w.layer m.0 at m.1)))
        (λ d.
        let at = sym (got_there layers name new w.name d) ∙ w.at in
        let there = subst (λ (k : ℕ). Contains (layer_records n w.name k w.layer) r) (others w.name d) w.written in
        let here : IsWritten n numbers layers r = record { name = w.name; layer = w.layer; at = at; written = there } in
        inl ((spells r).1 here, λ gone. other_stays w.name w.layer r at there d gone))
        (same_or_not (slice_cmp nat_cmp) nat_list_cmp_total name_same w.name name))

    pub edited_members : (r : Record) → Contains now r ↔ IsWritten n after changed r
    edited_members r = (new_record r, record_new r)

-- ---- how many records go and come
pub alone_apart : (form n : ℕ) (name : List ℕ) (number : ℕ) (a b : Option Layer) → n ≤ 12 → 1 ≤ number → IsOne form n a
    → Apart (records_alone n name number a b)
alone_apart form n name number None b le least h = tt
alone_apart form n name number (Some l) b le least h =
    let test : Fact → Bool = λ f. not (is_among (facts_in n b) f) in
    Apart-map (record_of n (capacity_of l) name number) (filter test (facts n l))
    (λ f g c d e. fact_alone n le name number least form l h f g (Contains-filter_from test (facts n l) f c).0
    (Contains-filter_from test (facts n l) g d).0 (ap (λ (r : Record). r.key) e))
    (Apart-filter test (facts n l) (facts_apart n l))

alone_length : (n : ℕ) (name : List ℕ) (number : ℕ) (a b : Option Layer) → length (records_alone n name number a b) ≡ length (facts_alone n a b)
alone_length n name number None b = refl
alone_length n name number (Some l) b = length-map (facts_alone n (Some l) b) (record_of n (capacity_of l) name number)

module _ (form n : ℕ) (layers : Map) (name : List ℕ) (number : ℕ) (new : Option Layer) (le : n ≤ 12) (least : 1 ≤ number)
    (fits : IsOne form n (finmap.get layers name)) (fits_new : IsOne form n new) (removed added : List Record)
    (leads : LeadsTo n name number (finmap.get layers name) new removed added) where
  agree : (c : List ℕ) → (c ≡ name → ⊥) → finmap.get layers c ≡ finmap.get (with_layer layers name new) c
  agree c d = sym (got_there layers name new c d)

  many_gone : length removed ≡ lost n layers (with_layer layers name new)
  many_gone =
      same_length removed (records_alone n name number (finmap.get layers name) new) leads.remove_once
      (alone_apart form n name number (finmap.get layers name) new le least fits) leads.remove
      ∙ alone_length n name number (finmap.get layers name) new
      ∙ ap (λ o. length (facts_alone n (finmap.get layers name) o)) (sym (got_here layers name new))
      ∙ sym (lost_at n layers (with_layer layers name new) name agree)

  many_come : length added ≡ lost n (with_layer layers name new) layers
  many_come =
      same_length added (records_alone n name number new (finmap.get layers name)) leads.add_once
      (alone_apart form n name number new (finmap.get layers name) le least fits_new) leads.add
      ∙ alone_length n name number new (finmap.get layers name)
      ∙ ap (λ o. length (facts_alone n o (finmap.get layers name))) (sym (got_here layers name new))
      ∙ sym (lost_at n (with_layer layers name new) layers name (λ c d. sym (agree c d)))

  -- the records in the edits are the facts that one map alone has
  pub edits_count : changes n layers (with_layer layers name new) ≡ length removed + length added
  edits_count =
      let c = changes_are n layers (with_layer layers name new) in
      let g = many_gone in
      let k = many_come in
      omega arith

  -- what the quota asks
  pub edits_records : records n (with_layer layers name new) + length removed ≡ records n layers + length added
  edits_records =
      let b = records_balance n layers (with_layer layers name new) in
      let g = many_gone in
      let k = many_come in
      omega arith
