-- A list that spells a map spells each of its layers, and its catalog.
use Rattle.std.proofs.Common.{◌≡◌, ℕ, ◌≤◌, Bool, not, ◌⊎◌, List, map, Option, Some, None, refl, sym, ◌∙◌, ap, ap₂, subst, inl, inr, ⊎_elim, arith}
use Rattle.std.proofs.Common.{Contains, filter, eqb, ne_eqb}
use Rattle.std.specs.Prelude.{◌==◌}
use Rattle.std.specs.FinMap as finmap
use Rattle.std.proofs.lemmas.Bool.{cases_Bool, cond-false}
use Rattle.std.proofs.lemmas.Option.{same_Some}
use Rattle.quilt_types.specs.declared.plane.Block.{Block}
use Rattle.quilt_types.specs.Layers.{Layer, Region, Points, Lines, Grid, Map, IsLayer}
use Rattle.quilt_types.specs.Facts.{Fact, IsOfKind, HasColour, HoldsPoint, HoldsNoPoint, IsSegment, IsMetBy, IsMetByNone, facts}
use Rattle.quilt_types.specs.Quadtrees.{leaves}
use Rattle.quilt_record.specs.declared.record.Record.{Record}
use Rattle.quilt_record.specs.Records.{Numbering, capacity_of, record_of}
use Rattle.quilt_spell.specs.Written.{number_of, number_in, layer_records, IsWritten, IsNumbering}
use Rattle.quilt_spell.specs.Spelled.{SpellsUnder}
use Rattle.quilt_spell.specs.Changing.{facts_in, is_among, facts_alone, records_with, records_alone, KeepsCapacity, IsOne, LeadsTo}
use Rattle.quilt_spell.specs.OfLayer.{kind_fact, kind_record, SpellsLayer, leaf_record, SpellsRegion}
use Rattle.quilt_loc.proofs.Members.{Contains-here, Contains-there, Contains-cons_cases, Contains-map, Contains-map_from, Contains-filter, Contains-filter_from}
use Rattle.quilt_spell.proofs.facts.FactKeys.{fact_alone}
use Rattle.quilt_spell.proofs.facts.FactMembers.{layer_says}
use Rattle.quilt_spell.proofs.facts.SameFacts.{among_from, among_is}
use Rattle.quilt_spell.proofs.Changes.{not_true, not_from}
use Rattle.quilt_spell.proofs.Edits.{record_with_from, same_capacity}
use Rattle.quilt_spell.proofs.Written.{number_in_layer, layer_record, layer_record_from, number_is, number_fits}
use Rattle.quilt_spell.proofs.Written.{name_alone, layer_fits}

pub kind_there : (n : ℕ) (l : Layer) → Contains (facts n l) (kind_fact l)
kind_there n (Region grid) = Contains-here _ _
kind_there n (Points capacity points) = Contains-here _ _
kind_there n (Lines threshold segs cover) = Contains-here _ _

-- only the fact of the kind is written in the catalog
pub kind_only : (form n : ℕ) (l : Layer) (c k : ℕ) (name : List ℕ) (f : Fact) → IsLayer form n l → 1 ≤ k → Contains (facts n l) f
    → (record_of n c name k f).key.layer ≡ 0 → f ≡ kind_fact l
kind_only form n (Region grid) c k name (IsOfKind i j) h le there e = let s = layer_says form n (Region grid) h (IsOfKind i j) there in ap₂ IsOfKind s.0 s.1
kind_only form n (Points capacity points) c k name (IsOfKind i j) h le there e = let s =
    layer_says form n (Points capacity points) h (IsOfKind i j) there in ap₂ IsOfKind s.0 s.1
kind_only form n (Lines threshold segs cover) c k name (IsOfKind i j) h le there e = let s =
    layer_says form n (Lines threshold segs cover) h (IsOfKind i j) there in ap₂ IsOfKind s.0 s.1
kind_only form n l c k name (HasColour b d) h le there e = absurd (omega arith)
kind_only form n l c k name (HoldsPoint b p d) h le there e = absurd (omega arith)
kind_only form n l c k name (HoldsNoPoint b) h le there e = absurd (omega arith)
kind_only form n l c k name (IsSegment i s) h le there e = absurd (omega arith)
kind_only form n l c k name (IsMetBy b i) h le there e = absurd (omega arith)
kind_only form n l c k name (IsMetByNone b) h le there e = absurd (omega arith)

module _ (form n : ℕ) (numbers : Numbering) (rs : List Record) (layers : Map) (le : n ≤ 12) (s : SpellsUnder form n numbers rs layers) where
  -- each layer
  pub layer_spelled : (name : List ℕ) (l : Layer) → finmap.get layers name ≡ Some l → SpellsLayer n rs name (number_of numbers name) l
  layer_spelled name l at = record {
    each = λ f c. (s.written (record_of n (capacity_of l) name (number_of numbers name) f)).1
        (record { name = name; layer = l; at = at; written = layer_record n name (number_of numbers name) l f c });
    only = λ r c e.
        let w = (s.written r).0 c in
        let here = number_in_layer n w.name (number_of numbers w.name) w.layer r (number_fits layers numbers s.numbering w.name w.layer w.at).0 w.written in
        let same = name_alone layers numbers s.numbering w.name name w.layer l w.at at (sym here ∙ e) in
        let layer = same_Some w.layer l (sym w.at ∙ ap (finmap.get layers) same ∙ at) in
        subst (λ (a : List ℕ). Contains (layer_records n a (number_of numbers a) l) r) same
        (subst (λ (m : Layer). Contains (layer_records n w.name (number_of numbers w.name) m) r) layer w.written);
  }

  -- the catalog
  pub catalog_each : (name : List ℕ) (l : Layer) → finmap.get layers name ≡ Some l → Contains rs (kind_record n name (number_of numbers name) l)
  catalog_each name l at = (layer_spelled name l at).each (kind_fact l) (kind_there n l)

  pub catalog_only : (r : Record) → Contains rs r → r.key.layer ≡ 0 → (name : List ℕ) × (l : Layer) × (finmap.get layers name ≡ Some l)
      × (r ≡ kind_record n name (number_of numbers name) l)
  catalog_only r c e =
      let w = (s.written r).0 c in
      let m = layer_record_from n w.name (number_of numbers w.name) w.layer r w.written in
      let fits = layer_fits form n numbers layers le s.map s.numbering w.name w.layer w.at in
      let least = (number_fits layers numbers s.numbering w.name w.layer w.at).0 in
      let kind =
      kind_only form n w.layer (capacity_of w.layer) (number_of numbers w.name) w.name m.0 fits least m.1 (ap (λ (q : Record). q.key.layer) m.2 ∙ e) in
      (w.name, w.layer, w.at, sym m.2 ∙ ap (record_of n (capacity_of w.layer) w.name (number_of numbers w.name)) kind)

  -- a region layer
  pub region_spelled : (name : List ℕ) (g : Grid) → finmap.get layers name ≡ Some (Region g) → SpellsRegion rs (number_of numbers name) n g
  region_spelled name g at =
      let k = number_of numbers name in
      let l = layer_spelled name (Region g) at in
      let least = (number_fits layers numbers s.numbering name (Region g) at).0 in
      let fact : Block × ℕ → Fact = λ e. HasColour e.0 e.1 in record {
        each = λ e c. l.each (fact e) (Contains-there (IsOfKind 1 0) (map fact (leaves n g)) (fact e) (Contains-map fact (leaves n g) e c));
        only = λ r c e.
            let number : number_in r.key ≡ k = cond-false (eqb r.key.layer 0) r.key.item r.key.layer (ne_eqb r.key.layer 0 (λ z. absurd (omega arith))) ∙ e in
            let m = layer_record_from n name k (Region g) r (l.only r c number) in
            ⊎_elim
            (λ kind. let zero' : 0 ≡ k = ap (λ (f : Fact). (record_of n 0 name k f).key.layer) kind ∙ ap (λ (q : Record). q.key.layer) m.2 ∙ e in
            absurd (omega arith))
            (λ leaf.
            let d = Contains-map_from fact (leaves n g) m.0 leaf in
            subst (Contains (map (leaf_record n k) (leaves n g))) (ap (λ (f : Fact). record_of n 0 name k f) d.2 ∙ m.2)
            (Contains-map (leaf_record n k) (leaves n g) d.0 d.1))
            (Contains-cons_cases (IsOfKind 1 0) (map fact (leaves n g)) m.0 m.1);
      }

-- the records that one grid alone has: those of its leaves that are no leaves of the other
module _ (n : ℕ) (name : List ℕ) (k : ℕ) (g other : Grid) where
  pub region_alone_from : (r : Record) → Contains (records_alone n name k (Some (Region g)) (Some (Region other))) r
      → (e : Block × ℕ) × Contains (leaves n g) e × (Contains (leaves n other) e → ⊥) × (leaf_record n k e ≡ r)
  region_alone_from r c =
      let fact : Block × ℕ → Fact = λ e. HasColour e.0 e.1 in
      let test : Fact → Bool = λ f. not (is_among (facts n (Region other)) f) in
      let m = Contains-map_from (record_of n 0 name k) (filter test (facts n (Region g))) r c in
      let w = Contains-filter_from test (facts n (Region g)) m.0 m.1 in
      ⊎_elim
      (λ kind. absurd (not_true (is_among (facts n (Region other)) m.0) w.1
      (among_is (facts n (Region other)) m.0 (subst (Contains (facts n (Region other))) kind (kind_there n (Region other))))))
      (λ leaf.
      let d = Contains-map_from fact (leaves n g) m.0 leaf in (
        d.0,
        d.1,
        λ there. not_true (is_among (facts n (Region other)) m.0) w.1 (among_is (facts n (Region other)) m.0
            (subst (Contains (facts n (Region other))) d.2
            (Contains-there (IsOfKind 1 0) (map fact (leaves n other)) (fact d.0) (Contains-map fact (leaves n other) d.0 there)))),
        ap (λ (f : Fact). record_of n 0 name k f) d.2 ∙ m.2,
      ))
      (Contains-cons_cases (IsOfKind 1 0) (map fact (leaves n g)) m.0 w.0)

  pub region_alone_is : (e : Block × ℕ) → Contains (leaves n g) e → (Contains (leaves n other) e → ⊥)
      → Contains (records_alone n name k (Some (Region g)) (Some (Region other))) (leaf_record n k e)
  region_alone_is e c away =
      let fact : Block × ℕ → Fact = λ e. HasColour e.0 e.1 in
      let test : Fact → Bool = λ f. not (is_among (facts n (Region other)) f) in
      Contains-map (record_of n 0 name k) (filter test (facts n (Region g))) (fact e)
      (Contains-filter test (facts n (Region g)) (fact e) (Contains-there (IsOfKind 1 0) (map fact (leaves n g)) (fact e) (Contains-map fact (leaves n g) e c))
      (not_from (is_among (facts n (Region other)) (fact e)) (λ t.
      ⊎_elim (λ kind. cc)
      (λ leaf.
      let d = Contains-map_from fact (leaves n other) (fact e) leaf in
      let same = d.2 in
      let x : d.0.0 ≡ e.0 = cc in
      let y : d.0.1 ≡ e.1 = cc in
      let pair : d.0 ≡ e = λ i. (x i, y i) in
      away (subst (Contains (leaves n other)) pair d.1))
      (Contains-cons_cases (IsOfKind 1 0) (map fact (leaves n other)) (fact e) (among_from (facts n (Region other)) (fact e) t)))))

-- What the tree asks of the records that come: their keys are none of those that stay.
module _ (form n : ℕ) (layers : Map) (numbers : Numbering) (name : List ℕ) (number : ℕ) (new : Option Layer) (le : n ≤ 12) (least : 1 ≤ number)
    (num : IsNumbering layers numbers) (fits : IsOne form n new)
    (was : (l : Layer) → finmap.get layers name ≡ Some l → number_of numbers name ≡ number)
    (free : finmap.get layers name ≡ None → (b : List ℕ) → finmap.get numbers b ≡ Some number → ⊥)
    (kept : KeepsCapacity (finmap.get layers name) new) (removed added : List Record)
    (leads : LeadsTo n name number (finmap.get layers name) new removed added) where
  none_or_some : (o : Option Layer) → (o ≡ None) ⊎ ((l : Layer) × (o ≡ Some l))
  none_or_some None = inl refl
  none_or_some (Some l) = inr (l, refl)

  one_fits : (l : Layer) → new ≡ Some l → IsLayer form n l
  one_fits l e = subst (IsOne form n) e fits

  pub added_apart : (r s : Record) → Contains added r → IsWritten n numbers layers s → (Contains removed s → ⊥) → r.key ≡ s.key → ⊥
  added_apart r s c w stays e =
      let old = finmap.get layers name in
      let g = record_with_from n name number new (facts_alone n new old) r ((leads.add r).0 c) in
      let k = Contains-filter_from (λ f. not (is_among (facts_in n old) f)) (facts_in n new) g.fact g.of in
      let in_new = subst (λ (o : Option Layer). Contains (facts_in n o) g.fact) g.is k.0 in
      let there = number_in_layer n w.name (number_of numbers w.name) w.layer s (number_fits layers numbers num w.name w.layer w.at).0 w.written in
      let here = number_in_layer n name number g.value r least
      (subst (Contains (layer_records n name number g.value)) g.written (layer_record n name number g.value g.fact in_new)) in
      let same : number_of numbers w.name ≡ number = sym there ∙ ap number_in (sym e) ∙ here in
      ⊎_elim
      (λ none. free none w.name (number_is layers numbers num w.name w.layer w.at ∙ ap Some same))
      (λ some.
      let l = some.0 in
      let names = name_alone layers numbers num w.name name w.layer l w.at some.1 (same ∙ sym (was l some.1)) in
      let layer = same_Some w.layer l (sym w.at ∙ ap (finmap.get layers) names ∙ some.1) in
      let mine = subst (λ (a : List ℕ). Contains (layer_records n a number l) s) names
      (subst (λ (k : ℕ). Contains (layer_records n w.name k l) s) same
      (subst (λ (m : Layer). Contains (layer_records n w.name (number_of numbers w.name) m) s) layer w.written)) in
      let m = layer_record_from n name number l s mine in
      let cap = same_capacity old new l g.value kept some.1 g.is in
      let in_old = subst (λ (o : Option Layer). Contains (facts_in n o) m.0) (sym some.1) m.1 in
      ⊎_elim
      (λ t.
      let also = subst (λ (o : Option Layer). Contains (facts_in n o) m.0) g.is (among_from (facts_in n new) m.0 t) in
      let keys = ap (λ (q : Record). q.key) g.written ∙ e ∙ ap (λ (q : Record). q.key) (sym m.2 ∙ ap (λ (z : ℕ). record_of n z name number m.0) cap) in
      let one = fact_alone n le name number least form g.value (one_fits g.value g.is) g.fact m.0 in_new also keys in
      not_true (is_among (facts_in n old) g.fact) k.1 (among_is (facts_in n old) g.fact (subst (Contains (facts_in n old)) (sym one) in_old)))
      (λ f.
      let alone = Contains-filter (λ f. not (is_among (facts_in n new) f)) (facts_in n old) m.0 in_old (ap not f) in
      let gone : Contains (records_alone n name number old new) s =
      subst (λ (o : Option Layer). Contains (records_with n name number o (facts_alone n old new)) s) (sym some.1)
      (subst (Contains (records_with n name number (Some l) (facts_alone n old new))) m.2
      (Contains-map (record_of n (capacity_of l) name number) (facts_alone n old new) m.0 alone)) in
      stays ((leads.remove s).1 gone))
      (cases_Bool (is_among (facts_in n new) m.0)))
      (none_or_some old)
