-- What goes and comes in a point layer, as records: a plan.
use Rattle.std.proofs.Common.{ℕ, ◌≤◌, ◌↔◌, Bool, not, List, map, Some, ap, subst, Contains, filter}
use Rattle.quilt_types.specs.Layers.{Points, PointMap, IsLayer}
use Rattle.quilt_types.specs.Facts.{Fact, facts}
use Rattle.quilt_record.specs.declared.record.Record.{Record}
use Rattle.quilt_record.specs.Records.{record_of}
use Rattle.quilt_spell.specs.Apart.{Apart}
use Rattle.quilt_spell.specs.Changing.{is_among, records_alone, LeadsTo}
use Rattle.quilt_loc.proofs.Members.{Contains-map, Contains-map_from, Contains-filter, Contains-filter_from}
use Rattle.quilt_spell.proofs.Lists.{Apart-map}
use Rattle.quilt_spell.proofs.facts.SameFacts.{among_from, among_is}
use Rattle.quilt_spell.proofs.Changes.{not_true, not_from}
use Rattle.quilt_spell.proofs.facts.FactKeys.{fact_alone}
use Rattle.quilt_point_laws.specs.Swapping.{Swaps}

module _ (form n : ℕ) (name : List ℕ) (number capacity : ℕ) (le : n ≤ 12) (least : 1 ≤ number) where
  abbrev record_for : Fact → Record
  record_for f = record_of n capacity name number f

  half : (old new : PointMap) (fs : List Fact)
      → ((f : Fact) → Contains fs f ↔ (Contains (facts n (Points capacity old)) f × (Contains (facts n (Points capacity new)) f → ⊥)))
      → (r : Record) → Contains (map record_for fs) r ↔ Contains (records_alone n name number (Some (Points capacity old)) (Some (Points capacity new))) r
  half old new fs are r =
      let here = facts n (Points capacity old) in
      let there = facts n (Points capacity new) in
      let out : Fact → Bool = λ f. not (is_among there f) in (
        λ c.
            let m = Contains-map_from record_for fs r c in
            let w = (are m.0).0 m.1 in
            subst (Contains (map record_for (filter out here))) m.2
            (Contains-map record_for (filter out here) m.0
            (Contains-filter out here m.0 w.0 (not_from (is_among there m.0) (λ t. w.1 (among_from there m.0 t))))),
        λ c.
            let m = Contains-map_from record_for (filter out here) r c in
            let w = Contains-filter_from out here m.0 m.1 in
            subst (Contains (map record_for fs)) m.2
            (Contains-map record_for fs m.0 ((are m.0).1 (w.0, λ k. not_true (is_among there m.0) w.1 (among_is there m.0 k)))),
      )

  once : (points : PointMap) → IsLayer form n (Points capacity points) → (fs : List Fact)
      → ((f : Fact) → Contains fs f → Contains (facts n (Points capacity points)) f) → Apart fs → Apart (map record_for fs)
  once points fits fs are apart =
      Apart-map record_for fs
      (λ f g c d e. fact_alone n le name number least form (Points capacity points) fits f g (are f c) (are g d) (ap (λ (r : Record). r.key) e)) apart

  -- the records of the facts that go and come, each once, are a plan
  pub points_lead : (old new : PointMap) → IsLayer form n (Points capacity old) → IsLayer form n (Points capacity new) → (gone come : List Fact)
      → Swaps (facts n (Points capacity old)) (facts n (Points capacity new)) gone come → Apart gone → Apart come
      → LeadsTo n name number (Some (Points capacity old)) (Some (Points capacity new)) (map record_for gone) (map record_for come)
  points_lead old new fo fn gone come s ag ac = record {
    remove = half old new gone s.goes;
    remove_once = once old fo gone (λ f c. ((s.goes f).0 c).0) ag;
    add = half new old come s.comes;
    add_once = once new fn come (λ f c. ((s.comes f).0 c).0) ac;
  }
