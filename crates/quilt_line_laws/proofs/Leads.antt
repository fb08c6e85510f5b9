-- From facts to records: a list of the facts that one layer alone has, each once, gives a plan.
use Rattle.std.proofs.Common.{◌↔◌, ℕ, ◌≤◌, Bool, not, List, map, filter, Some, ap, subst, Contains}
use Rattle.std.specs.FinMap as finmap
use Rattle.quilt_types.specs.Plane.{whole}
use Rattle.quilt_types.specs.Layers.{Layer, Lines, IsLayer}
use Rattle.quilt_types.specs.Facts.{Fact, facts}
use Rattle.quilt_record.specs.declared.record.Record.{Record}
use Rattle.quilt_record.specs.Records.{capacity_of, record_of}
use Rattle.quilt_spell.specs.Apart.{Apart, SameMembers}
use Rattle.quilt_spell.specs.Changing.{is_among, records_alone, LeadsTo}
use Rattle.quilt_loc.proofs.Members.{Contains-map, Contains-map_from, Contains-filter, Contains-filter_from}
use Rattle.quilt_spell.proofs.Lists as lists
use Rattle.quilt_spell.proofs.facts.SameFacts.{among_from, among_is}
use Rattle.quilt_spell.proofs.Changes.{not_true, not_from}
use Rattle.quilt_spell.proofs.facts.FactKeys.{fact_alone}
use Rattle.quilt_line_laws.specs.Lines.{IsAlone, facts_added, facts_removed, with_seg}
use Rattle.quilt_line_laws.specs.Merging.{coming_in, going_in, staying_in}
use Rattle.quilt_line_laws.specs.Removing.{without_seg, facts_back, facts_gone}
use Rattle.quilt_line_laws.proofs.Adding.{add_law}
use Rattle.quilt_line_laws.proofs.Removing.{remove_law}
use Rattle.quilt_line_laws.proofs.FactsOnce.{add_once_law, remove_once_law}
use Rattle.quilt_line_laws.proofs.Lawful.{added_law, removed_law}
use Rattle.quilt_line_laws.specs.Leads.{AddLeads, RemoveLeads}

module _ (form n : ℕ) (name : List ℕ) (number : ℕ) (le : n ≤ 12) (least : 1 ≤ number) (a b : Layer) (ha : IsLayer form n a) where
  abbrev rec : Fact → Record
  rec f = record_of n (capacity_of a) name number f

  test : Fact → Bool
  test f = not (is_among (facts n b) f)

  half : (fs : List Fact) → ((f : Fact) → Contains fs f ↔ IsAlone (facts n a) (facts n b) f)
      → SameMembers (map rec fs) (records_alone n name number (Some a) (Some b))
  unfolding test
  half fs are r = (
    λ c.
        let f = Contains-map_from rec fs r c in
        let w = (are f.0).0 f.1 in
        subst (Contains (records_alone n name number (Some a) (Some b))) f.2
        (Contains-map rec (filter test (facts n a)) f.0
        (Contains-filter test (facts n a) f.0 w.0 (not_from (is_among (facts n b) f.0) (λ t. w.1 (among_from (facts n b) f.0 t))))),
    λ c.
        let f = Contains-map_from rec (filter test (facts n a)) r c in
        let w = Contains-filter_from test (facts n a) f.0 f.1 in
        subst (Contains (map rec fs)) f.2
        (Contains-map rec fs f.0 ((are f.0).1 (w.0, λ k. not_true (is_among (facts n b) f.0) w.1 (among_is (facts n b) f.0 k)))),
  )

  once : (fs : List Fact) → ((f : Fact) → Contains fs f ↔ IsAlone (facts n a) (facts n b) f) → Apart fs → Apart (map rec fs)
  once fs are apart =
      lists.Apart-map rec fs
      (λ f g cf cg same. fact_alone n le name number least form a ha f g ((are f).0 cf).0 ((are g).0 cg).0 (ap (λ (r : Record). r.key) same)) apart

-- the facts that one layer alone has, each once, and those of the other, as records
pub plan_leads : (form n : ℕ) (name : List ℕ) (number : ℕ) → n ≤ 12 → 1 ≤ number → (a b : Layer) → IsLayer form n a → IsLayer form n b → (gone come : List Fact)
    → ((f : Fact) → Contains gone f ↔ IsAlone (facts n a) (facts n b) f) → Apart gone
    → ((f : Fact) → Contains come f ↔ IsAlone (facts n b) (facts n a) f) → Apart come
    → LeadsTo n name number (Some a) (Some b) (map (record_of n (capacity_of a) name number) gone) (map (record_of n (capacity_of b) name number) come)
plan_leads form n name number le least a b ha hb gone come g og c oc = record {
  remove = half form n name number le least a b ha gone g;
  remove_once = once form n name number le least a b ha gone g og;
  add = half form n name number le least b a hb come c;
  add_once = once form n name number le least b a hb come c oc;
}

pub add_leads : AddLeads
add_leads n t name number segs cover id s met le least h new list small inside =
    let apart = add_once_law n t segs cover id s met h new list in
    plan_leads 1 n name number le least (Lines t segs cover) (with_seg t segs cover id s) h (added_law n t segs cover id s h small inside)
    (facts_removed t segs id s met) (facts_added t segs id s met) (λ f. (add_law n t segs cover id s met h new list f).1) apart.1
    (λ f. (add_law n t segs cover id s met h new list f).0) apart.0

pub remove_leads : RemoveLeads
remove_leads n t name number segs cover id s le least h had =
    let now = finmap.remove segs id in
    let st = staying_in t now cover s n (whole n) in
    let apart = remove_once_law n t segs cover id s h had in
    plan_leads 1 n name number le least (Lines t segs cover) (without_seg n t segs cover id s) h (removed_law n t segs cover id s h)
    (facts_gone segs id s (going_in t now cover s n (whole n)) st) (facts_back segs id (coming_in t now cover s n (whole n)) st)
    (λ f. (remove_law n t segs cover id s h had f).1) apart.1 (λ f. (remove_law n t segs cover id s h had f).0) apart.0
