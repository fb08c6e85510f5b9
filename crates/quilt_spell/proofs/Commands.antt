-- A command from its plan to the new list; how plans are made; what an upgrade and an empty map spell.
use Rattle.std.proofs.Common.{◌≡◌, ℕ, ◌<◌, ◌≤◌, ◌↔◌, Bool, true, not, List, [], ◌∷◌, map, Option, Some, None, refl, sym, ◌∙◌, ap, subst, arith, Contains}
use Rattle.std.proofs.Common.{filter}
use Rattle.std.specs.FinMap as finmap
use Rattle.std.proofs.lemmas.List.Elements.{All-weaker}
use Rattle.quilt_types.specs.declared.plane.Block.{Block}
use Rattle.quilt_types.specs.Layers.{Layer, Region, Points, Lines, Grid, Map, IsLayer, IsGrid}
use Rattle.quilt_types.specs.Facts.{Fact, IsOfKind, HasColour, facts}
use Rattle.quilt_types.specs.Quadtrees.{leaves}
use Rattle.quilt_record.specs.declared.record.Record.{Record}
use Rattle.quilt_record.specs.Records.{Numbering, capacity_of, record_of}
use Rattle.quilt_spell.specs.Apart.{Apart, SameMembers}
use Rattle.quilt_spell.specs.Written.{layer_records}
use Rattle.quilt_spell.specs.Spelled.{SpellsUnder}
use Rattle.quilt_spell.specs.Changing.{with_layer, with_number, is_among, facts_alone, records_alone, IsOne, LeadsTo}
use Rattle.quilt_spell.specs.OfLayer.{leaf_record}
use Rattle.quilt_spell.specs.Stepping.{IsStep}
use Rattle.quilt_spell.specs.Applying.{taken, given}
use Rattle.quilt_loc.proofs.Members.{Contains-here, Contains-there, Contains-map, Contains-map_from, Contains-filter, Contains-filter_from}
use Rattle.quilt_spell.proofs.Lists.{Apart-map}
use Rattle.quilt_spell.proofs.facts.FactKeys.{fact_alone}
use Rattle.quilt_spell.proofs.facts.FactMembers.{layer_says}
use Rattle.quilt_spell.proofs.Written.{layer_record_from, layer_record}
use Rattle.quilt_spell.proofs.Edits.{record_with_from, alone_from, facts_some}
use Rattle.quilt_spell.proofs.OfLayer.{region_alone_from, region_alone_is}
use Rattle.quilt_spell.proofs.facts.Decoding.{fact_of}
use Rattle.quilt_spell.proofs.Stepping.{step_least, step_there, step_apart, step_spells}
use Rattle.quilt_spell.proofs.Applying.{KeysApart, edits_edited, edits_rise}

keys_apart : (rs : List Record) → Apart rs → ((r s : Record) → Contains rs r → Contains rs s → r.key ≡ s.key → r ≡ s) → KeysApart rs
keys_apart [] h one = tt
keys_apart (r ∷ rs) h one = (
  λ s c e. h.0 (subst (Contains rs) (sym (one r s (Contains-here r rs) (Contains-there r rs s c) e)) c),
  keys_apart rs h.1 (λ s t c d. one s t (Contains-there r rs s c) (Contains-there r rs t d)),
)

-- ---- from a plan to the new list
module _ (form n : ℕ) (numbers : Numbering) (rs : List Record) (layers : Map) (le : n ≤ 12) (s : SpellsUnder form n numbers rs layers)
    (name : List ℕ) (number : ℕ)
    (new : Option Layer) (removed added : List Record) (step : IsStep form n layers numbers name number new removed added) where
  added_alone : (r t : Record) → Contains added r → Contains added t → r.key ≡ t.key → r ≡ t
  added_alone r t c d e =
      let old = finmap.get layers name in
      let a = record_with_from n name number new (facts_alone n new old) r ((step.leads.add r).0 c) in
      let b = record_with_from n name number new (facts_alone n new old) t ((step.leads.add t).0 d) in
      let same : b.value ≡ a.value = some_same b.value a.value (sym b.is ∙ a.is) in
      let fits = subst (IsOne form n) a.is step.fits in
      let in_a = facts_some n new a.value a.fact a.is (alone_from n new old a.fact a.of).0 in
      let in_b = facts_some n new a.value b.fact a.is (alone_from n new old b.fact b.of).0 in
      let written = ap (λ (l : Layer). record_of n (capacity_of l) name number b.fact) (sym same) ∙ b.written in
      let keys = ap (λ (q : Record). q.key) a.written ∙ e ∙ ap (λ (q : Record). q.key) (sym written) in
      let one = fact_alone n le name number (step_least form n numbers rs layers le s name number new removed added step)
      form a.value fits a.fact b.fact in_a in_b keys in
      sym a.written ∙ ap (record_of n (capacity_of a.value) name number) one ∙ written
    where
      some_same : (x y : Layer) → Some x ≡ Some y → x ≡ y
      some_same x y e = cc

  -- the keys of the records to add are none of those that stay, and none of one another
  pub step_keys : KeysApart added
  step_keys = keys_apart added step.leads.add_once added_alone

  -- to take the one out, each in turn, and to put the others in
  pub step_applies : (finmap.get layers name ≡ None → new ≡ None → ⊥)
      → SpellsUnder form n (with_number numbers name number new) (given (taken rs removed) added) (with_layer layers name new)
  step_applies some =
      let there = step_there form n numbers rs layers le s name number new removed added step in
      step_spells form n numbers rs layers le s name number new removed added (given (taken rs removed) added) some step
      (edits_rise rs removed added s.ascending step.leads.remove_once there step_keys
      (step_apart form n numbers rs layers le s name number new removed added step))
      (edits_edited rs removed added s.ascending step.leads.remove_once there)

-- ---- plans
not_among : (f : Fact) → not (is_among [] f) ≡ true
not_among f = refl

module _ (n : ℕ) (name : List ℕ) (number : ℕ) (l : Layer) where
  all_alone : (r : Record) → Contains (layer_records n name number l) r ↔ Contains (records_alone n name number (Some l) None) r
  unfolding layer_records
  all_alone r =
      let test : Fact → Bool = λ f. not (is_among [] f) in (
        λ c.
            let m = layer_record_from n name number l r c in
            subst (Contains (records_alone n name number (Some l) None)) m.2
            (Contains-map (record_of n (capacity_of l) name number) (filter test (facts n l)) m.0 (Contains-filter test (facts n l) m.0 m.1 (not_among m.0))),
        λ c.
            let m = Contains-map_from (record_of n (capacity_of l) name number) (filter test (facts n l)) r c in
            subst (Contains (layer_records n name number l)) m.2 (layer_record n name number l m.0 (Contains-filter_from test (facts n l) m.0 m.1).0),
      )

  -- a layer comes with all its records
  pub fresh_leads : (added : List Record) → SameMembers added (layer_records n name number l) → Apart added → LeadsTo n name number None (Some l) [] added
  fresh_leads added are once = record {
    remove = λ r. (λ c. c, λ c. c);
    remove_once = tt;
    add = λ r. (λ c. (all_alone r).0 ((are r).0 c), λ c. (are r).1 ((all_alone r).1 c));
    add_once = once;
  }

  -- and goes with them
  pub drop_leads : (removed : List Record) → SameMembers removed (layer_records n name number l) → Apart removed
      → LeadsTo n name number (Some l) None removed []
  drop_leads removed are once = record {
    remove = λ r. (λ c. (all_alone r).0 ((are r).0 c), λ c. (are r).1 ((all_alone r).1 c));
    remove_once = once;
    add = λ r. (λ c. c, λ c. c);
    add_once = tt;
  }

-- the leaves that one grid alone has, each once
pub record IsAlone (n : ℕ) (g other : Grid) (es : List (Block × ℕ)) : Type 0 where
  pub once : Apart es
  pub only : (e : Block × ℕ) → Contains es e → Contains (leaves n g) e × (Contains (leaves n other) e → ⊥)
  pub all : (e : Block × ℕ) → Contains (leaves n g) e → (Contains (leaves n other) e → ⊥) → Contains es e

module _ (form n : ℕ) (name : List ℕ) (number : ℕ) (le : n ≤ 12) where
  leaf_block : (g : Grid) → IsGrid form n g → (e : Block × ℕ) → Contains (leaves n g) e → Contains (facts n (Region g)) (HasColour e.0 e.1)
  leaf_block g h e c =
      let fact : Block × ℕ → Fact = λ e. HasColour e.0 e.1 in
      Contains-there (IsOfKind 1 0) (map fact (leaves n g)) (fact e) (Contains-map fact (leaves n g) e c)

  leaf_alone : (g : Grid) → IsGrid form n g → (d e : Block × ℕ) → Contains (leaves n g) d → Contains (leaves n g) e
      → leaf_record n number d ≡ leaf_record n number e → d ≡ e
  leaf_alone g h d e c k same =
      let hd = (layer_says form n (Region g) h (HasColour d.0 d.1) (leaf_block g h d c)).0 in
      let he = (layer_says form n (Region g) h (HasColour e.0 e.1) (leaf_block g h e k)).0 in
      let one = fact_of n le 0 0 number [] [] (HasColour d.0 d.1) (HasColour e.0 e.1) hd he (omega arith) same in
      let x : d.0 ≡ e.0 = cc in
      let y : d.1 ≡ e.1 = cc in
      λ i. (x i, y i)

  half_leads : (g other : Grid) (es : List (Block × ℕ)) → IsAlone n g other es
      → SameMembers (map (leaf_record n number) es) (records_alone n name number (Some (Region g)) (Some (Region other)))
  half_leads g other es h r = (
    λ c.
        let m = Contains-map_from (leaf_record n number) es r c in
        let w = h.only m.0 m.1 in
        subst (Contains (records_alone n name number (Some (Region g)) (Some (Region other)))) m.2 (region_alone_is n name number g other m.0 w.0 w.1),
    λ c.
        let m = region_alone_from n name number g other r c in
        subst (Contains (map (leaf_record n number) es)) m.3 (Contains-map (leaf_record n number) es m.0 (h.all m.0 m.1 m.2)),
  )

  -- a region becomes another grid by the records of the leaves that one of the two alone has
  pub region_leads : (g h : Grid) → IsGrid form n g → IsGrid form n h → (gone come : List (Block × ℕ)) → IsAlone n g h gone → IsAlone n h g come
      → LeadsTo n name number (Some (Region g)) (Some (Region h)) (map (leaf_record n number) gone) (map (leaf_record n number) come)
  region_leads g h hg hh gone come a b = record {
    remove = half_leads g h gone a;
    remove_once = Apart-map (leaf_record n number) gone (λ d e c k same. leaf_alone g hg d e (a.only d c).0 (a.only e k).0 same) a.once;
    add = half_leads h g come b;
    add_once = Apart-map (leaf_record n number) come (λ d e c k same. leaf_alone h hh d e (b.only d c).0 (b.only e k).0 same) b.once;
  }

-- ---- an upgrade leaves the records as they are
layer_up : (n : ℕ) (l : Layer) → IsLayer 1 n l → IsLayer 2 n l
layer_up n (Region g) h = record { size = h.size; colours = All-weaker (λ c. c < 256) (λ c. c < 65536) (λ c lt. omega arith) g h.colours }
layer_up n (Points capacity points) h = let m = h.most in record { least = h.least; most = omega arith; inside = h.inside; labels = h.labels }
layer_up n (Lines threshold segs cover) h = h

pub upgrade_spells : (n : ℕ) (numbers : Numbering) (rs : List Record) (layers : Map) → SpellsUnder 1 n numbers rs layers → SpellsUnder 2 n numbers rs layers
upgrade_spells n numbers rs layers s = record {
  map =
      record {
        few = s.map.few;
        named = s.map.named;
        each = All-weaker (λ (e : List ℕ × Layer). IsLayer 1 n e.1) (λ (e : List ℕ × Layer). IsLayer 2 n e.1) (λ e h. layer_up n e.1 h)
            (finmap.entries layers) s.map.each;
      };
  numbering = s.numbering;
  ascending = s.ascending;
  written = s.written;
}
