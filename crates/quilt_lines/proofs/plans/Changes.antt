-- Facts that one line layer alone has and those that another alone has, as edits of their records.
use Rattle.std.proofs.Common.{◌≡◌, ◌↔◌, ℕ, ◌≤◌, List, [], ◌∷◌, map, Option, Some, refl, sym, ◌∙◌, ap, subst, arith, Contains}
use Rattle.std.specs.List.Sorted.{IsPermutation}
use Rattle.quilt_types.specs.Layers.{Layer, Lines, SegMap, BlockSet, IsLineMap}
use Rattle.quilt_types.specs.Facts.{Fact, IsOfKind, HasColour, HoldsPoint, HoldsNoPoint, IsSegment, IsMetBy, IsMetByNone, facts}
use Rattle.quilt_loc.proofs.Members.{Contains-here, Contains-there, Contains-map_from}
use Rattle.quilt_record.specs.declared.edits.Edits.{Edits}
use Rattle.quilt_record.specs.declared.record.Record.{Record}
use Rattle.quilt_record.specs.Records.{record_of}
use Rattle.quilt_spell.specs.Apart.{Apart}
use Rattle.quilt_spell.specs.Changing.{LeadsTo}
use Rattle.quilt_spell.proofs.facts.FactKeys.{fact_alone}
use Rattle.quilt_spell.proofs.facts.Decoding.{fact_of, facts_fit}
use Rattle.quilt_edits.specs.Edits.{HaveOwnKeys, CanBeEdits}
use Rattle.quilt_edits.proofs.Ascents.{permuted, Apart-permuted}
use Rattle.quilt_line_laws.specs.Lines.{IsLineFact, IsAlone}
use Rattle.quilt_line_laws.proofs.LineFacts.{says, said}
use Rattle.quilt_line_laws.proofs.Leads.{plan_leads}
use Rattle.quilt_lines.specs.Layers.{fact_record}
use Rattle.quilt_lines.specs.Plans.{IsLinePlan}

-- edits may be listed otherwise
leads_permuted : (n : ℕ) (name : List ℕ) (number : ℕ) (old new : Option Layer) (removed added remove add : List Record) → IsPermutation removed remove
    → IsPermutation added add
    → LeadsTo n name number old new removed added → LeadsTo n name number old new remove add
leads_permuted n name number old new removed added remove add pr pa h = record {
  remove = λ r. (λ c. (h.remove r).0 ((permuted removed remove pr r).1 c), λ c. (permuted removed remove pr r).0 ((h.remove r).1 c));
  remove_once = Apart-permuted removed remove pr h.remove_once;
  add = λ r. (λ c. (h.add r).0 ((permuted added add pa r).1 c), λ c. (permuted added add pa r).0 ((h.add r).1 c));
  add_once = Apart-permuted added add pa h.add_once;
}

-- and those that come may be
pub can_permuted : (remove added add : List Record) → IsPermutation added add → CanBeEdits remove added → CanBeEdits remove add
can_permuted remove added add pa h =
    let back = permuted added add pa in record {
      remove_keys = h.remove_keys;
      add_keys = record { once = Apart-permuted added add pa h.add_keys.once; keys = λ r q cr cq e. h.add_keys.keys r q ((back r).1 cr) ((back q).1 cq) e };
      apart = λ r cr ca. h.apart r cr ((back r).1 ca);
    }

same_map : {X Y : Type 0} (f g : X → Y) (xs : List X) → ((x : X) → Contains xs x → f x ≡ g x) → map f xs ≡ map g xs
same_map f g [] h = refl
same_map f g (x ∷ xs) h = λ i. h x (Contains-here x xs) i ∷ same_map f g xs (λ y c. h y (Contains-there x xs y c)) i

-- what the record of a fact on a segment or a block does not depend on, and where it stands
record IsPlain (n layer : ℕ) (f : Fact) : Type 0 where
  nameless : (name : List ℕ) → record_of n 0 name layer f ≡ fact_record n layer f
  part : 1 ≤ (fact_record n layer f).key.part

module _ (n layer t : ℕ) (segs : SegMap) (cover : BlockSet) where
  plain : (f : Fact) → IsLineFact t segs cover f → ((kind number : ℕ) → (kind ≡ 3) × (number ≡ t) → f ≡ IsOfKind kind number → ⊥) → IsPlain n layer f
  plain (IsSegment id s) h other = record { nameless = λ name. refl; part = omega arith }
  plain (IsMetBy b id) h other = record { nameless = λ name. refl; part = omega arith }
  plain (IsMetByNone b) h other = record { nameless = λ name. refl; part = omega arith }
  plain (IsOfKind kind number) h other = absurd (other kind number h refl)
  plain (HasColour b colour) h other = absurd h
  plain (HoldsPoint b p label) h other = absurd h
  plain (HoldsNoPoint b) h other = absurd h

  alone_plain : (osegs : SegMap) (ocover : BlockSet) (f : Fact) → IsAlone (facts n (Lines t segs cover)) (facts n (Lines t osegs ocover)) f → IsPlain n layer f
  alone_plain osegs ocover f h =
      plain f (says n t segs cover f h.0) (λ kind number both e. h.1
      (subst (Contains (facts n (Lines t osegs ocover))) (sym e) (said n t osegs ocover (IsOfKind kind number) both)))

module _ (n layer t : ℕ) (le : n ≤ 12) (least : 1 ≤ layer) (segs later : SegMap) (cover after : BlockSet) (vo : IsLineMap n t segs cover)
    (vn : IsLineMap n t later after) (gone come : List Fact)
    (goes : (f : Fact) → Contains gone f ↔ IsAlone (facts n (Lines t segs cover)) (facts n (Lines t later after)) f) (ag : Apart gone)
    (comes : (f : Fact) → Contains come f ↔ IsAlone (facts n (Lines t later after)) (facts n (Lines t segs cover)) f) (ac : Apart come) where
  gone_plain : (f : Fact) → Contains gone f → IsPlain n layer f
  gone_plain f c = alone_plain n layer t segs cover later after f ((goes f).0 c)

  come_plain : (f : Fact) → Contains come f → IsPlain n layer f
  come_plain f c = alone_plain n layer t later after segs cover f ((comes f).0 c)

  lead : (name : List ℕ) → LeadsTo n name layer (Some (Lines t segs cover)) (Some (Lines t later after)) (map (fact_record n layer) gone)
      (map (fact_record n layer) come)
  lead name =
      subst (λ (rs : List Record). LeadsTo n name layer (Some (Lines t segs cover)) (Some (Lines t later after)) rs (map (fact_record n layer) come))
      (same_map (record_of n 0 name layer) (fact_record n layer) gone (λ f c. (gone_plain f c).nameless name))
      (subst (λ (rs : List Record). LeadsTo n name layer (Some (Lines t segs cover)) (Some (Lines t later after)) (map (record_of n 0 name layer) gone) rs)
      (same_map (record_of n 0 name layer) (fact_record n layer) come (λ f c. (come_plain f c).nameless name))
      (plan_leads 1 n name layer le least (Lines t segs cover) (Lines t later after) vo vn gone come goes ag comes ac))

  own_keys : (mine : SegMap) (blocks : BlockSet) → IsLineMap n t mine blocks → (fs : List Fact)
      → ((f : Fact) → Contains fs f → Contains (facts n (Lines t mine blocks)) f) → Apart (map (fact_record n layer) fs)
      → HaveOwnKeys (map (fact_record n layer) fs)
  own_keys mine blocks v fs of once = record {
    once = once;
    keys = λ r q cr cq e.
        let f = Contains-map_from (fact_record n layer) fs r cr in
        let g = Contains-map_from (fact_record n layer) fs q cq in
        let one = fact_alone n le [] layer least 1 (Lines t mine blocks) v f.0 g.0 (of f.0 f.1) (of g.0 g.1)
        (ap (λ (z : Record). z.key) f.2 ∙ e ∙ ap (λ (z : Record). z.key) (sym g.2)) in
        sym f.2 ∙ ap (fact_record n layer) one ∙ g.2;
  }

  -- the records of these facts can be edits
  pub can : CanBeEdits (map (fact_record n layer) gone) (map (fact_record n layer) come)
  can =
      let l = lead [] in record {
        remove_keys = own_keys segs cover vo gone (λ f c. ((goes f).0 c).0) l.remove_once;
        add_keys = own_keys later after vn come (λ f c. ((comes f).0 c).0) l.add_once;
        apart = λ r cr ca.
            let f = Contains-map_from (fact_record n layer) gone r cr in
            let g = Contains-map_from (fact_record n layer) come r ca in
            let old = ((goes f.0).0 f.1).0 in
            let new = ((comes g.0).0 g.1).0 in
            let same = fact_of n le 0 0 layer [] [] f.0 g.0 (facts_fit n le 1 (Lines t segs cover) vo f.0 old)
            (facts_fit n le 1 (Lines t later after) vn g.0 new) (gone_plain f.0 f.1).part (f.2 ∙ sym g.2) in
            ((goes f.0).0 f.1).1 (subst (Contains (facts n (Lines t later after))) (sym same) new);
      }

  -- and are a plan, in whatever order
  pub plan : (edits : Edits) → IsPermutation (map (fact_record n layer) gone) edits.remove → IsPermutation (map (fact_record n layer) come) edits.add
      → IsLinePlan n layer t segs later cover after edits
  plan edits pr pa = record {
    valid = vn;
    leads = λ name.
        leads_permuted n name layer (Some (Lines t segs cover)) (Some (Lines t later after)) (map (fact_record n layer) gone)
        (map (fact_record n layer) come) edits.remove edits.add pr pa (lead name);
  }
