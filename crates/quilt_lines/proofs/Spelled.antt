-- A list that spells a map spells each of its line layers.
use Rattle.std.proofs.Common.{◌≡◌, ℕ, List, map, refl, sym, ◌∙◌, ap, subst, ⊎_elim, arith, Contains, eqb, ne_eqb}
use Rattle.std.proofs.lemmas.Bool.{cond-false}
use Rattle.quilt_types.specs.Layers.{Lines, SegMap, BlockSet}
use Rattle.quilt_types.specs.Facts.{Fact, IsOfKind, HasColour, HoldsPoint, HoldsNoPoint, IsSegment, IsMetBy, IsMetByNone}
use Rattle.quilt_loc.proofs.Members.{Contains-there, Contains-cons_cases, Contains-map}
use Rattle.quilt_record.specs.declared.record.Record.{Record}
use Rattle.quilt_record.specs.Records.{record_of}
use Rattle.quilt_spell.specs.Written.{number_of, number_in}
use Rattle.quilt_spell.proofs.OfLayer.{layer_spelled}
use Rattle.quilt_spell.proofs.Written.{layer_record_from, number_fits, layer_fits}
use Rattle.quilt_lines.specs.Layers.{shown_facts, fact_record}
use Rattle.quilt_lines.specs.Laws.{LinesLaw}
use Rattle.quilt_lines.proofs.Shown.{shown_says, no_kind}

-- the record of a fact but that of the kind does not depend on the layer's name
nameless : (n layer t : ℕ) (segs : SegMap) (cover : BlockSet) (name : List ℕ) (f : Fact) → Contains (shown_facts segs cover) f
    → record_of n 0 name layer f ≡ fact_record n layer f
nameless n layer t segs cover name (IsSegment id s) c = refl
nameless n layer t segs cover name (IsMetBy b id) c = refl
nameless n layer t segs cover name (IsMetByNone b) c = refl
nameless n layer t segs cover name (HasColour b colour) c = absurd (shown_says n layer t segs cover (HasColour b colour) c)
nameless n layer t segs cover name (HoldsPoint b p label) c = absurd (shown_says n layer t segs cover (HoldsPoint b p label) c)
nameless n layer t segs cover name (HoldsNoPoint b) c = absurd (shown_says n layer t segs cover (HoldsNoPoint b) c)
nameless n layer t segs cover name (IsOfKind kind number) c = absurd (no_kind segs cover kind number c)

pub lines_law : LinesLaw
lines_law form n numbers rs layers name t segs cover le s at told tree is =
    let k = number_of numbers name in
    let l = layer_spelled form n numbers rs layers le s name (Lines t segs cover) at in
    let least = (number_fits layers numbers s.numbering name (Lines t segs cover) at).0 in
    let others = shown_facts segs cover in
    record {
      records = rs;
      is_tree = is;
      spelled = record {
        valid = layer_fits form n numbers layers le s.map s.numbering name (Lines t segs cover) at;
        each = λ f c. subst (Contains rs) (nameless n k t segs cover name f c) (l.each f (Contains-there (IsOfKind 3 t) others f c));
        only = λ r c e.
            let number : number_in r.key ≡ k = cond-false (eqb r.key.layer 0) r.key.item r.key.layer (ne_eqb r.key.layer 0 (λ z. absurd (omega arith))) ∙ e in
            let m = layer_record_from n name k (Lines t segs cover) r (l.only r c number) in
            ⊎_elim
            (λ kind. let zero' : 0 ≡ k = ap (λ (f : Fact). (record_of n 0 name k f).key.layer) kind ∙ ap (λ (q : Record). q.key.layer) m.2 ∙ e in
            absurd (omega arith))
            (λ d. subst (Contains (map (fact_record n k) others)) (sym (nameless n k t segs cover name m.0 d) ∙ m.2)
            (Contains-map (fact_record n k) others m.0 d))
            (Contains-cons_cases (IsOfKind 3 t) others m.0 m.1);
      };
    }
