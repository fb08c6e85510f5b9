-- A copy of a layer: its kind under the new name, and its other records under the new number.
use Rattle.std.proofs.Common.{◌≡◌, ℕ, ◌≤◌, ◌↔◌, true, false, List, [], ◌∷◌, map, Some, None, refl, sym, ◌∙◌, ap, subst, ⊎_elim, arith, Contains, eqb, eqb-true}
use Rattle.std.proofs.Common.{eq-eqb}
use Rattle.std.proofs.lemmas.Bool.{cases_Bool}
use Rattle.quilt_types.specs.Layers.{Layer, IsLayer}
use Rattle.quilt_types.specs.Facts.{Fact, IsOfKind, HasColour, HoldsPoint, HoldsNoPoint, IsSegment, IsMetBy, IsMetByNone}
use Rattle.quilt_record.specs.declared.record.Record.{Record}
use Rattle.quilt_record.specs.Records.{capacity_of, record_of}
use Rattle.quilt_spell.specs.Apart.{Apart}
use Rattle.quilt_spell.specs.Written.{layer_records}
use Rattle.quilt_spell.specs.Changing.{LeadsTo}
use Rattle.quilt_spell.specs.OfLayer.{kind_fact, kind_record}
use Rattle.quilt_spell.specs.Copying.{renumbered}
use Rattle.quilt_loc.proofs.Members.{Contains-here, Contains-there, Contains-cons_cases, Contains-map, Contains-map_from}
use Rattle.quilt_spell.proofs.Lists.{Apart-map}
use Rattle.quilt_spell.proofs.Written.{layer_record, layer_record_from}
use Rattle.quilt_spell.proofs.OfLayer.{kind_there, kind_only}
use Rattle.quilt_spell.proofs.facts.OneMap.{kind_layer}
use Rattle.quilt_spell.proofs.Commands.{fresh_leads}

-- what tells of no kind stands under the layer's number, and nothing else of it tells name or number
pub moved_is : (n c j k : ℕ) (a b : List ℕ) (f : Fact) → ((record_of n c a k f).key.layer ≡ 0 → ⊥)
    → (record_of n c b j f ≡ renumbered j (record_of n c a k f)) × ((record_of n c a k f).key.layer ≡ k)
moved_is n c j k a b (IsOfKind x y) h = absurd (h refl)
moved_is n c j k a b (HasColour x y) h = (refl, refl)
moved_is n c j k a b (HoldsPoint x y z) h = (refl, refl)
moved_is n c j k a b (HoldsNoPoint x) h = (refl, refl)
moved_is n c j k a b (IsSegment x y) h = (refl, refl)
moved_is n c j k a b (IsMetBy x y) h = (refl, refl)
moved_is n c j k a b (IsMetByNone x) h = (refl, refl)

moved_alone : (j k : ℕ) (r s : Record) → r.key.layer ≡ k → s.key.layer ≡ k → renumbered j r ≡ renumbered j s → r ≡ s
moved_alone j k r s a b e =
    let layer : r.key.layer ≡ s.key.layer = a ∙ sym b in
    let part : r.key.part ≡ s.key.part = ap (λ (q : Record). q.key.part) e in
    let code : r.key.code ≡ s.key.code = ap (λ (q : Record). q.key.code) e in
    let depth : r.key.depth ≡ s.key.depth = ap (λ (q : Record). q.key.depth) e in
    let item : r.key.item ≡ s.key.item = ap (λ (q : Record). q.key.item) e in
    let value : r.value ≡ s.value = ap (λ (q : Record). q.value) e in
    λ i. record { key = record { layer = layer i; part = part i; code = code i; depth = depth i; item = item i }; value = value i }

module _ (form n : ℕ) (l : Layer) (fits : IsLayer form n l) (a b : List ℕ) (k j : ℕ) (least : 1 ≤ k) (other : 1 ≤ j) (rest : List Record) (once : Apart rest)
    (are : (r : Record) → Contains rest r ↔ (Contains (layer_records n a k l) r × (r.key.layer ≡ k))) where
  copied : List Record
  copied = kind_record n b j l ∷ map (renumbered j) rest

  copied_from : (r : Record) → Contains copied r → Contains (layer_records n b j l) r
  unfolding copied
  copied_from r c =
      ⊎_elim
      (λ e. subst (Contains (layer_records n b j l)) e (layer_record n b j l (kind_fact l) (kind_there n l)))
      (λ d.
      let m = Contains-map_from (renumbered j) rest r d in
      let w = (are m.0).0 m.1 in
      let f = layer_record_from n a k l m.0 w.0 in
      let is = moved_is n (capacity_of l) j k a b f.0 (λ z. let zero' : 0 ≡ k = sym z ∙ ap (λ (q : Record). q.key.layer) f.2 ∙ w.1 in omega arith) in
      subst (Contains (layer_records n b j l)) (is.0 ∙ ap (renumbered j) f.2 ∙ m.2) (layer_record n b j l f.0 f.1))
      (Contains-cons_cases (kind_record n b j l) (map (renumbered j) rest) r c)

  copied_all : (r : Record) → Contains (layer_records n b j l) r → Contains copied r
  unfolding copied
  copied_all r c =
      let f = layer_record_from n b j l r c in
      let old = record_of n (capacity_of l) a k f.0 in
      ⊎_elim
      (λ t.
      let kind = kind_only form n l (capacity_of l) k a f.0 fits least f.1 (eqb-true old.key.layer 0 t) in
      subst (Contains (kind_record n b j l ∷ map (renumbered j) rest)) (ap (record_of n (capacity_of l) b j) (sym kind) ∙ f.2)
      (Contains-here (kind_record n b j l) (map (renumbered j) rest)))
      (λ no.
      let is = moved_is n (capacity_of l) j k a b f.0 (λ z. let t = eq-eqb old.key.layer 0 z in let w : true ≡ false = sym t ∙ no in cc) in
      let there = (are old).1 (layer_record n a k l f.0 f.1, is.1) in
      subst (Contains (kind_record n b j l ∷ map (renumbered j) rest)) (sym is.0 ∙ f.2)
      (Contains-there (kind_record n b j l) (map (renumbered j) rest) (renumbered j old) (Contains-map (renumbered j) rest old there)))
      (cases_Bool (eqb old.key.layer 0))

  -- the plan of a copy
  pub copy_leads : LeadsTo n b j None (Some l) [] (kind_record n b j l ∷ map (renumbered j) rest)
  unfolding copied
  copy_leads =
      fresh_leads n b j l (kind_record n b j l ∷ map (renumbered j) rest) (λ r. (copied_from r, copied_all r)) (
        λ c.
            let m = Contains-map_from (renumbered j) rest (kind_record n b j l) c in
            let z : 0 ≡ j = sym (kind_layer n b j l) ∙ ap (λ (q : Record). q.key.layer) (sym m.2) in
            omega arith,
        Apart-map (renumbered j) rest (λ r s c d e. moved_alone j k r s ((are r).0 c).1 ((are s).0 d).1 e) once,
      )
