-- A line layer that begins: the record of the catalog and that of the whole square.
use Rattle.std.proofs.Common.{◌≡◌, ℕ, ◌≤◌, List, [], ◌∷◌, Option, Some, None, refl, sym}
use Rattle.std.proofs.Common.{◌∙◌, ap, subst, ◌⊎◌, inl, inr, ⊎_elim, arith, Contains, Less, true≢false}
use Rattle.std.specs.Option.{is_some}
use Rattle.std.specs.FinMap as finmap
use Rattle.std.specs.Ordering.{nat_cmp}
use Rattle.quilt_types.specs.Sets as finset
use Rattle.quilt_types.specs.declared.plane.Block.{Block}
use Rattle.quilt_types.specs.declared.plane.Seg.{Seg}
use Rattle.quilt_types.specs.Plane.{whole, block_cmp}
use Rattle.quilt_types.specs.Layers.{Layer, Lines, SegMap}
use Rattle.quilt_types.specs.Facts.{Fact, IsOfKind, HasColour, HoldsPoint, HoldsNoPoint, IsSegment, IsMetBy, IsMetByNone}
use Rattle.quilt_loc.specs.Codes.{Rises}
use Rattle.quilt_loc.proofs.Members.{Contains-nil, Contains-here, Contains-there, Contains-cons_cases}
use Rattle.quilt_loc.proofs.PlaneOrders.{block_total}
use Rattle.quilt_record.specs.declared.record.Record.{Record}
use Rattle.quilt_record.specs.Canonical.{IsRecordOf, pair_fact}
use Rattle.quilt_record.specs.Records.{record_of}
use Rattle.quilt_spell.specs.Apart.{Apart, SameMembers}
use Rattle.quilt_spell.specs.Changing.{LeadsTo}
use Rattle.quilt_spell.specs.Written.{by_key, layer_records}
use Rattle.quilt_spell.proofs.Commands.{fresh_leads}
use Rattle.quilt_spell.proofs.facts.FactKeys.{block_same}
use Rattle.quilt_spell.proofs.Written.{layer_record, layer_record_from}
use Rattle.quilt_edits.proofs.Ascents.{rises_ascend}
use Rattle.quilt_edits.proofs.Keys.{less_layer}
use Rattle.quilt_line_laws.specs.Lines.{IsMet, IsLineFact}
use Rattle.quilt_line_laws.proofs.Adding.{no_seg}
use Rattle.quilt_line_laws.proofs.LineFacts.{says, said}
use Rattle.quilt_line_laws.proofs.SetLaws.{contains_is, items-insert}
use Rattle.quilt_lines.specs.Plans.{one_block, IsLineBeginning}

-- no segments at all
abbrev bare : SegMap
bare = finmap.empty

no_met : (b : Block) (id : ℕ) → IsMet bare b id → ⊥
no_met b id m = no_seg m.0 (sym (finmap.get-empty {X = Seg} nat_cmp id) ∙ m.1)

no_items : (b : Block) → Contains (finset.items {R = block_cmp} finset.empty) b → ⊥
no_items b c =
    let t = (contains_is block_total block_same finset.empty b).1 c in
    true≢false (sym t ∙ ap (λ (o : Option (Unit {0})). is_some o) (finmap.get-empty {X = Unit {0}} block_cmp b))

only_whole : (n : ℕ) (b : Block) → Contains (finset.items (one_block n)) b → b ≡ whole n
only_whole n b c = ⊎_elim (λ e. e) (λ d. absurd (no_items b d)) ((items-insert block_total block_same finset.empty (whole n) b).0 c)

there : (n : ℕ) → Contains (finset.items (one_block n)) (whole n)
there n = (items-insert block_total block_same finset.empty (whole n) (whole n)).1 (inl refl)

module _ (n t : ℕ) where
  bare_fact : (f : Fact) → IsLineFact t bare (one_block n) f → (IsOfKind 3 t ≡ f) ⊎ (IsMetByNone (whole n) ≡ f)
  bare_fact (IsOfKind kind number) h = inl (λ i. IsOfKind (sym h.0 i) (sym h.1 i))
  bare_fact (IsSegment id s) h = absurd (no_seg s (sym (finmap.get-empty {X = Seg} nat_cmp id) ∙ h))
  bare_fact (IsMetBy b id) h = absurd (no_met b id h.1)
  bare_fact (IsMetByNone b) h = inr (ap IsMetByNone (sym (only_whole n b h.0)))
  bare_fact (HasColour b colour) h = absurd h
  bare_fact (HoldsPoint b p label) h = absurd h
  bare_fact (HoldsNoPoint b) h = absurd h

  module _ (name : List ℕ) (number : ℕ) where
    abbrev layer : Layer
    layer = Lines t bare (one_block n)

    abbrev first : Record
    first = record_of n 0 name number (IsOfKind 3 t)

    abbrev second : Record
    second = record_of n 0 name number (IsMetByNone (whole n))

    members : SameMembers (first ∷ second ∷ []) (layer_records n name number layer)
    members r = (
      λ c.
          ⊎_elim (λ e. subst (Contains (layer_records n name number layer)) e
          (layer_record n name number layer (IsOfKind 3 t) (said n t bare (one_block n) (IsOfKind 3 t) (refl, refl))))
          (λ d.
          ⊎_elim (λ e. subst (Contains (layer_records n name number layer)) e
          (layer_record n name number layer (IsMetByNone (whole n))
          (said n t bare (one_block n) (IsMetByNone (whole n)) (there n, λ id m. no_met (whole n) id m))))
          (λ z. absurd (Contains-nil r z)) (Contains-cons_cases second [] r d)) (Contains-cons_cases first (second ∷ []) r c),
      λ c.
          let f = layer_record_from n name number layer r c in
          ⊎_elim (λ e. subst (Contains (first ∷ second ∷ [])) (ap (record_of n 0 name number) e ∙ f.2) (Contains-here first (second ∷ [])))
          (λ e. subst (Contains (first ∷ second ∷ [])) (ap (record_of n 0 name number) e ∙ f.2)
          (Contains-there first (second ∷ []) second (Contains-here second [])))
          (bare_fact f.0 (says n t bare (one_block n) f.0 f.1)),
    )

    once : 1 ≤ number → Apart (first ∷ second ∷ [])
    once some = (
      λ c. ⊎_elim (λ e. let z : number ≡ 0 = ap (λ (r : Record). r.key.layer) e in absurd (omega arith)) (λ z. absurd (Contains-nil first z))
          (Contains-cons_cases second [] first c),
      (λ c. Contains-nil second c, tt),
    )

    line_begins : 1 ≤ number → LeadsTo n name number None (Some (Lines t bare (one_block n))) [] (first ∷ second ∷ [])
    line_begins some = fresh_leads n name number layer (first ∷ second ∷ []) members (once some)

pub begins : (n number t : ℕ) (b : Block) (r : Record) → b ≡ whole n → 1 ≤ number → IsRecordOf n 0 r number (pair_fact b None) → IsLineBeginning n number t r
begins n number t b r square least is = record {
  leads = λ name head kind.
      let second : r ≡ record_of n 0 name number (IsMetByNone (whole n)) = is.written name
      ∙ ap (λ (c : Block). record_of n 0 name number (IsMetByNone c)) square in
      subst (λ (z : Record). LeadsTo n name number None (Some (Lines t bare (one_block n))) [] (z ∷ r ∷ [])) (sym (kind n 0))
      (subst (λ (z : Record). LeadsTo n name number None (Some (Lines t bare (one_block n))) [] (record_of n 0 name number (IsOfKind 3 t) ∷ z ∷ []))
      (sym second) (line_begins n t name number least));
  ascend = λ name head kind.
      let low = ap (λ (z : Record). z.key.layer) (kind n 0) in
      let high = ap (λ (z : Record). z.key.layer) (is.written name) in
      let up : Rises by_key (head ∷ r ∷ []) = (
        λ z c. ⊎_elim (λ e. subst (λ (y : Record). by_key head y ≡ Less) e (less_layer head.key r.key (omega arith))) (λ d. absurd (Contains-nil z d))
            (Contains-cons_cases r [] z c),
        (λ z c. absurd (Contains-nil z c), tt),
      ) in
      rises_ascend (head ∷ r ∷ []) up;
}
