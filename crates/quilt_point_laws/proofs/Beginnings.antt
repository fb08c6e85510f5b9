-- A point layer that begins with no points: the facts on it are its kind and that its one block, the whole square, holds none.
use Rattle.std.proofs.Common.{◌≡◌, ℕ, ◌^◌, ◌≤◌, true, nat_le, List, [], ◌∷◌, length, count_by, Some, None, refl, sym, ◌∙◌, ap, subst, arith, ⊎_elim}
use Rattle.std.proofs.Common.{Contains, le-leb}
use Rattle.std.specs.FinMap as finmap
use Rattle.std.proofs.lemmas.Bool.{cases_lt}
use Rattle.quilt_types.specs.declared.plane.Block.{Block}
use Rattle.quilt_types.specs.declared.plane.Pixel.{Pixel}
use Rattle.quilt_types.specs.Plane.{in_block, pixel_cmp, parent_of, whole}
use Rattle.quilt_types.specs.Layers.{Points, PointMap}
use Rattle.quilt_types.specs.Quadtrees.{holds_few}
use Rattle.quilt_types.specs.Facts.{Fact, IsOfKind, HoldsPoint, HoldsNoPoint, facts}
use Rattle.quilt_loc.proofs.Members.{Contains-nil, Contains-here, Contains-there, Contains-cons_cases}
use Rattle.quilt_loc.proofs.PlaneOrders.{pixel_total}
use Rattle.quilt_loc.proofs.Quartered.{IsBlock-whole, side_le, whole_is}
use Rattle.quilt_record.specs.declared.record.Record.{Record}
use Rattle.quilt_record.specs.Records.{record_of}
use Rattle.quilt_spell.specs.Apart.{Apart, SameMembers}
use Rattle.quilt_spell.specs.Written.{layer_records}
use Rattle.quilt_spell.proofs.Commands.{fresh_leads}
use Rattle.quilt_spell.proofs.facts.FactKeys.{pixel_same}
use Rattle.quilt_spell.proofs.Maps.{get_from_entry}
use Rattle.quilt_spell.proofs.Written.{layer_record, layer_record_from}
use Rattle.quilt_blocks.proofs.Maximal.{IsMaximal}
use Rattle.quilt_point_laws.specs.Laws.{BeginLaw}
use Rattle.quilt_point_laws.proofs.OnBlocks.{IsOn, OfBlock, fact_from, fact_is, kind_is}

-- no points at all
abbrev bare : PointMap
bare = finmap.empty

no_point : (e : Pixel × ℕ) → Contains (finmap.entries bare) e → ⊥
no_point e c = let z : None ≡ Some e.1 = sym (finmap.get-empty pixel_cmp e.0) ∙ get_from_entry pixel_cmp pixel_total pixel_same bare e c in cc

no_entry : (es : List (Pixel × ℕ)) → length es ≡ 0 → es ≡ []
no_entry [] z = refl
no_entry (e ∷ es) z = absurd (omega arith)

module _ (n capacity : ℕ) where
  bare_few : (b : Block) → holds_few capacity bare b ≡ true
  bare_few b =
      let none : length (finmap.entries bare) ≡ 0 = sym (finmap.len-entries bare) ∙ finmap.len-empty pixel_cmp ℕ in
      ap (λ (es : List (Pixel × ℕ)). nat_le (count_by (λ e. in_block b e.0) es) capacity) (no_entry (finmap.entries bare) none)
      ∙ le-leb 0 capacity (omega arith)

  -- the only block is the whole square
  only_whole : (b : Block) → IsMaximal n (holds_few capacity bare) b → b ≡ whole n
  only_whole b g =
      ⊎_elim (λ lt. absurd (g.last lt (bare_few (parent_of b)))) (λ ge. let most = side_le n b g.block in whole_is n b g.block (omega arith))
      (cases_lt b.side (2 ^ n))

  whole_block : IsMaximal n (holds_few capacity bare) (whole n)
  whole_block = record { block = IsBlock-whole n; passes = bare_few (whole n); last = λ lt u. omega arith }

  bare_fact : (f : Fact) → OfBlock n capacity bare f → f ≡ HoldsNoPoint (whole n)
  bare_fact f w = by_kind f w.on
    where
      by_kind : (f : Fact) → IsOn bare w.block f → f ≡ HoldsNoPoint (whole n)
      by_kind (HoldsPoint d q k) o = absurd (no_point (q, k) o.1)
      by_kind (HoldsNoPoint d) o = ap HoldsNoPoint (o.0 ∙ only_whole w.block w.maximal)
      by_kind f o = absurd o

  there : Contains (facts n (Points capacity bare)) (HoldsNoPoint (whole n))
  there = fact_is n capacity bare (HoldsNoPoint (whole n)) (record { block = whole n; maximal = whole_block; on = (refl, λ q k m t. no_point (q, k) m) })

  module _ (name : List ℕ) (number : ℕ) where
    abbrev record_for : Fact → Record
    record_for f = record_of n capacity name number f

    members : SameMembers (record_for (IsOfKind 2 capacity) ∷ record_for (HoldsNoPoint (whole n)) ∷ []) (layer_records n name number (Points capacity bare))
    members r =
        let layer = Points capacity bare in
        let first = record_for (IsOfKind 2 capacity) in
        let second = record_for (HoldsNoPoint (whole n)) in (
          λ c.
              ⊎_elim (λ e. subst (Contains (layer_records n name number layer)) e
              (layer_record n name number layer (IsOfKind 2 capacity) (kind_is n capacity bare (IsOfKind 2 capacity) refl)))
              (λ d.
              ⊎_elim (λ e. subst (Contains (layer_records n name number layer)) e (layer_record n name number layer (HoldsNoPoint (whole n)) there))
              (λ z. absurd (Contains-nil r z)) (Contains-cons_cases second [] r d)) (Contains-cons_cases first (second ∷ []) r c),
          λ c.
              let f = layer_record_from n name number layer r c in
              ⊎_elim (λ e. subst (Contains (first ∷ second ∷ [])) (sym (ap record_for e) ∙ f.2) (Contains-here first (second ∷ [])))
              (λ w. subst (Contains (first ∷ second ∷ [])) (sym (ap record_for (bare_fact f.0 w)) ∙ f.2)
              (Contains-there first (second ∷ []) second (Contains-here second [])))
              (fact_from n capacity bare f.0 f.1),
        )

    once : 1 ≤ number → Apart (record_for (IsOfKind 2 capacity) ∷ record_for (HoldsNoPoint (whole n)) ∷ [])
    once some =
        let second = record_for (HoldsNoPoint (whole n)) in (
          λ c. ⊎_elim (λ e. let z : number ≡ 0 = ap (λ (r : Record). r.key.layer) e in absurd (omega arith))
              (λ z. absurd (Contains-nil (record_for (IsOfKind 2 capacity)) z)) (Contains-cons_cases second [] (record_for (IsOfKind 2 capacity)) c),
          (λ c. Contains-nil second c, tt),
        )

pub begin_law : BeginLaw
begin_law n name number capacity some =
    fresh_leads n name number (Points capacity bare) (record_of n capacity name number (IsOfKind 2 capacity)
    ∷ record_of n capacity name number (HoldsNoPoint (whole n)) ∷ []) (members n capacity name number) (once n capacity name number some)
