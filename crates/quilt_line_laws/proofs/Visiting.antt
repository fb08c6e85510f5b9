-- The descent to the blocks that a segment meets finds those of the set, each once.
use Rattle.std.proofs.Common.{◌≡◌, ◌↔◌, ℕ, Bool, true, false, cond, not, ◌&&◌, List, [], ◌∷◌, flat_map, refl, sym, subst, ⊎_elim, arith, Contains}
use Rattle.std.proofs.lemmas.Bool.{and_parts, and_from, cases_Bool, both_ways, not-true, not_from_false}
use Rattle.quilt_types.specs.Sets as finset
use Rattle.quilt_types.specs.declared.plane.Block.{Block}
use Rattle.quilt_types.specs.declared.plane.Seg.{Seg}
use Rattle.quilt_types.specs.Plane.{side, quarters_of, whole, IsBlock, Within}
use Rattle.quilt_types.specs.Layers.{SegMap, BlockSet}
use Rattle.quilt_types.specs.Segments.{square, meets}
use Rattle.quilt_spell.specs.Apart.{Apart}
use Rattle.quilt_loc.proofs.Members.{Contains-nil, Contains-here}
use Rattle.quilt_loc.proofs.Nesting.{side_pos}
use Rattle.quilt_loc.proofs.Quartered.{IsBlock-whole, Within-whole}
use Rattle.quilt_blocks.proofs.Maximal.{Within-self}
use Rattle.quilt_loc.proofs.PlaneOrders.{block_total}
use Rattle.quilt_spell.proofs.facts.FactKeys.{block_same}
use Rattle.quilt_line_laws.proofs.SetLaws.{contains_is}
use Rattle.quilt_line_laws.proofs.Merges.{IsBlockCover}
use Rattle.quilt_line_laws.specs.Merging.{met_in, VisitLaw}
use Rattle.quilt_line_laws.proofs.Meeting.{meets_within}
use Rattle.quilt_line_laws.proofs.Adding.{cover_of}
use Rattle.quilt_line_laws.proofs.Descent.{only, same_size, quarterly, one_old, off, held}
use Rattle.quilt_line_laws.proofs.NoneTwice.{over_quarters, single_apart}

module _ (n t : ℕ) (segs : SegMap) (cover : BlockSet) (s : Seg) (h : IsBlockCover n cover) where
  abbrev Met : Block → Type 0
  Met q = Contains (finset.items cover) q × (meets s (square q) ≡ true)

  none : (q b : Block) → (Within q b → Met q → ⊥) → Contains [] q ↔ (Within q b × Met q)
  none q b away = (λ c. absurd (Contains-nil q c), λ w. absurd (away w.0 w.1))

  here : (b q : Block) → Met b → Contains (b ∷ []) q ↔ (Within q b × Met q)
  here b q m = (
    λ c. subst (λ (z : Block). Within z b × Met z) (only b q c) (Within-self b, m),
    λ w. subst (Contains (b ∷ [])) (sym (one_old n t segs cover s h q b w.1.0 m.0 w.0)) (Contains-here b []),
  )

  met_tiny : (b q : Block) → IsBlock n b → b.side ≡ side 0 → (u : Bool) → (finset.contains cover b && meets s (square b)) ≡ u
      → Contains (cond {A = List Block} u (b ∷ []) []) q ↔ (Within q b × Met q)
  met_tiny b q hb e true eu = let w = and_parts (finset.contains cover b) (meets s (square b)) eu in here b q (held n t segs cover s h b w.0, w.1)
  met_tiny b q hb e false eu =
      none q b
      (λ w m.
      let hq = h.only q m.0 in
      let pos = side_pos n q hq in
      let same = same_size n q b hq hb w (omega arith) in
      both_ways (finset.contains cover b && meets s (square b)) eu
      (and_from (finset.contains cover b) (meets s (square b)) ((contains_is block_total block_same cover b).1 (subst (Contains (finset.items cover)) same m.0))
      (subst (λ (z : Block). meets s (square z) ≡ true) same m.1)))

  met_step : (k : ℕ) (b q : Block) → IsBlock n b → b.side ≡ side (ℕ.suc k)
      → ((r : Block) → IsBlock n r → r.side ≡ side k → Contains (met_in cover s k r) q ↔ (Within q r × Met q))
      → (m u : Bool) → not (meets s (square b)) ≡ m → finset.contains cover b ≡ u
      → Contains (cond {A = List Block} m [] (cond {A = List Block} u (b ∷ []) (flat_map (met_in cover s k) (quarters_of b)))) q ↔ (Within q b × Met q)
  met_step k b q hb e below true u em eu = none q b (λ w x. both_ways (meets s (square b)) (not-true (meets s (square b)) em) (meets_within s q b w x.1))
  met_step k b q hb e below false true em eu =
      here b q (
        held n t segs cover s h b eu,
        ⊎_elim (λ y. y) (λ f. absurd (both_ways (not (meets s (square b))) em (not_from_false (meets s (square b)) f))) (cases_Bool (meets s (square b))),
      )
  met_step k b q hb e below false false em eu =
      quarterly n t segs cover s h k b q (met_in cover s k) Met hb e (λ x. h.only q x.0) (λ x same. off n t segs cover s h b q eu x.0 same)
      (λ r c hr er _. below r hr er)

  met_law : (k : ℕ) (b q : Block) → IsBlock n b → b.side ≡ side k → Contains (met_in cover s k b) q ↔ (Within q b × Met q)
  met_law ℕ.zero b q hb e = met_tiny b q hb e (finset.contains cover b && meets s (square b)) refl
  met_law (ℕ.suc k) b q hb e = met_step k b q hb e (λ r hr er. met_law k r q hr er) (not (meets s (square b))) (finset.contains cover b) refl refl

  tiny_apart : (b : Block) (u : Bool) → Apart (cond {A = List Block} u (b ∷ []) [])
  tiny_apart b true = single_apart b
  tiny_apart b false = tt

  apart_step : (k : ℕ) (b : Block) → IsBlock n b → b.side ≡ side (ℕ.suc k) → ((r : Block) → IsBlock n r → r.side ≡ side k → Apart (met_in cover s k r))
      → (m u : Bool) → Apart (cond {A = List Block} m [] (cond {A = List Block} u (b ∷ []) (flat_map (met_in cover s k) (quarters_of b))))
  apart_step k b hb e below true u = tt
  apart_step k b hb e below false true = single_apart b
  apart_step k b hb e below false false =
      over_quarters n t segs s k b (met_in cover s k) hb e (λ r c hr er _. (below r hr er, λ q m. let w = (met_law k r q hr er).0 m in (h.only q w.1.0, w.0)))

  apart_law : (k : ℕ) (b : Block) → IsBlock n b → b.side ≡ side k → Apart (met_in cover s k b)
  apart_law ℕ.zero b hb e = tiny_apart b (finset.contains cover b && meets s (square b))
  apart_law (ℕ.suc k) b hb e = apart_step k b hb e (λ r hr er. apart_law k r hr er) (not (meets s (square b))) (finset.contains cover b)

pub visit_law : VisitLaw
visit_law n t segs cover s valid =
    let h = cover_of n t segs cover valid in
    record {
      are = λ q. let w = met_law n t segs cover s h n (whole n) q (IsBlock-whole n) refl in (λ c. (w.0 c).1, λ m. w.1 (Within-whole n q (h.only q m.0), m));
      once = apart_law n t segs cover s h n (whole n) (IsBlock-whole n) refl;
    }
