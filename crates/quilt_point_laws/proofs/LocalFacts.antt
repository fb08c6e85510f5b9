-- One point more or less in a point layer: which facts go and come, all of them on one block or in it.
use Rattle.std.proofs.Common.{◌≡◌, ℕ, ◌^◌, ◌<◌, ◌≤◌, ◌⊎◌, ◌↔◌, Bool, true, false, cond, List, [], ◌∷◌, length, refl, sym, ◌∙◌, ap, subst, inl, inr, ⊎_elim}
use Rattle.std.proofs.Common.{arith, Contains, filter, eqb, eqb-true, eq-eqb}
use Rattle.std.specs.FinMap as finmap
use Rattle.std.proofs.lemmas.Bool.{both_ways}
use Rattle.std.proofs.lemmas.List.Sums.{length-filter}
use Rattle.quilt_types.specs.declared.plane.Pixel.{Pixel}
use Rattle.quilt_types.specs.declared.plane.Block.{Block}
use Rattle.quilt_types.specs.Plane.{in_block, Holds, Within}
use Rattle.quilt_types.specs.Layers.{Points, PointMap}
use Rattle.quilt_types.specs.Quadtrees.{occupancy, holds_few}
use Rattle.quilt_types.specs.Facts.{Fact, IsOfKind, HoldsPoint, HoldsNoPoint, point_facts, facts}
use Rattle.quilt_blocks.specs.Cutting.{cut}
use Rattle.quilt_point_laws.specs.Swapping.{Swaps}
use Rattle.quilt_point_laws.specs.Local.{room_gone, room_come, full_come}
use Rattle.quilt_loc.proofs.Members.{Contains-here, Contains-nil, Contains-cons_cases, Contains-filter, Contains-filter_from, Contains-flat_map}
use Rattle.quilt_loc.proofs.Members.{Contains-flat_map_from}
use Rattle.quilt_loc.proofs.Blocks.{Holds-from, in_block-true}
use Rattle.quilt_blocks.proofs.Maximal.{IsMaximal, GoesDown}
use Rattle.quilt_point_laws.proofs.Narrowing.{Narrows, in_or_out, one_maximal, stays, kept, comes, thin_are, cut_within}
use Rattle.quilt_point_laws.proofs.Counts.{Comes, few_down, few_pixel, few_narrows, room_passes, full_fails}
use Rattle.quilt_point_laws.proofs.OnBlocks.{IsBare, IsOn, on_one, on_from, on_is, fact_from, fact_is, kind_is}

pub Swaps-turned : (old new gone come : List Fact) → Swaps old new gone come → Swaps new old come gone
Swaps-turned old new gone come s = record { goes = s.comes; comes = s.goes }

-- a block with no points counts none
pub bare_from : (points : PointMap) (b : Block) → occupancy points b ≡ 0 → IsBare points b
bare_from points b z q k c t =
    let test : Pixel × ℕ → Bool = λ e. in_block b e.0 in
    let m = Contains-filter test (finmap.entries points) (q, k) c t in
    let lt = m.1 in
    let long = length-filter test (finmap.entries points) in
    omega arith

empty_list : (xs : List (Pixel × ℕ)) → ((e : Pixel × ℕ) → Contains xs e → ⊥) → length xs ≡ 0
empty_list [] h = refl
empty_list (x ∷ xs) h = absurd (h x (Contains-here x xs))

pub bare_is : (points : PointMap) (b : Block) → IsBare points b → occupancy points b ≡ 0
bare_is points b bare =
    let test : Pixel × ℕ → Bool = λ e. in_block b e.0 in
    sym (length-filter test (finmap.entries points))
    ∙ empty_list (filter test (finmap.entries points)) (λ e c. let w = Contains-filter_from test (finmap.entries points) e c in bare e.0 e.1 w.0 w.1)

module _ (small big : PointMap) (p : Pixel) (label : ℕ) (h : Comes small big p label) where
  new_in : Contains (finmap.entries big) (p, label)
  new_in = let new : Pixel × ℕ = (p, label) in (h.members new).1 (inr refl)

  -- a fact on a block stays, unless it says that there is no point where now one is
  pub on_grows : (b : Block) (f : Fact) → IsOn small b f → IsOn big b f ⊎ (Holds b p × (f ≡ HoldsNoPoint b) × IsBare small b)
  on_grows b (HoldsPoint d q k) o = inl (o.0, (h.members (q, k)).1 (inl o.1), o.2)
  on_grows b (HoldsNoPoint d) o =
      ⊎_elim
      (λ on. inr (on, ap HoldsNoPoint o.0, o.1))
      (λ out. inl (
        o.0,
        λ q k c t. ⊎_elim (λ m. o.1 q k m t) (λ is. out (Holds-from b p (ap (λ (z : Pixel × ℕ). in_block b z.0) (sym is) ∙ t)))
            ((h.members (q, k)).0 c),
      ))
      (in_or_out b p)
  on_grows b f o = absurd o

  -- and there was each, but that the new point is there
  pub on_shrinks : (b : Block) (f : Fact) → IsOn big b f → IsOn small b f ⊎ (Holds b p × (f ≡ HoldsPoint b p label))
  on_shrinks b (HoldsPoint d q k) o =
      ⊎_elim (λ m. inl (o.0, m, o.2))
      (λ is.
      let q' : q ≡ p = ap (λ (z : Pixel × ℕ). z.0) is in
      let k' : k ≡ label = ap (λ (z : Pixel × ℕ). z.1) is in
      let d' = o.0 in
      inr (Holds-from b p (ap (in_block b) (sym q') ∙ o.2), λ i. HoldsPoint (d' i) (q' i) (k' i)))
      ((h.members (q, k)).0 o.1)
  on_shrinks b (HoldsNoPoint d) o = inl (o.0, λ q k m t. o.1 q k ((h.members (q, k)).1 (inl m)) t)
  on_shrinks b f o = absurd o

  never_none : (b c : Block) → Holds c p → IsOn big b (HoldsNoPoint c) → ⊥
  never_none b c on o = o.1 p label new_in (ap (λ (z : Block). in_block z p) (sym o.0) ∙ in_block-true c p on)

  never_new : (b c : Block) → IsOn small b (HoldsPoint c p label) → ⊥
  never_new b c o = h.fresh label o.1

  module _ (n capacity : ℕ) (c : Block) (gc : IsMaximal n (holds_few capacity small) c) (hc : Holds c p) where
    abbrev before : List Fact
    before = facts n (Points capacity small)

    abbrev after : List Fact
    after = facts n (Points capacity big)

    nar : Narrows (holds_few capacity small) (holds_few capacity big) p
    nar = few_narrows small big p label h capacity

    ds : GoesDown n (holds_few capacity small)
    ds = few_down n capacity small

    db : GoesDown n (holds_few capacity big)
    db = few_down n capacity big

    the_block : (b : Block) → IsMaximal n (holds_few capacity small) b → Holds b p → b ≡ c
    the_block b gb on = one_maximal n (holds_few capacity small) ds b c p gb gc on hc

    -- ---- the block has room
    module _ (room : occupancy small c < capacity) where
      passes : holds_few capacity big c ≡ true
      passes = room_passes small big p label h capacity c hc room

      same_blocks : (e : Block) → IsMaximal n (holds_few capacity small) e ↔ IsMaximal n (holds_few capacity big) e
      same_blocks e = kept n (holds_few capacity small) (holds_few capacity big) p ds db nar c gc hc passes e

      room_goes_from : (f : Fact) → Contains before f → (Contains after f → ⊥) → (f ≡ HoldsNoPoint c) × IsBare small c
      room_goes_from f m not =
          ⊎_elim (λ e. absurd (not (kind_is n capacity big f e)))
          (λ w.
          ⊎_elim
          (λ o. absurd (not (fact_is n capacity big f (record { block = w.block; maximal = (same_blocks w.block).0 w.maximal; on = o }))))
          (λ x. let e = the_block w.block w.maximal x.0 in (x.1 ∙ ap HoldsNoPoint e, subst (IsBare small) e x.2))
          (on_grows w.block f w.on))
          (fact_from n capacity small f m)

      room_goes_is : IsBare small c → Contains before (HoldsNoPoint c) × (Contains after (HoldsNoPoint c) → ⊥)
      room_goes_is bare = (
        fact_is n capacity small (HoldsNoPoint c) (record { block = c; maximal = gc; on = (refl, bare) }),
        λ m. ⊎_elim (λ e. cc) (λ w. never_none w.block c hc w.on) (fact_from n capacity big (HoldsNoPoint c) m),
      )

      room_comes_from : (f : Fact) → Contains after f → (Contains before f → ⊥) → f ≡ HoldsPoint c p label
      room_comes_from f m not =
          ⊎_elim (λ e. absurd (not (kind_is n capacity small f e)))
          (λ w.
          let g = (same_blocks w.block).1 w.maximal in
          ⊎_elim
          (λ o. absurd (not (fact_is n capacity small f (record { block = w.block; maximal = g; on = o }))))
          (λ x. let e = the_block w.block g x.0 in x.1 ∙ ap (λ (z : Block). HoldsPoint z p label) e)
          (on_shrinks w.block f w.on))
          (fact_from n capacity big f m)

      room_comes_is : Contains after (HoldsPoint c p label) × (Contains before (HoldsPoint c p label) → ⊥)
      room_comes_is = (
        fact_is n capacity big (HoldsPoint c p label) (record { block = c; maximal = (same_blocks c).0 gc; on = (refl, new_in, in_block-true c p hc) }),
        λ m. ⊎_elim (λ e. cc) (λ w. never_new w.block c w.on) (fact_from n capacity small (HoldsPoint c p label) m),
      )

      gone_by : (t : Bool) → eqb (occupancy small c) 0 ≡ t → (f : Fact) → Contains (cond t (HoldsNoPoint c ∷ []) []) f
          ↔ (Contains before f × (Contains after f → ⊥))
      gone_by true t f = (
        λ m. ⊎_elim
            (λ e. subst (λ (z : Fact). Contains before z × (Contains after z → ⊥)) e (room_goes_is (bare_from small c (eqb-true (occupancy small c) 0 t))))
            (λ no. absurd (Contains-nil f no)) (Contains-cons_cases (HoldsNoPoint c) [] f m),
        λ w. subst (Contains (HoldsNoPoint c ∷ [])) (sym (room_goes_from f w.0 w.1).0) (Contains-here (HoldsNoPoint c) []),
      )
      gone_by false t f = (
        λ m. absurd (Contains-nil f m),
        λ w. absurd (both_ways (eqb (occupancy small c) 0) t (eq-eqb (occupancy small c) 0 (bare_is small c (room_goes_from f w.0 w.1).1))),
      )

      -- the blocks stay; one fact comes, and the one that there was no point goes
      pub room_swaps : Swaps before after (room_gone small c) (room_come c p label)
      room_swaps = record {
        goes = λ f. gone_by (eqb (occupancy small c) 0) refl f;
        comes = λ f. (
          λ m. ⊎_elim (λ e. subst (λ (z : Fact). Contains after z × (Contains before z → ⊥)) e room_comes_is) (λ no. absurd (Contains-nil f no))
              (Contains-cons_cases (HoldsPoint c p label) [] f m),
          λ w. subst (Contains (HoldsPoint c p label ∷ [])) (sym (room_comes_from f w.0 w.1)) (Contains-here (HoldsPoint c p label) []),
        );
      }

    -- ---- the block is full
    module _ (full : capacity ≤ occupancy small c) where
      pub fails : holds_few capacity big c ≡ false
      fails = full_fails small big p label h capacity c hc full

      full_goes_from : (f : Fact) → Contains before f → (Contains after f → ⊥) → IsOn small c f
      full_goes_from f m not =
          ⊎_elim (λ e. absurd (not (kind_is n capacity big f e)))
          (λ w.
          ⊎_elim
          (λ on. subst (λ (z : Block). IsOn small z f) (the_block w.block w.maximal on) w.on)
          (λ out. ⊎_elim
          (λ o. absurd (not (fact_is n capacity big f
          (record { block = w.block; maximal = stays n (holds_few capacity small) (holds_few capacity big) p ds db nar w.block w.maximal out; on = o }))))
          (λ x. absurd (out x.0)) (on_grows w.block f w.on))
          (in_or_out w.block p))
          (fact_from n capacity small f m)

      kind_off : (points : PointMap) (b : Block) (f : Fact) → f ≡ IsOfKind 2 capacity → IsOn points b f → ⊥
      kind_off points b f e o = subst (IsOn points b) e o

      full_goes_is : (f : Fact) → IsOn small c f → Contains before f × (Contains after f → ⊥)
      full_goes_is f o = (
        fact_is n capacity small f (record { block = c; maximal = gc; on = o }),
        λ m. ⊎_elim (λ e. kind_off small c f e o)
            (λ w. both_ways (holds_few capacity big c) fails (ap (holds_few capacity big) (on_one small big c w.block f o w.on) ∙ (w.maximal).passes))
            (fact_from n capacity big f m),
      )

      full_comes_from : (f : Fact) → Contains after f → (Contains before f → ⊥) → (b : Block) × IsMaximal n (holds_few capacity big) b
          × Within b c × IsOn big b f
      full_comes_from f m not =
          ⊎_elim (λ e. absurd (not (kind_is n capacity small f e)))
          (λ w.
          ⊎_elim
          (λ l. ⊎_elim
          (λ o. absurd (not (fact_is n capacity small f (record { block = w.block; maximal = l.0; on = o }))))
          (λ x. absurd (l.1 (the_block w.block l.0 x.0))) (on_shrinks w.block f w.on))
          (λ r. (w.block, r.0, r.1, w.on))
          ((thin_are n (holds_few capacity small) (holds_few capacity big) p ds db nar c gc hc fails w.block).0 w.maximal))
          (fact_from n capacity big f m)

      full_comes_is : (f : Fact) (b : Block) → IsMaximal n (holds_few capacity big) b → Within b c → IsOn big b f → Contains after f × (Contains before f → ⊥)
      full_comes_is f b gb w o = (
        fact_is n capacity big f (record { block = b; maximal = gb; on = o }),
        λ m. ⊎_elim (λ e. kind_off big b f e o)
            (λ v.
            let new = ((comes n (holds_few capacity small) (holds_few capacity big) p ds db nar c gc hc fails b).1 (gb, w)).1 in
            new (subst (IsMaximal n (holds_few capacity small)) (sym (on_one big small b v.block f o v.on)) v.maximal))
            (fact_from n capacity small f m),
      )

      -- all facts of the block go, and those of the blocks that it is cut into come
      pub full_swaps : 1 ≤ capacity → (k : ℕ) → c.side ≡ 2 ^ k → Swaps before after (point_facts small c) (full_come capacity big k c)
      full_swaps least k s =
          let law = cut_within n (holds_few capacity small) (holds_few capacity big) p ds db nar c gc hc fails (few_pixel n capacity big least) k s in
          record {
            goes = λ f. (λ m. full_goes_is f (on_from small c f m), λ w. on_is small c f (full_goes_from f w.0 w.1));
            comes = λ f. (
              λ m.
                  let r = Contains-flat_map_from (point_facts big) (cut (holds_few capacity big) k c) f m in
                  let l = (law r.0).0 r.1 in
                  full_comes_is f r.0 l.0 l.1 (on_from big r.0 f r.2),
              λ w.
                  let r = full_comes_from f w.0 w.1 in
                  Contains-flat_map (point_facts big) (cut (holds_few capacity big) k c) r.0 f ((law r.0).1 (r.1, r.2)) (on_is big r.0 f r.3),
            );
          }
