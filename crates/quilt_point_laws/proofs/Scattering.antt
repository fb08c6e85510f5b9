-- Many points more: block by block.
use Rattle.std.proofs.Common.{◌≡◌, ℕ, ◌^◌, ◌≤◌, ◌⊎◌, ◌↔◌, Bool, true, false, List, refl, sym, ◌∙◌, ap, subst, arith, ⊎_elim, Contains, filter, flat_map, le-leb}
use Rattle.std.proofs.Common.{leb-true}
use Rattle.std.specs.FinMap as finmap
use Rattle.std.proofs.lemmas.Bool.{both_ways}
use Rattle.std.proofs.lemmas.List.Sums.{length-filter}
use Rattle.quilt_types.specs.declared.plane.Block.{Block}
use Rattle.quilt_types.specs.declared.plane.Pixel.{Pixel}
use Rattle.quilt_types.specs.Plane.{corner, in_block, IsBlock, Within}
use Rattle.quilt_types.specs.Layers.{Points, PointMap}
use Rattle.quilt_types.specs.Quadtrees.{occupancy, holds_few}
use Rattle.quilt_types.specs.Facts.{Fact, IsOfKind, HoldsPoint, HoldsNoPoint, point_facts, facts}
use Rattle.quilt_blocks.specs.Cutting.{cut}
use Rattle.quilt_point_laws.specs.Swapping.{Swaps}
use Rattle.quilt_point_laws.specs.Local.{full_come}
use Rattle.quilt_loc.proofs.Members.{Contains-filter, Contains-filter_from, Contains-flat_map, Contains-flat_map_from}
use Rattle.quilt_loc.proofs.Nesting.{around, Holds-corner}
use Rattle.quilt_spell.proofs.Holding.{held}
use Rattle.quilt_loc.proofs.Around.{IsBlock-around}
use Rattle.quilt_spell.proofs.Lists.{Apart-filter, Apart-le}
use Rattle.quilt_blocks.proofs.Maximal.{IsMaximal, IsMaximal-from, GoesDown, alone, cut_law, Within-self}
use Rattle.quilt_point_laws.proofs.Narrowing.{in_maximal}
use Rattle.quilt_point_laws.proofs.Counts.{entries_apart, few_down, few_pixel}
use Rattle.quilt_point_laws.proofs.OnBlocks.{IsOn, IsBare, on_one, on_from, on_is, OfBlock, fact_from, fact_is, kind_is}

-- a narrower test's maximal blocks lie in those of the wide one, and are what these are cut into
pub record InOne (n : ℕ) (wide thin : Block → Bool) (e : Block) : Type 0 where
  pub block : Block
  pub maximal : IsMaximal n wide block
  pub within : Within e block

module _ (n : ℕ) (wide thin : Block → Bool) (less : (b : Block) → thin b ≡ true → wide b ≡ true) (dw : GoesDown n wide) (dt : GoesDown n thin)
    (pixel : (b : Block) → IsBlock n b → b.side ≡ 1 → thin b ≡ true) where
  pub in_one : (e : Block) → IsMaximal n thin e → InOne n wide thin e
  in_one e ge =
      let he = ge.block in
      let q = corner e in
      let one = IsBlock-around n 0 q (omega arith) he.in_x he.in_y in
      let w = held n wide q he.in_x he.in_y (less (around (2 ^ 0) q) (pixel (around (2 ^ 0) q) one refl)) in
      let gw = IsMaximal-from n wide w.block w.maximal in
      record { block = w.block; maximal = gw; within = in_maximal n wide dw e w.block q he (less e ge.passes) (Holds-corner n e he) gw w.holds }

  pub cut_one : (c : Block) → IsMaximal n wide c → (k : ℕ) → c.side ≡ 2 ^ k → (e : Block) → Contains (cut thin k c) e ↔ (IsMaximal n thin e × Within e c)
  cut_one c gc k s e = cut_law n thin dt pixel k c gc.block s (λ lt t. gc.last lt (less _ t)) e

module _ (small big : PointMap) (more : (e : Pixel × ℕ) → Contains (finmap.entries small) e → Contains (finmap.entries big) e) where
  occupancy_more : (b : Block) → occupancy small b ≤ occupancy big b
  occupancy_more b =
      let test : Pixel × ℕ → Bool = λ e. in_block b e.0 in
      let es = finmap.entries small in
      let gs = finmap.entries big in
      let le = Apart-le (filter test es) (filter test gs) (Apart-filter test es (entries_apart small))
      (λ e c. let w = Contains-filter_from test es e c in Contains-filter test gs e (more e w.0) w.1) in
      let ls = length-filter test es in
      let lg = length-filter test gs in
      omega arith

  few_less : (capacity : ℕ) (b : Block) → holds_few capacity big b ≡ true → holds_few capacity small b ≡ true
  few_less capacity b u = let few = leb-true (occupancy big b) capacity u in let m = occupancy_more b in le-leb (occupancy small b) capacity (omega arith)

  -- no new point is in the block
  abbrev pub IsOld : Block → Type 0
  IsOld c = (e : Pixel × ℕ) → Contains (finmap.entries big) e → in_block c e.0 ≡ true → Contains (finmap.entries small) e

  old_passes : (capacity : ℕ) (c : Block) → IsOld c → holds_few capacity small c ≡ true → holds_few capacity big c ≡ true
  old_passes capacity c old u =
      let test : Pixel × ℕ → Bool = λ e. in_block c e.0 in
      let es = finmap.entries small in
      let gs = finmap.entries big in
      let le = Apart-le (filter test gs) (filter test es) (Apart-filter test gs (entries_apart big))
      (λ e m. let w = Contains-filter_from test gs e m in Contains-filter test es e (old e w.0 w.1) w.1) in
      let ls = length-filter test es in
      let lg = length-filter test gs in
      let few = leb-true (occupancy small c) capacity u in
      le-leb (occupancy big c) capacity (omega arith)

  old_on : (c : Block) → IsOld c → (f : Fact) → IsOn small c f ↔ IsOn big c f
  old_on c old f = (there f, back f)
    where
      there : (f : Fact) → IsOn small c f → IsOn big c f
      there (HoldsPoint d q k) o = (o.0, more (q, k) o.1, o.2)
      there (HoldsNoPoint d) o = (o.0, λ q k m t. o.1 q k (old (q, k) m t) t)
      there f o = absurd o

      back : (f : Fact) → IsOn big c f → IsOn small c f
      back (HoldsPoint d q k) o = (o.0, old (q, k) o.1 o.2, o.2)
      back (HoldsNoPoint d) o = (o.0, λ q k m t. o.1 q k (more (q, k) m) t)
      back f o = absurd o

  module _ (n capacity : ℕ) (least : 1 ≤ capacity) (level : Block → ℕ) (sized : (c : Block) → IsMaximal n (holds_few capacity small) c
      → c.side ≡ 2 ^ level c) where
    abbrev wide : Block → Bool
    wide b = holds_few capacity small b

    abbrev thin : Block → Bool
    thin b = holds_few capacity big b

    abbrev before : List Fact
    before = facts n (Points capacity small)

    abbrev after : List Fact
    after = facts n (Points capacity big)

    abbrev inner : Block → List Fact
    inner c = full_come capacity big (level c) c

    dw : GoesDown n (holds_few capacity small)
    dw = few_down n capacity small

    dt : GoesDown n (holds_few capacity big)
    dt = few_down n capacity big

    cut_here : (c : Block) → IsMaximal n (holds_few capacity small) c → (e : Block) → Contains (cut (holds_few capacity big) (level c) c) e
        ↔ (IsMaximal n (holds_few capacity big) e × Within e c)
    cut_here c gc e =
        cut_one n (holds_few capacity small) (holds_few capacity big) (few_less capacity) dw dt (few_pixel n capacity big least) c gc (level c) (sized c gc) e

    pub inner_from : (c : Block) → IsMaximal n (holds_few capacity small) c → (f : Fact) → Contains (inner c) f
        → (w : OfBlock n capacity big f) × Within w.block c
    inner_from c gc f m =
        let r = Contains-flat_map_from (point_facts big) (cut (holds_few capacity big) (level c) c) f m in
        let l = (cut_here c gc r.0).0 r.1 in
        (record { block = r.0; maximal = l.0; on = on_from big r.0 f r.2 }, l.1)

    inner_is : (c : Block) → IsMaximal n (holds_few capacity small) c → (f : Fact) (w : OfBlock n capacity big f) → Within w.block c → Contains (inner c) f
    inner_is c gc f w v =
        Contains-flat_map (point_facts big) (cut (holds_few capacity big) (level c) c) w.block f ((cut_here c gc w.block).1 (w.maximal, v))
        (on_is big w.block f w.on)

    -- in a block with no new point the facts stay
    old_stays : (c : Block) → IsMaximal n (holds_few capacity small) c → IsOld c → (f : Fact) → Contains (inner c) f ↔ Contains (point_facts small c) f
    old_stays c gc old f =
        let u = old_passes capacity c old gc.passes in (
          λ m.
              let r = inner_from c gc f m in
              let is = alone n (holds_few capacity big) dt (r.0).block c (r.0).maximal gc.block u r.1 in
              on_is small c f ((old_on c old f).1 (subst (λ (z : Block). IsOn big z f) is (r.0).on)),
          λ m.
              let tc : IsMaximal n (holds_few capacity big) c = record { block = gc.block; passes = u; last = λ lt t. gc.last lt (few_less capacity _ t) } in
              inner_is c gc f (record { block = c; maximal = tc; on = (old_on c old f).0 (on_from small c f m) }) (Within-self c),
        )

    -- ---- what goes and comes in one block with new points
    -- where they are too many all facts go, and those of the blocks that it is cut into come
    pub full_block : (c : Block) → IsMaximal n (holds_few capacity small) c → holds_few capacity big c ≡ false
        → Swaps (point_facts small c) (inner c) (point_facts small c) (inner c)
    full_block c gc fails =
        let apart : (f : Fact) → Contains (point_facts small c) f → Contains (inner c) f → ⊥ = λ f m i.
        let r = inner_from c gc f i in
        let same = on_one small big c (r.0).block f (on_from small c f m) (r.0).on in
        both_ways (holds_few capacity big c) fails (ap (holds_few capacity big) same ∙ ((r.0).maximal).passes) in record {
          goes = λ f. (λ m. (m, apart f m), λ w. w.0);
          comes = λ f. (λ i. (i, λ m. apart f m i), λ w. w.0);
        }

    -- where they have room the block stays: the new points come, and the fact that there is none goes
    pub room_block : (c : Block) → IsMaximal n (holds_few capacity small) c → holds_few capacity big c ≡ true → (gone come : List Fact)
        → (e : Pixel × ℕ) → Contains (finmap.entries big) e → in_block c e.0 ≡ true
        → ((f : Fact) → Contains gone f ↔ ((f ≡ HoldsNoPoint c) × IsBare small c))
        → ((f : Fact) → Contains come f
        ↔ ((d : Pixel × ℕ) × Contains (finmap.entries big) d × (in_block c d.0 ≡ true) × (Contains (finmap.entries small) d → ⊥)
        × (f ≡ HoldsPoint c d.0 d.1)))
        → Swaps (point_facts small c) (inner c) gone come
    room_block c gc u gone come e me te gone_are come_are =
        let tc : IsMaximal n (holds_few capacity big) c = record { block = gc.block; passes = u; last = λ lt t. gc.last lt (few_less capacity _ t) } in
        let into : (f : Fact) → IsOn big c f → Contains (inner c) f = λ f o. inner_is c gc f (record { block = c; maximal = tc; on = o }) (Within-self c) in
        let out : (f : Fact) → Contains (inner c) f → IsOn big c f = λ f i.
        let r = inner_from c gc f i in
        subst (λ (z : Block). IsOn big z f) (alone n (holds_few capacity big) dt (r.0).block c (r.0).maximal gc.block u r.1) (r.0).on in record {
          goes = λ f. (
            λ m. let w = (gone_are f).0 m in (
              on_is small c f (subst (IsOn small c) (sym w.0) (refl, w.1)),
              λ i. let o = subst (IsOn big c) w.0 (out f i) in o.1 e.0 e.1 me te,
            ),
            λ w. (gone_are f).1 (left_out c f (on_from small c f w.0) (λ o. w.1 (into f o))),
          );
          comes = λ f. (
            λ m. let w = (come_are f).0 m in (
              into f (subst (IsOn big c) (sym w.4) (refl, w.1, w.2)),
              λ i. let o = subst (IsOn small c) w.4 (on_from small c f i) in w.3 o.1,
            ),
            λ w. (come_are f).1 (new_one c f (out f w.0) (λ o. w.1 (on_is small c f o))),
          );
        }
      where
        left_out : (c : Block) (f : Fact) → IsOn small c f → (IsOn big c f → ⊥) → (f ≡ HoldsNoPoint c) × IsBare small c
        left_out c (HoldsPoint d q k) o off = absurd (off (o.0, more (q, k) o.1, o.2))
        left_out c (HoldsNoPoint d) o off = (ap HoldsNoPoint o.0, o.1)
        left_out c f o off = absurd o

        new_one : (c : Block) (f : Fact) → IsOn big c f → (IsOn small c f → ⊥)
            → (d : Pixel × ℕ) × Contains (finmap.entries big) d × (in_block c d.0 ≡ true) × (Contains (finmap.entries small) d → ⊥) × (f ≡ HoldsPoint c d.0 d.1)
        new_one c (HoldsPoint d q k) o off = ((q, k), o.1, o.2, λ m. off (o.0, m, o.2), ap (λ (z : Block). HoldsPoint z q k) o.0)
        new_one c (HoldsNoPoint d) o off = absurd (off (o.0, λ q k m t. o.1 q k (more (q, k) m) t))
        new_one c f o off = absurd o

    -- Given what goes and comes in each block with new points, all that goes and comes.
    module _ {X : Type 0} (xs : List X) (block_of : X → Block) (gone come : X → List Fact) (only : (x : X) → Contains xs x
        → IsMaximal n (holds_few capacity small) (block_of x))
        (each : (c : Block) → IsMaximal n (holds_few capacity small) c → ((x : X) × Contains xs x × (block_of x ≡ c)) ⊎ IsOld c)
        (swaps : (x : X) → Contains xs x → Swaps (point_facts small (block_of x)) (inner (block_of x)) (gone x) (come x)) where
      was : (c : Block) → IsMaximal n (holds_few capacity small) c → (f : Fact) → Contains (point_facts small c) f → Contains before f
      was c gc f m = fact_is n capacity small f (record { block = c; maximal = gc; on = on_from small c f m })

      is' : (c : Block) → IsMaximal n (holds_few capacity small) c → (f : Fact) → Contains (inner c) f → Contains after f
      is' c gc f m = fact_is n capacity big f (inner_from c gc f m).0

      kind_off : (points : PointMap) (b : Block) (f : Fact) → f ≡ IsOfKind 2 capacity → IsOn points b f → ⊥
      kind_off points b f e o = subst (IsOn points b) e o

      goes_out : (x : X) → Contains xs x → (f : Fact) → Contains (point_facts small (block_of x)) f → (Contains (inner (block_of x)) f → ⊥)
          → Contains after f → ⊥
      goes_out x mx f m off there =
          let c = block_of x in
          let gc = only x mx in
          let o = on_from small c f m in
          ⊎_elim (λ e. kind_off small c f e o)
          (λ w.
          let same = on_one small big c w.block f o w.on in
          off (inner_is c gc f w (subst (λ (z : Block). Within z c) same (Within-self c))))
          (fact_from n capacity big f there)

      comes_in : (x : X) → Contains xs x → (f : Fact) → Contains (inner (block_of x)) f → (Contains (point_facts small (block_of x)) f → ⊥)
          → Contains before f → ⊥
      comes_in x mx f m off here =
          let c = block_of x in
          let gc = only x mx in
          let r = inner_from c gc f m in
          ⊎_elim (λ e. kind_off big (r.0).block f e (r.0).on)
          (λ w.
          let same = on_one small big w.block (r.0).block f w.on (r.0).on in
          let v : Within w.block c = subst (λ (z : Block). Within z c) (sym same) r.1 in
          let is = alone n (holds_few capacity small) dw w.block c w.maximal gc.block gc.passes v in
          off (on_is small c f (subst (λ (z : Block). IsOn small z f) is w.on)))
          (fact_from n capacity small f here)

      pub scatter_swaps : Swaps before after (flat_map gone xs) (flat_map come xs)
      scatter_swaps = record {
        goes = λ f. (
          λ m.
              let r = Contains-flat_map_from gone xs f m in
              let w = ((swaps r.0 r.1).goes f).0 r.2 in
              (was (block_of r.0) (only r.0 r.1) f w.0, goes_out r.0 r.1 f w.0 w.1),
          λ w. ⊎_elim (λ e. absurd (w.1 (kind_is n capacity big f e)))
              (λ v.
              let m = on_is small v.block f v.on in
              ⊎_elim
              (λ x.
              let here = subst (λ (z : Block). Contains (point_facts small z) f) (sym x.2) m in
              Contains-flat_map gone xs x.0 f x.1 (((swaps x.0 x.1).goes f).1 (here, λ i. w.1 (is' (block_of x.0) (only x.0 x.1) f i))))
              (λ old. absurd (w.1 (is' v.block v.maximal f ((old_stays v.block v.maximal old f).1 m))))
              (each v.block v.maximal))
              (fact_from n capacity small f w.0),
        );
        comes = λ f. (
          λ m.
              let r = Contains-flat_map_from come xs f m in
              let w = ((swaps r.0 r.1).comes f).0 r.2 in
              (is' (block_of r.0) (only r.0 r.1) f w.0, comes_in r.0 r.1 f w.0 w.1),
          λ w. ⊎_elim (λ e. absurd (w.1 (kind_is n capacity small f e)))
              (λ v.
              let one =
              in_one n (holds_few capacity small) (holds_few capacity big) (few_less capacity) dw dt (few_pixel n capacity big least) v.block v.maximal in
              let i = inner_is one.block one.maximal f v one.within in
              ⊎_elim
              (λ x.
              let here = subst (λ (z : Block). Contains (inner z) f) (sym x.2) i in
              Contains-flat_map come xs x.0 f x.1 (((swaps x.0 x.1).comes f).1 (here, λ m. w.1 (was (block_of x.0) (only x.0 x.1) f m))))
              (λ old. absurd (w.1 (was one.block one.maximal f ((old_stays one.block one.maximal old f).0 i))))
              (each one.block one.maximal))
              (fact_from n capacity big f w.0),
        );
      }
