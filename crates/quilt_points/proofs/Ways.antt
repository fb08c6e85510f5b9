-- Up from the block around a point that goes: what the quarters beside the way are, and where it ends.
use Rattle.std.proofs.Common.{◌≡◌, ℕ, ◌+◌, ◌*◌, ◌<◌, ◌≤◌, refl, true, false, List, [], ◌∷◌, ◌++◌, take, get_or, length, Some, sym, ◌∙◌, ap, subst, ⊎_elim, arith, Contains}
use Rattle.std.proofs.Common.{leb-true, le-leb}
use Rattle.std.specs.FinMap as finmap
use Rattle.std.proofs.lemmas.Bool.{cases_Bool, cases_lt, both_ways}
use Rattle.std.proofs.lemmas.List.{get_or_default, length-map, map-append, take_all}
use Rattle.quilt_types.specs.declared.plane.Pixel.{Pixel}
use Rattle.quilt_types.specs.declared.plane.Block.{Block}
use Rattle.quilt_types.specs.declared.plane.Point.{Point}
use Rattle.quilt_types.specs.Plane.{side, block_cmp, parent_of, quarters_of, Holds, IsBlock}
use Rattle.quilt_types.specs.Layers.{PointMap}
use Rattle.quilt_types.specs.Quadtrees.{occupancy, holds_few, point_blocks}
use Rattle.quilt_loc.proofs.Nesting.{Within-holds, Within-trans, same_block_from, side_pos, IsBlock-parent_of, Within-parent_of}
use Rattle.quilt_loc.proofs.Quartered.{is_quarter, quarters_are, side_le}
use Rattle.quilt_loc.proofs.PlaneOrders.{block_total}
use Rattle.quilt_spell.proofs.Maps.{same_or_not}
use Rattle.quilt_spell.proofs.facts.FactKeys.{block_same}
use Rattle.quilt_point_laws.specs.Laws.{AreIn}
use Rattle.quilt_point_laws.proofs.Counts.{Comes, del_comes, few_down, few_narrows}
use Rattle.quilt_point_laws.proofs.Merging.{siblings, AreIn-same}
use Rattle.quilt_point_laws.proofs.Plans.{AreIn-length}
use Rattle.quilt_points.specs.Layers.{point_entry, point_entries}
use Rattle.quilt_points.specs.Climbing.{IsOnWay}
use Rattle.quilt_points.proofs.Shapes.{block_is, block_from}
use Rattle.quilt_edits.proofs.Lists.{take_next, member_at}
use Rattle.quilt_points.proofs.Unions.{AreOfAll, quarter_before, all_next, all_quarters, of_from, of_is}

module _ (n capacity : ℕ) (points : PointMap) (p : Pixel) (label : ℕ) (some : finmap.get points p ≡ Some label) (x : Block) (held : List Point)
    (way : IsOnWay n capacity points p x held) where
  abbrev after : PointMap
  after = finmap.remove points p

  comes : Comes (finmap.remove points p) points p label
  comes = del_comes points p label some

  pub way_holds : Holds x p
  way_holds = Within-holds way.base x p way.within way.base_holds

  -- where the way ends
  pub way_last : (x.side < side n → holds_few capacity (finmap.remove points p) (parent_of x) ≡ false)
      → Contains (point_blocks n capacity (finmap.remove points p)) x
  way_last fails = block_from n capacity (finmap.remove points p) x
      (record { block = way.block; passes = way.few; last = λ lt u. both_ways (holds_few capacity (finmap.remove points p) (parent_of x)) (fails lt) u })

  module _ (lt : x.side < side n) where
    up_block : IsBlock n (parent_of x)
    up_block = IsBlock-parent_of n x way.block lt

    quarter_out : (q : Block) → Contains (quarters_of (parent_of x)) q → (q ≡ x → ⊥) → Holds q p → ⊥
    quarter_out q c other on =
        let pos = side_pos n x way.block in
        let h = quarters_are n (parent_of x) q up_block (omega arith) c in
        let half = h.half in
        other (same_block_from n q x p h.block way.block (omega arith) on way_holds)

    -- the other quarters of a block that passes are blocks of the layer
    pub sibling_there : holds_few capacity (finmap.remove points p) (parent_of x) ≡ true → (q : Block) → Contains (quarters_of (parent_of x)) q
        → (q ≡ x → ⊥) → Contains (point_blocks n capacity points) q
    sibling_there u q c other =
        block_from n capacity points q
        (siblings n (holds_few capacity (finmap.remove points p)) (holds_few capacity points) p (few_down n capacity (finmap.remove points p))
        (few_down n capacity points) (few_narrows (finmap.remove points p) points p label comes capacity)
        way.base (block_is n capacity points way.base way.base_block) way.base_holds x way.block way.within lt u q c (quarter_out q c other))

    -- their points stay
    pub sibling_stays : (q : Block) → Contains (quarters_of (parent_of x)) q → (q ≡ x → ⊥) → (here : List Point) → AreIn points q (point_entries here)
        → AreIn (finmap.remove points p) q (point_entries here)
    sibling_stays q c other here are = AreIn-same (finmap.remove points p) points p label comes q (quarter_out q c other) (point_entries here) are

    long : (all : List Point) → AreIn (finmap.remove points p) (parent_of x) (point_entries all) → length all ≡ occupancy (finmap.remove points p) (parent_of x)
    long all are = sym (length-map all point_entry) ∙ AreIn-length (finmap.remove points p) (parent_of x) (point_entries all) are

    pub way_up : (all : List Point) → AreIn (finmap.remove points p) (parent_of x) (point_entries all) → length all ≤ capacity
        → IsOnWay n capacity points p (parent_of x) all
    way_up all are few = record {
      base = way.base;
      base_block = way.base_block;
      base_holds = way.base_holds;
      within = Within-trans way.base x (parent_of x) way.within (Within-parent_of n x way.block lt);
      block = up_block;
      few = let l = long all are in le-leb (occupancy (finmap.remove points p) (parent_of x)) capacity (omega arith);
      are = are;
    }

    pub way_many : (all : List Point) → AreIn (finmap.remove points p) (parent_of x) (point_entries all) → capacity < length all
        → holds_few capacity (finmap.remove points p) (parent_of x) ≡ false
    way_many all are many =
        let l = long all are in
        ⊎_elim (λ t. let few = leb-true (occupancy (finmap.remove points p) (parent_of x)) capacity t in absurd (omega arith)) (λ f. f)
        (cases_Bool (holds_few capacity (finmap.remove points p) (parent_of x)))

    -- the next quarter's points, which are known where it is the block
    pub way_next : (qs : List Block) → qs ≡ quarters_of (parent_of x) → (i : ℕ) (d : Block) → i < 4 → (all new : List Point)
        → (get_or qs i d ≡ x → new ≡ all ++ held)
        → ((get_or qs i d ≡ x → ⊥) → (here : List Point) × (new ≡ all ++ here) × AreIn points (get_or qs i d) (point_entries here))
        → AreOfAll (finmap.remove points p) (λ q. true) (take i qs) (point_entries all)
        → AreOfAll (finmap.remove points p) (λ q. true) (take (i + 1) qs) (point_entries new)
    way_next qs are i d four all new here_is other h =
        let pos = side_pos n x way.block in
        let q = get_or qs i d in
        let four_of = ap length are in
        let c : Contains (quarters_of (parent_of x)) q = subst (λ (l : List Block). Contains l q) are (member_at qs i d (omega arith)) in
        let apart = quarter_before n (parent_of x) qs i d up_block (omega arith) are four in
        let add : (here : List Point) → new ≡ all ++ here → AreIn (finmap.remove points p) q (point_entries here)
        → AreOfAll (finmap.remove points p) (λ q. true) (take (i + 1) qs) (point_entries new) = λ here is are_in.
        subst (λ (l : List Block). AreOfAll (finmap.remove points p) (λ q. true) l (point_entries new)) (sym (take_next qs i d (omega arith)))
        (subst (AreOfAll (finmap.remove points p) (λ q. true) (take i qs ++ q ∷ [])) (sym (ap point_entries is ∙ map-append point_entry all here))
        (all_next (finmap.remove points p) (λ q. true) (take i qs) q (point_entries all) (point_entries here) h
        (of_from (finmap.remove points p) q (point_entries here) are_in) apart)) in
        ⊎_elim
        (λ same. add held (here_is same) (subst (λ (z : Block). AreIn (finmap.remove points p) z (point_entries held)) (sym same) way.are))
        (λ differ. let o = other differ in add o.0 o.1 (sibling_stays q c differ o.0 o.2))
        (same_or_not block_cmp block_total block_same q x)

    pub way_all : (qs : List Block) → qs ≡ quarters_of (parent_of x) → (i : ℕ) → 4 ≤ i → (all : List Point)
        → AreOfAll (finmap.remove points p) (λ q. true) (take i qs) (point_entries all) → AreIn (finmap.remove points p) (parent_of x) (point_entries all)
    way_all qs are i four all h =
        let pos = side_pos n x way.block in
        let four_of = ap length are in
        of_is (finmap.remove points p) (parent_of x) (point_entries all)
        (all_quarters (finmap.remove points p) (λ q. true) n (parent_of x) (point_entries all) up_block (omega arith)
        (subst (λ (l : List Block). AreOfAll (finmap.remove points p) (λ q. true) l (point_entries all)) (take_all i qs (omega arith) ∙ are) h))

    -- a quarter that is no block of the layer
    pub way_fails : (q : Block) → Contains (quarters_of (parent_of x)) q → (q ≡ x → ⊥) → (Contains (point_blocks n capacity points) q → ⊥)
        → holds_few capacity (finmap.remove points p) (parent_of x) ≡ false
    way_fails q c other away =
        ⊎_elim (λ t. absurd (away (sibling_there t q c other))) (λ f. f) (cases_Bool (holds_few capacity (finmap.remove points p) (parent_of x)))

pub inner_from : (n : ℕ) (b : Block) → IsBlock n b → (b.side ≡ side n → ⊥) → b.side < side n
inner_from n b hb other = let le = side_le n b hb in ⊎_elim (λ lt. lt) (λ ge. absurd (other (omega arith))) (cases_lt b.side (side n))

-- a block is one of its parent's quarters
pub own_place : (n : ℕ) (x : Block) → IsBlock n x → x.side < side n → (d : Block)
    → (j : ℕ) × (j < 4) × (get_or (quarters_of (parent_of x)) j d ≡ x)
own_place n x hx lt d =
    let twice : 2 * x.side ≡ (parent_of x).side = refl in
    let c = is_quarter n (parent_of x) x (IsBlock-parent_of n x hx lt) hx twice (Within-parent_of n x hx lt) in
    (c.0, c.1, get_or_default (quarters_of (parent_of x)) c.0 d x c.1 ∙ c.2)
