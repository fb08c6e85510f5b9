-- What a look at a block and at those in it may cost.
use Rattle.std.proofs.Common.{◌≡◌, ℕ, ◌+◌, ◌*◌, ◌<◌, ◌≤◌, Bool, true, false, cond, ◌&&◌, List, [], ◌∷◌, length, take, get_or, sum_by, refl}
use Rattle.std.proofs.Common.{◌∙◌, ap, arith, Option, eq-eqb}
use Rattle.std.specs.FinMap as finmap
use Rattle.std.proofs.lemmas.Bool.{and_from, or_right, or_left}
use Rattle.std.proofs.lemmas.List.{length-map, take_all}
use Rattle.std.proofs.lemmas.List.Sums.{sum_by-append, sum_by-cons, length-filter}
use Rattle.quilt_types.specs.Sets as finset
use Rattle.quilt_types.specs.declared.plane.Block.{Block}
use Rattle.quilt_types.specs.declared.plane.Seg.{Seg}
use Rattle.quilt_types.specs.Plane.{blocks, quarters_of, parent_of, side, whole, IsBlock}
use Rattle.quilt_types.specs.Layers.{SegMap, BlockSet}
use Rattle.quilt_types.specs.Quadtrees.{is_reached, is_whole, segs_meeting, reach}
use Rattle.quilt_types.specs.Segments.{square, meets}
use Rattle.quilt_world.specs.Tale.{Goes}
use Rattle.quilt_loc.proofs.Blocks.{Contains-blocks}
use Rattle.quilt_loc.proofs.Nesting.{side_pos}
use Rattle.quilt_edits.proofs.Lists.{take_next}
use Rattle.quilt_near.specs.Lines.{meeting}
use Rattle.quilt_near.specs.Budgets.{price}
use Rattle.quilt_near.proofs.Budgets.{budget_le, kept_le, itself_le, quarters_le}
use Rattle.quilt_lines.specs.Reads.{AreIdsAt}
use Rattle.quilt_lines.specs.Bounds.{look_cost, due, is_met_above}
use Rattle.quilt_lines.proofs.Sums.{UpBy, reads_sum, reads_more}

module _ (n : ℕ) (counts : Block → Bool) (segs : SegMap) (cover : BlockSet) where
  pub due_whole : due n counts segs cover (whole n) ≤ reach n segs cover counts
  unfolding reach
  due_whole =
      let all = budget_le (look_cost counts segs cover) (blocks n) (whole n) in
      let kept = kept_le (price segs cover) (λ b. counts b && is_reached cover b) (blocks n) in
      omega arith

  module _ (b : Block) (block : IsBlock n b) (passes : counts b ≡ true) (reached : is_reached cover b ≡ true) where
    cost_is : look_cost counts segs cover b ≡ price segs cover b
    cost_is = ap (λ t. cond t (price segs cover b) 0) (and_from (counts b) (is_reached cover b) passes reached)

    pub due_leaf : (ids : List ℕ) → AreIdsAt segs cover b ids → 12 + 6 * length ids ≤ due n counts segs cover b
    due_leaf ids at =
        let own = itself_le (look_cost counts segs cover) (blocks n) b (side_pos n b block) (Contains-blocks n b block) in
        let is : look_cost counts segs cover b ≡ 12 + 6 * segs_meeting segs b = cost_is ∙ ap (λ t. cond t (12 + 6 * segs_meeting segs b) 12) at.there in
        let many : length ids ≡ segs_meeting segs b =
        ap length at.are ∙ length-map (meeting segs b) (λ (e : ℕ × Seg). e.0)
        ∙ length-filter (λ (z : ℕ × Seg). meets z.1 (square b)) (finmap.entries segs) in
        omega arith

    module _ (cut : finset.contains cover b ≡ false) where
      cut_is : look_cost counts segs cover b ≡ 12
      cut_is = cost_is ∙ ap (λ t. cond t (12 + 6 * segs_meeting segs b) 12) cut

      pub due_cut : 12 ≤ due n counts segs cover b
      due_cut =
          let own = itself_le (look_cost counts segs cover) (blocks n) b (side_pos n b block) (Contains-blocks n b block) in
          let is = cut_is in
          omega arith

      pub due_split : 1 < b.side → 12 + sum_by (due n counts segs cover) (quarters_of b) ≤ due n counts segs cover b
      due_split wide =
          let own = quarters_le (look_cost counts segs cover) (blocks n) b wide (Contains-blocks n b block) in
          let is = cut_is in
          omega arith

-- ---- blocks whose parent is met
pub whole_above : (n : ℕ) (s : Seg) → is_met_above n s (whole n) ≡ true
whole_above n s = or_left (is_whole n (whole n)) (meets s (square (parent_of (whole n)))) (eq-eqb (side n) (side n) refl)

pub quarter_above : (n : ℕ) (s : Seg) (b q : Block) → parent_of q ≡ b → meets s (square b) ≡ true → is_met_above n s q ≡ true
quarter_above n s b q e met = or_right (is_whole n q) (meets s (square (parent_of q))) (ap (λ (z : Block). meets s (square z)) e ∙ met)

-- ---- reads of one call after another
-- what the first blocks of a list may cost, and one more
pub reads_next : (f : Block → ℕ) (bs : List Block) (i : ℕ) (d : Block) (j : ℕ) (a b c : Option ℕ) → i < length bs
    → Goes (UpBy (j + sum_by f (take i bs))) a b → Goes (UpBy (f (get_or bs i d))) b c → Goes (UpBy (j + sum_by f (take (i + 1) bs))) a c
reads_next f bs i d j a b c lt p q =
    let q' = get_or bs i d in
    let next : sum_by f (take (i + 1) bs) ≡ sum_by f (take i bs) + (f q' + 0) =
    ap (sum_by f) (take_next bs i d lt) ∙ sum_by-append f (take i bs) (q' ∷ []) ∙ ap (λ z. sum_by f (take i bs) + z) (sum_by-cons f q' []) in
    reads_sum a b c (j + sum_by f (take i bs)) (f q') (j + sum_by f (take (i + 1) bs)) (omega arith) p q

-- and all of them
pub reads_all : (f : Block → ℕ) (bs : List Block) (i : ℕ) (j m : ℕ) (a b : Option ℕ) → length bs ≤ i → j + sum_by f bs ≤ m
    → Goes (UpBy (j + sum_by f (take i bs))) a b → Goes (UpBy m) a b
reads_all f bs i j m a b end le p =
    let all : sum_by f (take i bs) ≡ sum_by f bs = ap (sum_by f) (take_all i bs end) in
    reads_more a b (j + sum_by f (take i bs)) m (omega arith) p
