-- What a search by blocks may still read, by a test of the blocks that it opens, and that it ends.
use Rattle.std.proofs.Common.{◌≡◌, ℕ, ◌+◌, ◌*◌, ◌/◌, ◌<◌, ◌≤◌, Bool, true, false, cond, ◌&&◌, List, [], ◌∷◌, ◌++◌, map, length, sum_by, refl, ◌∙◌, arith, ap}
use Rattle.std.proofs.Common.{IsPermutation}
use Rattle.std.specs.FinMap as finmap
use Rattle.std.proofs.Math.Nat.{mul-le-mul_right}
use Rattle.std.proofs.lemmas.Bool.{and_from}
use Rattle.std.proofs.lemmas.List.Sorted.{sum_by_popped, sum_by-IsPermutation}
use Rattle.std.proofs.lemmas.List.Sums.{sum_by-append, sum_by-cons, length-filter}
use Rattle.quilt_types.specs.Sets as finset
use Rattle.quilt_types.specs.declared.plane.Block.{Block}
use Rattle.quilt_types.specs.declared.plane.Seg.{Seg}
use Rattle.quilt_types.specs.Plane.{blocks, quarters_of, whole, IsBlock}
use Rattle.quilt_types.specs.Segments.{meets, square}
use Rattle.quilt_types.specs.Quadtrees.{is_reached, segs_meeting, reach}
use Rattle.quilt_loc.proofs.Blocks.{Contains-blocks}
use Rattle.quilt_loc.proofs.Nesting.{side_pos}
use Rattle.quilt_near.specs.Lines.{Lines, meeting}
use Rattle.quilt_near.specs.Budgets.{price, budget}
use Rattle.quilt_near.proofs.Budgets.{budget_le, kept_le, itself_le, quarters_le}

-- what a look at a block may cost, if it passes the test and the search can meet it
abbrev pub cost : (Block → Bool) → Lines → Block → ℕ
cost test l b = cond (test b && is_reached l.cover b) (price l.segs l.cover b) 0

cost_is : (test : Block → Bool) (l : Lines) (b : Block) → test b ≡ true → is_reached l.cover b ≡ true → cost test l b ≡ price l.segs l.cover b
cost_is test l b passes reached = ap (λ t. cond t (price l.segs l.cover b) 0) (and_from (test b) (is_reached l.cover b) passes reached)

sum_by-map : {X Y : Type 0} (f : X → Y) (g : Y → ℕ) (xs : List X) → sum_by (λ x. g (f x)) xs ≡ sum_by g (map f xs)
sum_by-map f g [] = refl
sum_by-map f g (x ∷ xs) = let r = sum_by-map f g xs in omega (arith, sum_by-cons (λ z. g (f z)) x xs, sum_by-cons g (f x) (map f xs))

-- What waits is anything with a block.
module _ {E : Type 0} (block_of : E → Block) where
  -- what the blocks that wait may cost
  abbrev pub owed : ℕ → (Block → Bool) → Lines → List E → ℕ
  owed n test l queue = sum_by (λ e. budget (cost test l) (blocks n) (block_of e)) queue

  pub owed_first : (n : ℕ) (test : Block → Bool) (l : Lines) (first : E) (queue : List E) → block_of first ≡ whole n
      → IsPermutation (first ∷ []) queue → owed n test l queue ≤ reach n l.segs l.cover test
  unfolding reach
  owed_first n test l first queue is h =
      let v = cost test l in
      let one : owed n test l queue ≡ 0 + budget v (blocks n) (block_of first) =
      sum_by-IsPermutation (λ (e : E). budget v (blocks n) (block_of e)) (first ∷ []) queue h in
      let all = budget_le v (blocks n) (block_of first) in
      let kept = kept_le (price l.segs l.cover) (λ b. test b && is_reached l.cover b) (blocks n) in
      omega arith

  -- one that waits comes out
  module _ (n : ℕ) (test : Block → Bool) (l : Lines) (queue rest : List E) (e : E) (h : IsPermutation queue (e ∷ rest)) where
    -- and is not opened
    pub owed_left : owed n test l rest ≤ owed n test l queue
    owed_left = let took = sum_by_popped (λ (z : E). budget (cost test l) (blocks n) (block_of z)) e queue rest h in omega arith

    -- and is opened
    module _ (block : IsBlock n (block_of e)) (reached : is_reached l.cover (block_of e) ≡ true) (passes : test (block_of e) ≡ true) where
      pub owed_leaf : (list : List (ℕ × Seg)) → finset.contains l.cover (block_of e) ≡ true → list ≡ meeting l.segs (block_of e)
          → owed n test l rest + (12 + 6 * length list) ≤ owed n test l queue
      owed_leaf list whole same =
          let b = block_of e in
          let v = cost test l in
          let took = sum_by_popped (λ (z : E). budget v (blocks n) (block_of z)) e queue rest h in
          let own = itself_le v (blocks n) b (side_pos n b block) (Contains-blocks n b block) in
          let is : v b ≡ 12 + 6 * segs_meeting l.segs b = cost_is test l b passes reached ∙ ap (λ t. cond t (12 + 6 * segs_meeting l.segs b) 12) whole in
          let many : length list ≡ segs_meeting l.segs b = ap length same ∙ length-filter (λ (z : ℕ × Seg). meets z.1 (square b)) (finmap.entries l.segs) in
          omega arith

      pub owed_split : (four new : List E) → 1 < (block_of e).side → finset.contains l.cover (block_of e) ≡ false
          → map block_of four ≡ quarters_of (block_of e) → IsPermutation (four ++ rest) new → owed n test l new + 12 ≤ owed n test l queue
      owed_split four new wide cut are h' =
          let b = block_of e in
          let v = cost test l in
          let g = λ (z : E). budget v (blocks n) (block_of z) in
          let took = sum_by_popped g e queue rest h in
          let put : sum_by g new ≡ sum_by g four + sum_by g rest = sum_by-IsPermutation g (four ++ rest) new h' ∙ sum_by-append g four rest in
          let same : sum_by g four ≡ sum_by (budget v (blocks n)) (quarters_of b) =
          sum_by-map block_of (budget v (blocks n)) four ∙ ap (sum_by (budget v (blocks n))) are in
          let own = quarters_le v (blocks n) b wide (Contains-blocks n b block) in
          let is : v b ≡ 12 = cost_is test l b passes reached ∙ ap (λ t. cond t (12 + 6 * segs_meeting l.segs b) 12) cut in
          omega arith

  -- ---- and that it ends

  -- how much is left to open
  abbrev pub left : List E → ℕ
  left queue = sum_by (λ e. (block_of e).side * (block_of e).side * (block_of e).side) queue

  cube_pos : (s : ℕ) → 0 < s → 0 < s * s * s
  cube_pos s pos = let a = mul-le-mul_right s pos in let b = mul-le-mul_right s a in omega arith

  cubes : (t s : ℕ) → 0 < t → t + t ≤ s → t * t * t + t * t * t + t * t * t + t * t * t < s * s * s
  cubes t s pos le =
      let a = mul-le-mul_right (t + t) le in
      let b = mul-le-mul_right s le in
      let squares : (t + t) * (t + t) ≤ s * s = omega arith in
      let c = mul-le-mul_right (t + t) squares in
      let d = mul-le-mul_right (s * s) le in
      let e = cube_pos t pos in
      omega arith

  pub left_leaf : (queue rest : List E) (e : E) → IsPermutation queue (e ∷ rest) → 0 < (block_of e).side → left rest < left queue
  left_leaf queue rest e h pos =
      let took = sum_by_popped (λ (z : E). (block_of z).side * (block_of z).side * (block_of z).side) e queue rest h in
      let c = cube_pos (block_of e).side pos in
      omega arith

  pub left_split : (queue rest new four : List E) (e : E) → IsPermutation queue (e ∷ rest) → 1 < (block_of e).side
      → map block_of four ≡ quarters_of (block_of e) → IsPermutation (four ++ rest) new → left new < left queue
  left_split queue rest new four e h wide are h' =
      let cube = λ (b : Block). b.side * b.side * b.side in
      let g = λ (z : E). cube (block_of z) in
      let took = sum_by_popped g e queue rest h in
      let put : sum_by g new ≡ sum_by g four + sum_by g rest = sum_by-IsPermutation g (four ++ rest) new h' ∙ sum_by-append g four rest in
      let t = (block_of e).side / 2 in
      let same : sum_by g four ≡ 0 + t * t * t + t * t * t + t * t * t + t * t * t = sum_by-map block_of cube four ∙ ap (sum_by cube) are in
      let c = cubes t (block_of e).side (omega arith) (omega arith) in
      omega arith
