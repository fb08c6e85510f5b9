-- Sums over the pixels of the square, leaf by leaf.
use Rattle.std.proofs.Common.{◌≡◌, ℕ, ◌+◌, ◌*◌, ◌≤◌, Bool, true, false, cond, List, [], ◌∷◌, length, take, map, filter, sum_by, Contains, Equal, Less, Ordering}
use Rattle.std.proofs.Common.{sym, ◌∙◌, ap, ap₂, arith, eqb}
use Rattle.std.specs.Cmp.{tied_itself}
use Rattle.std.specs.Ordering.{nat_cmp}
use Rattle.std.proofs.Math.Nat.{mul-le-mul}
use Rattle.std.proofs.lemmas.List.{length-take}
use Rattle.std.proofs.lemmas.List.Sums.{sum_by-take-le, count_by-le-length}
use Rattle.quilt_types.specs.declared.plane.Pixel.{Pixel}
use Rattle.quilt_types.specs.declared.plane.Block.{Block}
use Rattle.quilt_types.specs.Plane.{side, below, pixels, pixels_of, pixel_cmp, in_block, IsBlock}
use Rattle.quilt_types.specs.Layers.{Grid, colour_at}
use Rattle.quilt_types.specs.Quadtrees.{leaves}
use Rattle.quilt_types.specs.Algebra.{grid_of, area}
use Rattle.quilt_loc.specs.Codes.{Rises}
use Rattle.quilt_loc.proofs.Members.{Contains-map_from, Contains-filter, Contains-filter_from}
use Rattle.quilt_loc.proofs.Blocks.{side_most, Holds-from, in_block-true, Contains-pixels_of, Contains-pixels_of_from}
use Rattle.quilt_loc.proofs.Rows.{Contains-pixels, Contains-pixels_from, grid_of-from, colour_at-pixel_at, length-table}
use Rattle.quilt_loc.proofs.Rising.{Rises-filter, Rises-map, Rises-flat_map, Rises-range, nat_less, nat_less_from, same_rising}
use Rattle.quilt_loc.proofs.Intervals.{side_squared}
use Rattle.quilt_blocks.specs.Cutting.{leaves_by_code, leaf_cmp}
use Rattle.quilt_blocks.specs.Walk.{pixel_count}
use Rattle.quilt_blocks.specs.Listing.{Follows}
use Rattle.quilt_blocks.proofs.Chains.{pixels_in, size_of-cons, member_pos, one_holds}
use Rattle.quilt_blocks.proofs.Cuts.{IsLeaf, leaf_is, leaves_members, leaves_run, leaves_rise, leaf_total}
use Rattle.quilt_blocks.proofs.Painting.{code_in}
use Rattle.quilt_blocks.proofs.Listed.{held_in}
use Rattle.quilt_measure.proofs.Sums.{Differ, same_sum, sum_by-same, sum_by-constant, sum_by-filter_is, sum_by-map_is, sum_by-parts}
use Rattle.quilt_loc.proofs.PlaneOrders.{pixel_total, block_total}
use Rattle.quilt_loc.proofs.InOrder.{Rises-pixels, Rises-leaves, same_number, then_first, then_second, leaf_cmp as place_cmp}

-- what rises has no two alike
differ_from : {X : Type 0} (R : X → X → Ordering) → ((x : X) → R x x ≡ Equal) → (xs : List X) → Rises R xs → Differ xs
differ_from R same [] h = tt
differ_from R same (x ∷ xs) h = (λ c. absurd (apart (R x x) (same x) (h.0 x c)), differ_from R same xs h.1)
  where
    apart : (o : Ordering) → o ≡ Equal → o ≡ Less → ⊥
    apart o e l = let z : Equal ≡ Less = sym e ∙ l in absurd (cc)

-- a sum over the leaves is the same in both orders
pub same_leaves : (n : ℕ) (g : Grid) (f : Block × ℕ → ℕ) → n ≤ 12 → sum_by f (leaves_by_code n g) ≡ sum_by f (leaves n g)
same_leaves n g f le =
    same_sum f (leaves_by_code n g) (leaves n g)
    (differ_from leaf_cmp (λ e. tied_itself leaf_total e) (leaves_by_code n g) (leaves_rise n g le))
    (differ_from place_cmp (λ e. tied_itself block_total e.0) (leaves n g) (Rises-leaves n g)) (leaves_members n g)

-- the pixels of a block from above, each row from the left
Rises-pixels_of : (b : Block) → Rises pixel_cmp (pixels_of b)
unfolding pixels_of
Rises-pixels_of b =
    let at : ℕ → ℕ → Pixel = λ dy dx. record { x = b.x + dx; y = b.y + dy } in
    Rises-flat_map nat_cmp pixel_cmp (λ y. map (at y) (below b.side)) (below b.side) (Rises-range 0 b.side)
    (λ y c. Rises-map nat_cmp pixel_cmp (at y) (below b.side)
    (λ i j _ _ e. then_second (nat_cmp (b.y + y) (b.y + y)) (nat_cmp (b.x + i) (b.x + j)) (same_number (b.y + y)) ∙ shifted b.x i j e) (Rises-range 0 b.side))
    (λ i j e u v c d.
    let cu = Contains-map_from (at i) (below b.side) u c in
    let cv = Contains-map_from (at j) (below b.side) v d in
    let yu : b.y + i ≡ u.y = ap (λ (p : Pixel). p.y) cu.2 in
    let yv : b.y + j ≡ v.y = ap (λ (p : Pixel). p.y) cv.2 in
    then_first (nat_cmp u.y v.y) (nat_cmp u.x v.x) (ap₂ nat_cmp (sym yu) (sym yv) ∙ shifted b.y i j e))
  where
    shifted : (a i j : ℕ) → nat_cmp i j ≡ Less → nat_cmp (a + i) (a + j) ≡ Less
    shifted a i j e = let l = nat_less_from i j e in nat_less (a + i) (a + j) (omega arith)

-- the pixels of the square that a block holds are its pixels
pixels_held : (n : ℕ) (b : Block) → IsBlock n b → filter (in_block b) (pixels n) ≡ pixels_of b
pixels_held n b hb =
    same_rising pixel_cmp pixel_total (filter (in_block b) (pixels n)) (pixels_of b)
    (Rises-filter pixel_cmp (in_block b) (pixels n) (Rises-pixels n)) (Rises-pixels_of b)
    (λ p. (
      λ c. let r = Contains-filter_from (in_block b) (pixels n) p c in Contains-pixels_of b p (Holds-from b p r.1),
      λ c.
          let h = Contains-pixels_of_from b p c in
          let sq = held_in n b p hb h in
          Contains-filter (in_block b) (pixels n) p (Contains-pixels n p sq.0 sq.1) (in_block-true b p h),
    ))

pub length-pixels_of : (b : Block) → length (pixels_of b) ≡ b.side * b.side
unfolding pixels_of
length-pixels_of b = length-table (λ dy dx. let p : Pixel = record { x = b.x + dx; y = b.y + dy } in p) b.side 0 b.side

-- a leaf of the list
pub a_leaf : (n : ℕ) (g : Grid) (e : Block × ℕ) → Contains (leaves_by_code n g) e → IsLeaf n g e
a_leaf n g e c = leaf_is n g e ((leaves_members n g e).0 c)

-- a sum over the pixels is that over the leaves of the sums over their pixels
pub sum_by_leaves : (n : ℕ) (g : Grid) (f : Pixel → ℕ) → n ≤ 12 → sum_by f (pixels n) ≡ sum_by (λ e. sum_by f (pixels_of e.0)) (leaves_by_code n g)
sum_by_leaves n g f le =
    let es = leaves_by_code n g in
    let run = leaves_run n g le in
    sym (sum_by-parts (λ (e : Block × ℕ) p. in_block e.0 p) f es (pixels n) (λ p c.
    let sq = Contains-pixels_from n p c in
    let i = code_in n p le sq.0 sq.1 in
    let s = run.size in
    one_holds n le p sq.0 sq.1 0 es run.follows (omega arith) (omega arith)))
    ∙ sum_by-same (λ (e : Block × ℕ). sum_by (λ p. cond (in_block e.0 p) (f p) 0) (pixels n)) (λ e. sum_by f (pixels_of e.0)) es (λ e c.
    sym (sum_by-filter_is f (in_block e.0) (pixels n)) ∙ ap (sum_by f) (pixels_held n e.0 (a_leaf n g e c).maximal.block))

-- how many pixels of the colour a leaf has
abbrev pub part : ℕ → Block × ℕ → ℕ
part c e = cond (eqb e.1 c) (e.0.side * e.0.side) 0

-- the pixels of the leaves of a colour
pub area_is : (n : ℕ) (g : Grid) (c : ℕ) → n ≤ 12 → length g ≡ side n * side n → sum_by (part c) (leaves_by_code n g) ≡ area g c
unfolding grid_of
area_is n g c le long =
    let mark : ℕ → ℕ = λ d. cond (eqb d c) 1 0 in
    let is : g ≡ grid_of n (colour_at n g) = grid_of-from n (colour_at n g) g long (λ k lt. sym (colour_at-pixel_at n g k)) in
    sym (ap (sum_by mark) is ∙ sum_by-map_is mark (colour_at n g) (pixels n) ∙ sum_by_leaves n g (λ p. mark (colour_at n g p)) le
    ∙ sum_by-same (λ (e : Block × ℕ). sum_by (λ p. mark (colour_at n g p)) (pixels_of e.0)) (part c) (leaves_by_code n g) (λ e m.
    let l = a_leaf n g e m in
    sum_by-constant (λ p. mark (colour_at n g p)) (mark e.1) (pixels_of e.0) (λ p h. ap mark (l.colour.each p (Contains-pixels_of_from e.0 p h)))
    ∙ ap (λ k. k * mark e.1) (length-pixels_of e.0) ∙ times (eqb e.1 c) (e.0.side * e.0.side)))
  where
    times : (b : Bool) (v : ℕ) → v * cond {A = ℕ} b 1 0 ≡ cond b v 0
    times true v = omega arith
    times false v = omega arith

-- there are no more leaves than pixels
pub few_leaves : (n at : ℕ) (es : List (Block × ℕ)) → Follows n at es → length es ≤ pixel_count es
few_leaves n at [] h = omega arith
few_leaves n at (e ∷ es) h =
    let s = size_of-cons e es in
    let p = member_pos n e.0 h.0 in
    let r = few_leaves n (at + pixels_in e) es h.2 in
    omega arith

area_small : (n : ℕ) (g : Grid) (c : ℕ) → n ≤ 12 → length g ≡ side n * side n → area g c ≤ 4096 * 4096
area_small n g c le long =
    let m = side_most n le in
    let few = count_by-le-length (λ d. eqb d c) g in
    let most : side n * side n ≤ 4096 * 4096 = mul-le-mul m m in
    omega arith

-- no part of an area is larger than the square
pub some_area_small : (n : ℕ) (g : Grid) (c i : ℕ) → n ≤ 12 → length g ≡ side n * side n → sum_by (part c) (take i (leaves_by_code n g)) ≤ 4096 * 4096
some_area_small n g c i le long =
    let some = sum_by-take-le (part c) (leaves_by_code n g) i in
    let all = area_is n g c le long in
    let small = area_small n g c le long in
    omega arith

pub leaves_few : (n : ℕ) (g : Grid) → n ≤ 12 → length (leaves_by_code n g) ≤ 4096 * 4096
leaves_few n g le =
    let run = leaves_run n g le in
    let few = few_leaves n 0 (leaves_by_code n g) run.follows in
    let all = run.size in
    let s = side_squared n in
    let m = side_most n le in
    let most : side n * side n ≤ 4096 * 4096 = mul-le-mul m m in
    omega arith

pub taken_few : (es : List (Block × ℕ)) (i : ℕ) → length (take i es) ≤ length es
taken_few es i = omega (arith, length-take i es)
