-- Pixels, blocks and leaves stand in order, so a list in order with the same elements is that list.
use Rattle.std.proofs.Common.{◌≡◌, ℕ, ◌+◌, ◌%◌, Bool, ◌&&◌, map, filter, refl, sym, ◌∙◌, ap, ap₂, Contains, Ordering, Less, Equal, Greater, nat_cmp, eqb}
use Rattle.std.specs.Ordering.{ordering_then}
use Rattle.std.specs.Cmp.{nat_cmp_total, tied_itself}
use Rattle.std.proofs.lemmas.Nat.{pow_below}
use Rattle.quilt_types.specs.declared.plane.Pixel.{Pixel}
use Rattle.quilt_types.specs.declared.plane.Block.{Block}
use Rattle.quilt_types.specs.Plane.{side, below, pixels, pixel_cmp, blocks_at, blocks, block_cmp}
use Rattle.quilt_types.specs.Layers.{Grid}
use Rattle.quilt_types.specs.Quadtrees.{is_uniform, is_maximal, maximal_blocks, coloured, leaves}
use Rattle.quilt_loc.specs.Codes.{Rises}
use Rattle.quilt_types.proofs.Members.{Contains-map_from}
use Rattle.quilt_loc.proofs.Rising.{Rises-filter, Rises-map, Rises-flat_map, Rises-range, nat_less, nat_less_from}

pub same_number : (a : ℕ) → nat_cmp a a ≡ Equal
same_number a = tied_itself nat_cmp_total a

pub then_first : (a b : Ordering) → a ≡ Less → ordering_then a b ≡ Less
then_first a b e = ap (λ o. ordering_then o b) e

pub then_second : (a b : Ordering) → a ≡ Equal → ordering_then a b ≡ b
then_second a b e = ap (λ o. ordering_then o b) e

pub Rises-pixels : (n : ℕ) → Rises pixel_cmp (pixels n)
unfolding pixels
Rises-pixels n =
    let at : ℕ → ℕ → Pixel = λ y x. record { x = x; y = y } in
    Rises-flat_map nat_cmp pixel_cmp (λ y. map (at y) (below (side n))) (below (side n)) (Rises-range 0 (side n))
    (λ y c. Rises-map nat_cmp pixel_cmp (at y) (below (side n)) (λ a b _ _ e. then_second (nat_cmp y y) (nat_cmp a b) (same_number y) ∙ e)
    (Rises-range 0 (side n)))
    (λ a b e u v c d.
    let cu = Contains-map_from (at a) (below (side n)) u c in
    let cv = Contains-map_from (at b) (below (side n)) v d in
    let yu : a ≡ u.y = ap (λ (p : Pixel). p.y) cu.2 in
    let yv : b ≡ v.y = ap (λ (p : Pixel). p.y) cv.2 in
    then_first (nat_cmp u.y v.y) (nat_cmp u.x v.x) (ap₂ nat_cmp (sym yu) (sym yv) ∙ e))

block_of : Pixel → ℕ → Block
block_of p s = record { x = p.x; y = p.y; side = s }

-- of pixels in order the blocks at them are in order
corners : (p q : Pixel) → pixel_cmp p q ≡ Less → (a b : Block) → a.x ≡ p.x → a.y ≡ p.y → b.x ≡ q.x → b.y ≡ q.y → block_cmp a b ≡ Less
corners p q e a b ax ay bx by' =
    ap₂ (λ u v. ordering_then u (ordering_then v (nat_cmp a.side b.side))) (ap₂ nat_cmp ay by') (ap₂ nat_cmp ax bx)
    ∙ longer (nat_cmp p.y q.y) (nat_cmp p.x q.x) (nat_cmp a.side b.side) e
  where
    longer : (u v w : Ordering) → ordering_then u v ≡ Less → ordering_then u (ordering_then v w) ≡ Less
    longer Less v w e = refl
    longer Equal Less w e = refl
    longer Equal Equal w e = cc
    longer Equal Greater w e = cc
    longer Greater v w e = cc

abbrev fits_at : Pixel → ℕ → Bool
fits_at p s = eqb (p.x % s) 0 && eqb (p.y % s) 0

three_way : (b : Block) (s t : ℕ) → nat_cmp s t ≡ Less → ordering_then (nat_cmp b.y b.y) (ordering_then (nat_cmp b.x b.x) (nat_cmp s t)) ≡ Less
three_way b s t e =
    then_second (nat_cmp b.y b.y) (ordering_then (nat_cmp b.x b.x) (nat_cmp s t)) (same_number b.y)
    ∙ then_second (nat_cmp b.x b.x) (nat_cmp s t) (same_number b.x) ∙ e

Rises-blocks_at : (n : ℕ) (p : Pixel) → Rises block_cmp (blocks_at n p)
unfolding blocks_at block_of
Rises-blocks_at n p =
    Rises-map nat_cmp block_cmp (block_of p) (filter (fits_at p) (map side (below (n + 1))))
    (λ s t _ _ e. three_way (block_of p 0) s t e)
    (Rises-filter nat_cmp (fits_at p) (map side (below (n + 1)))
    (Rises-map nat_cmp nat_cmp side (below (n + 1)) (λ i j _ _ e. nat_less (side i) (side j) (pow_below i j (nat_less_from i j e))) (Rises-range 0 (n + 1))))

at_corner : (n : ℕ) (p : Pixel) (b : Block) → Contains (blocks_at n p) b → (b.x ≡ p.x) × (b.y ≡ p.y)
unfolding blocks_at block_of
at_corner n p b c =
    let r = Contains-map_from (block_of p) (filter (fits_at p) (map side (below (n + 1)))) b c in
    (sym (ap (λ (z : Block). z.x) r.2), sym (ap (λ (z : Block). z.y) r.2))

pub Rises-blocks : (n : ℕ) → Rises block_cmp (blocks n)
unfolding blocks
Rises-blocks n =
    Rises-flat_map pixel_cmp block_cmp (blocks_at n) (pixels n) (Rises-pixels n) (λ p _. Rises-blocks_at n p)
    (λ p q e u v c d. let a = at_corner n p u c in let b = at_corner n q v d in corners p q e u v a.0 a.1 b.0 b.1)

pub Rises-maximal : (n : ℕ) (fits : Block → Bool) → Rises block_cmp (maximal_blocks n fits)
unfolding maximal_blocks
Rises-maximal n fits = Rises-filter block_cmp (is_maximal n fits) (blocks n) (Rises-blocks n)

-- leaves in the order of their blocks
abbrev pub leaf_cmp : Block × ℕ → Block × ℕ → Ordering
leaf_cmp d e = block_cmp d.0 e.0

pub Rises-leaves : (n : ℕ) (g : Grid) → Rises leaf_cmp (leaves n g)
unfolding leaves
Rises-leaves n g =
    Rises-map block_cmp leaf_cmp (coloured n g) (maximal_blocks n (is_uniform n g)) (λ a b _ _ e. e) (Rises-maximal n (is_uniform n g))
