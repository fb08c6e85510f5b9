-- The pixels near the coloured leaves of a grid are those of its buffer.
use Rattle.std.proofs.Common.{◌≡◌, ℕ, ◌+◌, ◌-◌, ◌<◌, ◌≤◌, Bool, true, ◌&&◌, not, max, min, nat_le, eqb, filter, cond, sym, ◌∙◌, ap, arith, le-leb, leb-true}
use Rattle.std.specs.Prelude.{pos, ◌-ℤ◌}
use Rattle.std.specs.List.{list_any}
use Rattle.std.specs.Cmp.{both_ways}
use Rattle.std.proofs.lemmas.Bool.{and_parts, and_from}
use Rattle.std.proofs.lemmas.Int.{ints}
use borrow.Author.Differences.{abs_is}
use Rattle.quilt_types.specs.declared.plane.Pixel.{Pixel}
use Rattle.quilt_types.specs.declared.plane.Block.{Block}
use Rattle.quilt_types.specs.Plane.{pixels, Holds}
use Rattle.quilt_types.specs.Layers.{Grid, colour_at}
use Rattle.quilt_types.specs.Algebra.{difference_of, chessboard_distance, grid_of, buffered}
use Rattle.quilt_loc.proofs.Rows.{Contains-pixels, Contains-pixels_from}
use Rattle.quilt_loc.proofs.Members.{Contains-map, Contains-map_from, Contains-filter, Contains-filter_from}
use Rattle.quilt_loc.proofs.Nesting.{side_pos}
use Rattle.quilt_blocks.specs.Cutting.{leaves_by_code}
use Rattle.quilt_blocks.proofs.Cuts.{leaves_members, leaf_is}
use Rattle.quilt_blocks.proofs.Listed.{held_in}
use Rattle.quilt_blocks.proofs.PixelLeaves.{leaf_at}
use Rattle.quilt_buffer.specs.Reach.{reaches, within_reach, is_foreground, blocks_with_colour}
use Rattle.quilt_blocks.proofs.Squares.{grid_of-same}
use Rattle.quilt_buffer.proofs.Reaching.{InReach, InReach-from, reaches-true}
use Rattle.quilt_types.proofs.Lists.{any_member, any_from}

apart : (a b : ℕ) → difference_of a b ≡ (a - b) + (b - a)
apart a b = omega (arith, ints, abs_is (pos a -ℤ pos b))

near_from : (a b r : ℕ) → a ≤ b + r → b ≤ a + r → difference_of a b ≤ r
near_from a b r h k = let e = apart a b in omega arith

near_to : (a b r : ℕ) → difference_of a b ≤ r → (a ≤ b + r) × (b ≤ a + r)
near_to a b r h = let e = apart a b in (omega arith, omega arith)

max_le : (u v r : ℕ) → u ≤ r → v ≤ r → max u v ≤ r
max_le u v r h k = omega arith

max_parts : (u v r : ℕ) → max u v ≤ r → (u ≤ r) × (v ≤ r)
max_parts u v r h = (omega arith, omega arith)

-- a coloured pixel within r, as the definition of the buffer tests it
abbrev is_near : ℕ → Grid → ℕ → Pixel → Pixel → Bool
is_near n g r p q = not (eqb (colour_at n g q) 0) && nat_le (chessboard_distance p q) r

-- the pixel of the block that is nearest
abbrev nearest : Block → Pixel → Pixel
nearest b p = record { x = max b.x (min p.x (b.x + b.side - 1)); y = max b.y (min p.y (b.y + b.side - 1)) }

nearest_held : (b : Block) (p : Pixel) → 0 < b.side → Holds b (nearest b p)
nearest_held b p some = record { left = omega arith; right = omega arith; top = omega arith; bottom = omega arith }

nearest_near : (r : ℕ) (b : Block) (p : Pixel) → 0 < b.side → InReach r p b → chessboard_distance p (nearest b p) ≤ r
nearest_near r b p some h =
    let l = h.left in let w = h.right in let t = h.top in let d = h.bottom in
    let q = nearest b p in
    max_le (difference_of p.x q.x) (difference_of p.y q.y) r (near_from p.x q.x r (omega arith) (omega arith)) (near_from p.y q.y r (omega arith) (omega arith))

held_near : (r : ℕ) (b : Block) (p q : Pixel) → Holds b q → chessboard_distance p q ≤ r → InReach r p b
held_near r b p q h d =
    let l = h.left in let w = h.right in let t = h.top in let u = h.bottom in
    let m = max_parts (difference_of p.x q.x) (difference_of p.y q.y) r d in
    let x = near_to p.x q.x r m.0 in
    let y = near_to p.y q.y r m.1 in
    let x0 = x.0 in let x1 = x.1 in let y0 = y.0 in let y1 = y.1 in
    record { left = omega arith; right = omega arith; top = omega arith; bottom = omega arith }

module _ (n : ℕ) (g : Grid) (r : ℕ) (le : n ≤ 12) (p : Pixel) where
  to_pixel : list_any (reaches r p) (blocks_with_colour (leaves_by_code n g)) ≡ true → list_any (is_near n g r p) (pixels n) ≡ true
  to_pixel e =
      let m = any_member (reaches r p) (blocks_with_colour (leaves_by_code n g)) e in
      let f = Contains-map_from (λ (z : Block × ℕ). z.0) (filter is_foreground (leaves_by_code n g)) m.0 m.1 in
      let k = Contains-filter_from is_foreground (leaves_by_code n g) f.0 f.1 in
      let b = f.0.0 in
      let leaf = leaf_is n g f.0 ((leaves_members n g f.0).0 k.0) in
      let some = side_pos n b leaf.maximal.block in
      let q = nearest b p in
      let held = nearest_held b p some in
      let inside = held_in n b q leaf.maximal.block held in
      let near' = nearest_near r b p some (InReach-from r p b (ap (reaches r p) f.2 ∙ m.2)) in
      any_from (is_near n g r p) (pixels n) q (Contains-pixels n q inside.0 inside.1)
      (and_from _ _ (ap (λ c. not (eqb c 0)) (leaf.colour.each q held) ∙ k.1) (le-leb _ _ near'))

  to_leaf : list_any (is_near n g r p) (pixels n) ≡ true → list_any (reaches r p) (blocks_with_colour (leaves_by_code n g)) ≡ true
  to_leaf e =
      let m = any_member (is_near n g r p) (pixels n) e in
      let q = m.0 in
      let inside = Contains-pixels_from n q m.1 in
      let t = and_parts (not (eqb (colour_at n g q) 0)) (nat_le (chessboard_distance p q) r) m.2 in
      let w = leaf_at n g q le inside.0 inside.1 in
      let h = w.1 in
      let b = w.0.0 in
      let held = h.holds in
      let coloured : is_foreground w.0 ≡ true = ap (λ c. not (eqb c 0)) (sym (h.leaf.colour.each q held)) ∙ t.0 in
      let member = Contains-map (λ (z : Block × ℕ). z.0) (filter is_foreground (leaves_by_code n g)) w.0
      (Contains-filter is_foreground (leaves_by_code n g) w.0 ((leaves_members n g w.0).1 h.member) coloured) in
      any_from (reaches r p) (blocks_with_colour (leaves_by_code n g)) b member (reaches-true r p b (held_near r b p q held (leb-true _ _ t.1)))

  pub near_leaves : within_reach r (blocks_with_colour (leaves_by_code n g)) p ≡ cond (list_any (is_near n g r p) (pixels n)) 1 0
  near_leaves = ap (λ t. cond {A = ℕ} t 1 0)
      (both_ways (list_any (reaches r p) (blocks_with_colour (leaves_by_code n g))) (list_any (is_near n g r p) (pixels n)) to_pixel to_leaf)

-- the grid of the pixels near the coloured leaves
pub buffered_is : (n : ℕ) (g : Grid) (r : ℕ) → n ≤ 12 → grid_of n (within_reach r (blocks_with_colour (leaves_by_code n g))) ≡ buffered n g r
buffered_is n g r le =
    grid_of-same n (within_reach r (blocks_with_colour (leaves_by_code n g))) (λ p. cond (list_any (is_near n g r p) (pixels n)) 1 0)
    (λ p hx hy. near_leaves n g r le p)
