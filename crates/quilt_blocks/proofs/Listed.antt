-- Lists that are the leaves of the grid that they paint.
use Rattle.std.proofs.Common.{◌≡◌, ℕ, ◌-◌, ◌*◌, ◌^◌, ◌<◌, ◌≤◌, List, [], ◌∷◌, length, get_or, sym, ◌∙◌, ap, subst, arith, Contains, ltb-true, nat_lt, pow_pos}
use Rattle.std.proofs.lemmas.Bool.{and_parts}
use Rattle.std.proofs.lemmas.Nat.{mod_below, div_below}
use Rattle.std.proofs.lemmas.List.{length-map, get_or-map}
use Rattle.std.proofs.lemmas.List.Elements.{All-contains, All-from_get_or}
use Rattle.quilt_types.specs.declared.plane.Pixel.{Pixel}
use Rattle.quilt_types.specs.declared.plane.Block.{Block}
use Rattle.quilt_types.specs.Plane.{side, whole, pixel_at, Holds, IsBlock}
use Rattle.quilt_types.specs.Layers.{colour_at}
use Rattle.quilt_loc.specs.Codes.{code_at, code_from, code_to}
use Rattle.quilt_loc.proofs.Rows.{length-grid_of, get_or-grid_of}
use Rattle.quilt_loc.proofs.Blocks.{Holds-from, IsBlock-from, Contains-blocks}
use Rattle.quilt_loc.proofs.Nesting.{Within-holds}
use Rattle.quilt_loc.proofs.Quartered.{Within-whole}
use Rattle.quilt_loc.proofs.Intervals.{code_held, side_squared, square_pos}
use Rattle.quilt_blocks.specs.declared.leaf.Leaf.{Leaf}
use Rattle.quilt_blocks.specs.Cutting.{leaf_pair}
use Rattle.quilt_blocks.specs.Mosaic.{IsMosaic}
use Rattle.quilt_blocks.specs.Painting.{colours_of, grid_by_code}
use Rattle.quilt_blocks.specs.Raster.{Raster, IsRaster}
use Rattle.quilt_blocks.specs.Listing.{IsListed, IsMaking, Follows, grid_from, leaf_pairs}
use Rattle.quilt_blocks.proofs.Chains.{size_of-nil, length-colours_of, Follows-member, member_with, colour_in, one_holds}
use Rattle.quilt_blocks.proofs.Cuts.{Runs, IsLeaf, leaf_is, leaves_run, leaves_members, leaves_are_by_code}
use Rattle.quilt_blocks.proofs.Leaves.{leaves_are}
use Rattle.quilt_blocks.proofs.Painting.{code_in, colour_at-grid_by_code}

-- the pixels of a block of the square are pixels of it
pub held_in : (n : ℕ) (b : Block) (p : Pixel) → IsBlock n b → Holds b p → (p.x < side n) × (p.y < side n)
held_in n b p h held =
    let w = Within-holds b (whole n) p (Within-whole n b h) held in
    let r = w.right in
    let d = w.bottom in
    (omega arith, omega arith)

-- a pixel of a member has the member's colour in the painted grid
pub painted_is : (n : ℕ) (es : List (Block × ℕ)) (e : Block × ℕ) (p : Pixel) → n ≤ 12 → Follows n 0 es → Contains es e → Holds e.0 p
    → colour_at n (grid_from n es) p ≡ e.1
painted_is n es e p le follows c held =
    let m = Follows-member n 0 es e follows c in
    let sq = held_in n e.0 p m.block held in
    let w = code_held n e.0 p m.block le held in
    let z : code_at p ≡ code_at p - 0 = omega arith in
    colour_at-grid_by_code n (colours_of es) p sq.0 sq.1 ∙ ap (λ k. get_or (colours_of es) k 0) z ∙ colour_in n 0 es e (code_at p) follows c w.0 w.1

mosaic : (n : ℕ) (es : List (Block × ℕ)) → IsMaking n es → length (colours_of es) ≡ 4 ^ n → IsMosaic n (grid_from n es) es
mosaic n es m long = record {
  blocks_only = λ e c. Contains-blocks n e.0 (Follows-member n 0 es e m.follows c).block;
  same_colour = λ e c p t. painted_is n es e p m.most m.follows c (Holds-from e.0 p t);
  cover = λ p t.
      let both = and_parts (nat_lt p.x (side n)) (nat_lt p.y (side n)) t in
      let hx = ltb-true p.x (side n) both.0 in
      let hy = ltb-true p.y (side n) both.1 in
      let i = code_in n p m.most hx hy in
      let l = length-colours_of es in
      one_holds n m.most p hx hy 0 es m.follows (omega arith) (omega arith);
  unmerged = λ b c cb part. m.unmerged.four b c (IsBlock-from n b cb) part;
}

-- blocks that cover the square and of which no four siblings have one colour are the leaves of what they paint
pub IsListed-made : (n : ℕ) (es : List (Block × ℕ)) → IsMaking n es → length (colours_of es) ≡ 4 ^ n → IsListed n es
IsListed-made n es m long = record {
  least = m.least;
  most = m.most;
  colours = m.colours;
  ordered = leaves_are_by_code n (grid_from n es) es m.most m.follows (leaves_are n (grid_from n es) es (mosaic n es m long));
}

module _ (n : ℕ) (es : List (Block × ℕ)) (h : IsListed n es) where
  pub listed_run : Runs n 0 (4 ^ n) es
  listed_run = subst (Runs n 0 (4 ^ n)) (sym h.ordered) (leaves_run n (grid_from n es) h.most)

  pub listed_leaf : (e : Block × ℕ) → Contains es e → IsLeaf n (grid_from n es) e
  listed_leaf e c =
      let g = grid_from n es in
      leaf_is n g e ((leaves_members n g e).0 (subst (λ (l : List (Block × ℕ)). Contains l e) h.ordered c))

  listed_with : (p : Pixel) → p.x < side n → p.y < side n → (e : Block × ℕ) × Contains es e × (code_from e.0 ≤ code_at p) × (code_at p < code_to e.0)
  listed_with p hx hy =
      let r = listed_run in
      let s = r.size in
      let i = code_in n p h.most hx hy in
      member_with n 0 es (code_at p) r.follows (omega arith) (omega arith)

  colour_small : (p : Pixel) → p.x < side n → p.y < side n → get_or (colours_of es) (code_at p) 0 < 65536
  colour_small p hx hy =
      let r = listed_run in
      let w = listed_with p hx hy in
      let z : code_at p ≡ code_at p - 0 = omega arith in
      let e : get_or (colours_of es) (code_at p) 0 ≡ (w.0).1 =
      ap (λ k. get_or (colours_of es) k 0) z ∙ colour_in n 0 es w.0 (code_at p) r.follows w.1 w.2 w.3 in
      let b = All-contains (λ (d : Block × ℕ). d.1 < 65536) es w.0 h.colours w.1 in
      omega arith

  pub listed_raster : let r : Raster = record { level = n; grid = grid_from n es } in IsRaster r
  unfolding grid_by_code
  listed_raster =
      let f : Pixel → ℕ = λ p. get_or (colours_of es) (code_at p) 0 in
      let long = length-grid_of n f in
      record {
        least = h.least;
        most = h.most;
        colours = record {
          size = long;
          colours = All-from_get_or (λ (c : ℕ). c < 65536) (grid_from n es) 0 (λ k lt.
              let lt' : k < side n * side n = omega arith in
              let e = get_or-grid_of n f k lt' in
              let s = colour_small (pixel_at n k) (mod_below k (side n) (pow_pos n)) (div_below k (side n) (side n) (pow_pos n) lt') in
              omega arith);
        };
      }

-- a leaf of the list, as the definitions have it
pub pair_member : (items : List Leaf) (i : ℕ) (d : Leaf) → i < length items → get_or items i d ≡ d → Contains (leaf_pairs items) (leaf_pair d)
pair_member items i d lt e = (i, (let l = length-map items leaf_pair in omega arith), get_or-map leaf_pair items i d (leaf_pair d) lt ∙ ap leaf_pair e)

pub some_leaf : (n : ℕ) (es : List (Block × ℕ)) → Runs n 0 (4 ^ n) es → 1 ≤ length es
some_leaf n [] r = let z = size_of-nil in let s = r.size in let p = four_pos n in absurd (omega arith)
  where
    four_pos : (n : ℕ) → 0 < 4 ^ n
    four_pos n = let s = side_squared n in let q = square_pos (2 ^ n) (pow_pos n) in omega arith
some_leaf n (e ∷ es) r = omega arith
