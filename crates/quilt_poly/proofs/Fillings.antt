-- The grid of the pixels inside of rings, by their edges.
use Rattle.std.proofs.Common.{◌≡◌, ℕ, ◌%◌, ◌<◌, Bool, true, false, cond, eqb, List, [], ◌∷◌, map, flat_map, count_by, refl, sym, ◌∙◌, ap, arith}
use Rattle.std.proofs.lemmas.List.Sums.{sum_by-cons}
use Rattle.quilt_types.specs.declared.plane.Pixel.{Pixel}
use Rattle.quilt_types.specs.declared.plane.Corner.{Corner}
use Rattle.quilt_types.specs.Algebra.{grid_of}
use Rattle.quilt_types.specs.Polygons.{ring_edges, filled_rings, is_right_of, is_inside}
use Rattle.quilt_blocks.proofs.Squares.{grid_of-same}
use Rattle.quilt_poly.specs.declared.edges.RingEdge.{RingEdge}
use Rattle.quilt_types.specs.declared.plane.Block.{Block}
use Rattle.quilt_types.specs.Plane.{side, Holds, IsBlock}
use Rattle.quilt_loc.proofs.Rows.{colour_at-grid_of}
use Rattle.quilt_blocks.specs.Mosaic.{HasColour}
use Rattle.quilt_blocks.proofs.Listed.{held_in}
use Rattle.quilt_poly.specs.Bits.{bit_in, colour_in, HasParities}
use Rattle.quilt_poly.specs.Edges.{edge_of, crosses, colour_by}

count-map : (p : Pixel) (edges : List RingEdge) → count_by (is_right_of p) (map edge_of edges) ≡ count_by (crosses p) edges
unfolding crosses
count-map p [] = refl
count-map p (e ∷ edges) =
    let f = sum_by-cons (λ d. cond {A = ℕ} (is_right_of p d) 1 0) (edge_of e) (map edge_of edges) in
    let g = sum_by-cons (λ d. cond {A = ℕ} (is_right_of p (edge_of d)) 1 0) e edges in
    let more = count-map p edges in
    omega arith

-- the colours of the pixels inside of the rings
colour_by-rings : (edges : List RingEdge) (rings : List (List Corner)) (c : ℕ) (p : Pixel) → map edge_of edges ≡ flat_map ring_edges rings
    → colour_by edges c p ≡ cond (is_inside rings p) c 0
unfolding colour_by
colour_by-rings edges rings c p are =
    ap (λ n. cond (eqb (n % 2) 1) c 0) (sym (count-map p edges) ∙ ap (count_by (is_right_of p)) are)

-- the colour of a pixel by its bit
pub colour_in-is : (words : List ℕ) (s c : ℕ) (p : Pixel) (inside : Bool) → bit_in words s p.y p.x ≡ cond {A = ℕ} inside 1 0
    → colour_in words s c p ≡ cond inside c 0
unfolding colour_in
colour_in-is words s c p true is = ap (λ b. cond (eqb b 1) c 0) is
colour_in-is words s c p false is = ap (λ b. cond (eqb b 1) c 0) is

-- a block whose bits are one
pub bits_colour : (n : ℕ) (words : List ℕ) (c : ℕ) (b : Block) (inside : Bool) (colour : ℕ) → IsBlock n b
    → ((p : Pixel) → Holds b p → bit_in words (side n) p.y p.x ≡ cond {A = ℕ} inside 1 0) → colour ≡ cond inside c 0
    → HasColour n (grid_of n (colour_in words (side n) c)) b colour
bits_colour n words c b inside colour hb bits is = record {
  each = λ p h.
      let i = held_in n b p hb h in
      colour_at-grid_of n (colour_in words (side n) c) p i.0 i.1 ∙ colour_in-is words (side n) c p inside (bits p h) ∙ sym is;
}

-- the colours of the bits are those inside of the rings
colour_in-rings : (words : List ℕ) (s c : ℕ) (edges : List RingEdge) (p : Pixel) → HasParities s (λ q. count_by (crosses q) edges) words → p.x < s → p.y < s
    → colour_in words s c p ≡ colour_by edges c p
unfolding colour_in colour_by
colour_in-rings words s c edges p odd px py = ap (λ b. cond (eqb b 1) c 0) (odd.each p px py)

-- the grid that is 0 outside of the rings
pub filled_is : (n : ℕ) (words : List ℕ) (edges : List RingEdge) (rings : List (List Corner)) (c : ℕ) → map edge_of edges ≡ flat_map ring_edges rings
    → HasParities (side n) (λ q. count_by (crosses q) edges) words → grid_of n (colour_in words (side n) c) ≡ filled_rings n rings c
unfolding filled_rings
filled_is n words edges rings c are odd =
    grid_of-same n (colour_in words (side n) c) (λ p. cond (is_inside rings p) c 0)
    (λ p hx hy. colour_in-rings words (side n) c edges p odd hx hy ∙ colour_by-rings edges rings c p are)
