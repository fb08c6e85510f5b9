-- What pushed blocks paint, pixel by pixel.
use Rattle.std.proofs.Common.{◌≡◌, ℕ, ◌+◌, ◌-◌, ◌*◌, ◌^◌, ◌<◌, ◌≤◌, List, [], ◌++◌, length, get_or, sym, ◌∙◌, ap, ⊎_elim, arith, replicate, get_or-append-add}
use Rattle.std.proofs.Common.{length-append, pow_pos}
use Rattle.std.specs.Prelude.{slice_index}
use Rattle.std.proofs.lemmas.Bool.{cases_lt}
use Rattle.std.proofs.lemmas.List.{length-replicate, get_or-replicate, get_or_append_left}
use Rattle.std.proofs.lemmas.Nat.{mod_below, div_below}
use Rattle.quilt_types.specs.declared.plane.Pixel.{Pixel}
use Rattle.quilt_types.specs.declared.plane.Block.{Block}
use Rattle.quilt_types.specs.Plane.{side, whole, pixel_at, Holds, IsBlock}
use Rattle.quilt_types.specs.Layers.{colour_at}
use Rattle.quilt_types.specs.Algebra.{grid_of}
use Rattle.quilt_loc.specs.Codes.{code_at, code_from}
use Rattle.quilt_loc.proofs.Rows.{colour_at-grid_of, length-grid_of, grid_of-from, get_or-grid_of}
use Rattle.quilt_loc.proofs.Blocks.{side_most}
use Rattle.quilt_loc.proofs.Quartered.{IsBlock-whole, Holds-whole}
use Rattle.quilt_loc.proofs.Intervals.{code_held, held_code, side_squared, origin_code}
use Rattle.quilt_blocks.specs.Painting.{grid_by_code}

-- the pixels so far have the colours of f
pub record Paints (n : ℕ) (f : Pixel → ℕ) (colours : List ℕ) : Type 0 where
  pub each : (p : Pixel) → p.x < side n → p.y < side n → code_at p < length colours → slice_index colours (code_at p) ≡ f p

pub Paints-none : (n : ℕ) (f : Pixel → ℕ) → Paints n f []
Paints-none n f = record { each = λ p hx hy lt. absurd (omega arith) }

-- after a block, each pixel of which has this colour
pub Paints-push : (n : ℕ) (f : Pixel → ℕ) (colours : List ℕ) (b : Block) (c : ℕ) → n ≤ 12 → IsBlock n b → code_from b ≡ length colours
    → ((p : Pixel) → Holds b p → f p ≡ c) → Paints n f colours → Paints n f (colours ++ replicate (b.side * b.side) c)
Paints-push n f colours b c le h at same old =
    let long : length (replicate (b.side * b.side) c) ≡ b.side * b.side = length-replicate (b.side * b.side) c in
    let all = length-append colours (replicate (b.side * b.side) c) in
    let m = side_most n le in
    let ix = h.in_x in
    let iy = h.in_y in
    record {
      each = λ p hx hy lt.
          ⊎_elim
          (λ low. get_or_append_left colours (replicate (b.side * b.side) c) 0 (code_at p) low ∙ old.each p hx hy low)
          (λ high.
          let held = held_code n b p h le (omega arith) (omega arith) (omega arith) (omega arith) (omega arith) (omega arith) in
          let split : code_at p ≡ length colours + (code_at p - length colours) = omega arith in
          ap (λ i. get_or (colours ++ replicate (b.side * b.side) c) i 0) split
          ∙ get_or-append-add colours (replicate (b.side * b.side) c) (code_at p - length colours) 0
          ∙ get_or-replicate (b.side * b.side) (code_at p - length colours) c 0 (omega arith)
          ∙ sym (same p held)) (cases_lt (code_at p) (length colours));
    }

-- codes of pixels of the square
pub code_in : (n : ℕ) (p : Pixel) → n ≤ 12 → p.x < side n → p.y < side n → code_at p < 4 ^ n
code_in n p le hx hy =
    let s = side_squared n in
    let z = origin_code in
    let w = code_held n (whole n) p (IsBlock-whole n) le (Holds-whole n p hx hy) in
    let t = w.1 in
    omega arith

-- once all is painted, the grid is that of f
pub Paints-all : (n : ℕ) (f : Pixel → ℕ) (colours : List ℕ) → n ≤ 12 → length colours ≡ 4 ^ n → Paints n f colours → grid_by_code n colours ≡ grid_of n f
unfolding grid_by_code
Paints-all n f colours le long h =
    let by : Pixel → ℕ = λ p. slice_index colours (code_at p) in
    grid_of-from n f (grid_of n by) (length-grid_of n by)
    (λ k lt.
    let p = pixel_at n k in
    let hx = mod_below k (side n) (pow_pos n) in
    let hy = div_below k (side n) (side n) (pow_pos n) lt in
    get_or-grid_of n by k lt ∙ h.each p hx hy (let i = code_in n p le hx hy in omega arith))

-- the colour of a pixel of the painted grid
pub colour_at-grid_by_code : (n : ℕ) (colours : List ℕ) (p : Pixel) → p.x < side n → p.y < side n
    → colour_at n (grid_by_code n colours) p ≡ slice_index colours (code_at p)
unfolding grid_by_code
colour_at-grid_by_code n colours p hx hy = colour_at-grid_of n (λ q. slice_index colours (code_at q)) p hx hy
