-- Squares of pixels, blocks of the square, and how much room they have.
use Rattle.std.proofs.Common.{◌≡◌, ℕ, ◌+◌, ◌*◌, ◌%◌, ◌^◌, ◌<◌, ◌≤◌, ⊎_elim, sym, ◌∙◌, subst, arith}
use Rattle.std.proofs.lemmas.Bool.{cases_lt}
use Rattle.std.proofs.lemmas.Nat.{pow_below}
use Rattle.quilt_types.specs.declared.plane.Pixel.{Pixel}
use Rattle.quilt_types.specs.declared.plane.Block.{Block}
use Rattle.quilt_types.specs.Plane.{side, whole, IsBlock}
use Rattle.quilt_types.specs.Algebra.{grid_of}
use Rattle.quilt_loc.specs.Codes.{code_to}
use Rattle.quilt_loc.proofs.Blocks.{side_most}
use Rattle.quilt_loc.proofs.Rows.{grid_of-from, get_or-grid_of, length-grid_of}
use Rattle.quilt_loc.proofs.Quartered.{Within-whole, IsBlock-whole}
use Rattle.quilt_loc.proofs.Intervals.{side_squared, origin_code}
use Rattle.quilt_types.specs.Plane.{pixel_at}
use Rattle.std.proofs.lemmas.Nat.{mod_below, div_below}
use Rattle.std.proofs.Common.{pow_pos}

pub block_room : (n : ℕ) (b : Block) → n ≤ 12 → IsBlock n b → (b.x + b.side ≤ 4096) × (b.y + b.side ≤ 4096)
block_room n b le h =
    let m = side_most n le in
    let w = Within-whole n b h in
    let r = w.right in
    let d = w.bottom in
    (omega arith, omega arith)

-- a block that begins in a smaller square, and is no wider, is one of its blocks
pub IsBlock-down : (n m : ℕ) (b : Block) → IsBlock m b → b.x < side n → b.y < side n → b.side ≤ side n → IsBlock n b
IsBlock-down n m b h hx hy hs =
    let e = h.size in
    record {
      level = h.level;
      low = ⊎_elim (λ lt. let w = pow_below n h.level lt in absurd (omega arith)) (λ le. le) (cases_lt n h.level);
      size = e;
      on_x = h.on_x;
      on_y = h.on_y;
      in_x = hx;
      in_y = hy;
    }

-- the side of the square, as the code has it
pub width : (n : ℕ) → n ≤ 12 → 1 * 2 ^ n % 65536 ≡ side n
width n le = let m = side_most n le in omega arith

pub code_to-whole : (n : ℕ) → code_to (whole n) ≡ 4 ^ n
code_to-whole n =
    let s = side_squared n in
    let z = origin_code in
    omega arith

-- the whole square, as a call gives it, is a block
pub whole_at : (m n : ℕ) (b : Block) → m ≡ n → b ≡ whole n → IsBlock m b
whole_at m n b level is = subst (λ (k : ℕ). IsBlock k b) (sym level) (subst (IsBlock n) (sym is) (IsBlock-whole n))

-- two grids that have one colour at each pixel
pub grid_of-same : (n : ℕ) (f g : Pixel → ℕ) → ((p : Pixel) → p.x < side n → p.y < side n → f p ≡ g p) → grid_of n f ≡ grid_of n g
grid_of-same n f g same =
    grid_of-from n g (grid_of n f) (length-grid_of n f)
    (λ k lt. get_or-grid_of n f k lt ∙ same (pixel_at n k) (mod_below k (side n) (pow_pos n)) (div_below k (side n) (side n) (pow_pos n) lt))
