-- Squares in a grid, and a grid from its own colours.
use Rattle.std.proofs.Common.{◌≡◌, ℕ, zero, suc, ◌+◌, ◌*◌, ◌^◌, ◌<◌, ◌≤◌, [], ◌∷◌, ◌++◌, length, get_or, ⊎_elim, add-one, refl, sym, ◌∙◌, ap, ap₂, subst, arith}
use Rattle.std.proofs.Math.Nat.{mul-le-mul_right}
use Rattle.std.proofs.lemmas.Bool.{cases_lt}
use Rattle.std.specs.List.{range_with_len}
use Rattle.quilt_types.specs.declared.plane.Pixel.{Pixel}
use Rattle.quilt_types.specs.declared.plane.Block.{Block}
use Rattle.quilt_types.specs.Plane.{side, whole, below, Holds}
use Rattle.quilt_types.specs.Layers.{Grid, colour_at}
use Rattle.quilt_types.specs.Algebra.{grid_of}
use Rattle.quilt_loc.specs.Codes.{code_to}
use Rattle.quilt_blocks.specs.Mosaic.{HasColour}
use Rattle.quilt_loc.proofs.Rows.{grid_of-from, colour_at-pixel_at}
use Rattle.quilt_blocks.proofs.Squares.{grid_of-same}
use Rattle.quilt_blocks.proofs.Adding.{Adds-whole}
use Rattle.quilt_blocks.specs.Adding.{AddsColours}
use Rattle.quilt_blocks.specs.Painting.{Painted}
use Rattle.quilt_raster.specs.Bytes.{from_corner}

-- a pixel of a block of a square that lies in a grid has the colour that the whole block has there
pub held_from : (n : ℕ) (g : Grid) (corner : Pixel) (b : Block) (p : Pixel) (c : ℕ) → Holds b p
    → HasColour n g (record { x = corner.x + b.x; y = corner.y + b.y; side = b.side }) c → from_corner n g corner p ≡ c
held_from n g corner b p c h has =
    let l = h.left in
    let r = h.right in
    let t = h.top in
    let d = h.bottom in
    has.each (record { x = corner.x + p.x; y = corner.y + p.y }) (record { left = omega arith; right = omega arith; top = omega arith; bottom = omega arith })

-- as many places of a row as there are in the square
pub row_room : (n w y dy x k : ℕ) → w ≡ side n → y + dy < side n → x + k ≤ side n → y * w + x + dy * w + k ≤ side n * side n
row_room n w y dy x k is lt le =
    let rows : (y + dy + 1) * side n ≤ side n * side n = mul-le-mul_right (side n) (let more : y + dy + 1 ≤ side n = omega arith in more) in
    let a : y * w ≡ y * side n = ap (λ z. y * z) is in
    let b : dy * w ≡ dy * side n = ap (λ z. dy * z) is in
    omega arith

-- rows of one colour, and one more
pub one_row_more : (n : ℕ) (g : Grid) (s : Block) (w dy c : ℕ) → w ≡ side n
    → ((p : Pixel) → s.x ≤ p.x → p.x < s.x + s.side → s.y ≤ p.y → p.y < s.y + dy → colour_at n g p ≡ c)
    → ((k : ℕ) → s.y * w + s.x + dy * w ≤ k → k < s.y * w + s.x + dy * w + s.side → get_or g k 0 ≡ c)
    → (p : Pixel) → s.x ≤ p.x → p.x < s.x + s.side → s.y ≤ p.y → p.y < s.y + (dy + 1) → colour_at n g p ≡ c
one_row_more n g s w dy c is above row p l r t d =
    let a : s.y * w ≡ s.y * side n = ap (λ z. s.y * z) is in
    let b : dy * w ≡ dy * side n = ap (λ z. dy * z) is in
    ⊎_elim (above p l r t)
    (λ last.
    let here : p.y ≡ s.y + dy = omega arith in
    let at : p.y * side n ≡ (s.y + dy) * side n = ap (λ z. z * side n) here in
    row (p.y * side n + p.x) (omega arith) (omega arith)) (cases_lt p.y (s.y + dy))

-- a grid is what its colours paint
pub grid_of-colour_at : (n : ℕ) (g : Grid) → length g ≡ side n * side n → g ≡ grid_of n (colour_at n g)
grid_of-colour_at n g long = grid_of-from n (colour_at n g) g long (λ k lt. sym (colour_at-pixel_at n g k))

-- a whole square, put down from nothing
pub all_added : (n : ℕ) (f : Pixel → ℕ) (b : Block) (start new : Painted) → b ≡ whole n → start ≡ record { level = n; colours = [] }
    → AddsColours start.level f (code_to b) start new → AddsColours n f (4 ^ n) (record { level = n; colours = [] }) new
all_added n f b start new is none a =
    Adds-whole n n f b start new refl is none (subst (λ (k : ℕ). AddsColours k f (code_to b) start new) (ap (λ (m : Painted). m.level) none) a)

pub grid_from_corner : (n : ℕ) (g : Grid) → length g ≡ side n * side n → grid_of n (from_corner n g (record { x = 0; y = 0 })) ≡ g
grid_from_corner n g long =
    grid_of-same n (from_corner n g (record { x = 0; y = 0 })) (colour_at n g)
    (λ p hx hy. let x : 0 + p.x ≡ p.x = omega arith in let y : 0 + p.y ≡ p.y = omega arith in ap₂ (λ (a b : ℕ). colour_at n g (record { x = a; y = b })) x y)
    ∙ sym (grid_of-colour_at n g long)

-- one number more
pub below_more : (n : ℕ) → below (n + 1) ≡ below n ++ n ∷ []
below_more n =
    ap (range_with_len 0) (add-one n) ∙ range_more 0 n ∙ (let e : 0 + n ≡ n = omega arith in ap (λ z. range_with_len 0 n ++ z ∷ []) e)
  where
    range_more : (a n : ℕ) → range_with_len a (suc n) ≡ range_with_len a n ++ (a + n) ∷ []
    range_more a zero = let e : a ≡ a + 0 = omega arith in ap (λ z. z ∷ []) e
    range_more a (suc n) =
        ap (λ l. a ∷ l) (range_more (a + 1) n ∙ (let e : a + 1 + n ≡ a + suc n = omega arith in ap (λ z. range_with_len (a + 1) n ++ z ∷ []) e))
