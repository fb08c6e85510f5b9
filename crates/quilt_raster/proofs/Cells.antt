-- Cells of a window's pixels: rows that are filled, and blocks of one colour that are painted.
use Rattle.std.proofs.Common.{◌≡◌, ℕ, ◌+◌, ◌-◌, ◌*◌, ◌<◌, ◌≤◌, List, get_or, ⊎_elim, sym, ◌∙◌, ap, arith}
use Rattle.std.proofs.Math.Nat.{mul-le-mul_right}
use Rattle.std.proofs.lemmas.Bool.{cases_lt}
use Rattle.quilt_types.specs.declared.plane.Pixel.{Pixel}
use Rattle.quilt_types.specs.declared.plane.Window.{Window}
use Rattle.quilt_types.specs.declared.plane.Block.{Block}
use Rattle.quilt_types.specs.Plane.{side, Holds, IsBlock}
use Rattle.quilt_types.specs.Layers.{Grid}
use Rattle.quilt_loc.specs.Codes.{code_at, code_from, code_to}
use Rattle.quilt_loc.proofs.Blocks.{side_most}
use Rattle.quilt_loc.proofs.Intervals.{code_held, held_code}
use Rattle.quilt_blocks.specs.Mosaic.{HasColour}
use Rattle.quilt_raster.specs.Painting.{IsIn, place_of, ArePainted}

-- the rows above this one have the block's colour where the block has pixels, and all else is as before
pub record IsFilled (w : Window) (b : Block) (c dy : ℕ) (old cells : List ℕ) : Type 0 where
  pub done : (p : Pixel) → IsIn w p → Holds b p → p.y < w.y + dy → get_or cells (place_of w p) 0 ≡ c
  pub kept : (p : Pixel) → IsIn w p → (Holds b p → p.y < w.y + dy → ⊥) → get_or cells (place_of w p) 0 ≡ get_or old (place_of w p) 0

-- places in an earlier row, and in a later one
earlier : (y dy x w : ℕ) → y < dy → x < w → y * w + x < dy * w
earlier y dy x w lt in_row = let m : (y + 1) * w ≤ dy * w = mul-le-mul_right w (let e : y + 1 ≤ dy = omega arith in e) in omega arith

later : (y dy x w : ℕ) → dy < y → dy * w + w ≤ y * w + x
later y dy x w lt = let m : (dy + 1) * w ≤ y * w = mul-le-mul_right w (let e : dy + 1 ≤ y = omega arith in e) in omega arith

module _ (w : Window) (b : Block) (c dy left right : ℕ) (old cells new : List ℕ) (first : left ≡ b.x - w.x) (in_row : right ≤ w.w)
    (last : right ≤ b.x + b.side - w.x) (reach : (dx : ℕ) → dx < w.w → dx < b.x + b.side - w.x → dx < right)
    (top : b.y ≤ w.y + dy) (bottom : w.y + dy < b.y + b.side)
    (inside : (k : ℕ) → dy * w.w + left ≤ k → k < dy * w.w + right → get_or new k 0 ≡ c)
    (before : (k : ℕ) → k < dy * w.w + left → get_or new k 0 ≡ get_or cells k 0)
    (behind : (k : ℕ) → dy * w.w + right ≤ k → get_or new k 0 ≡ get_or cells k 0) (h : IsFilled w b c dy old cells) where
  -- the place of a pixel of this row
  here : (p : Pixel) → p.y ≡ w.y + dy → place_of w p ≡ dy * w.w + (p.x - w.x)
  here p e = let y : p.y - w.y ≡ dy = omega arith in ap (λ z. z * w.w + (p.x - w.x)) y

  above : (p : Pixel) → IsIn w p → p.y < w.y + dy → get_or new (place_of w p) 0 ≡ get_or cells (place_of w p) 0
  above p i lt =
      let l = i.left in
      let r = i.right in
      let t = i.top in
      let m = earlier (p.y - w.y) dy (p.x - w.x) w.w (omega arith) (omega arith) in
      before (place_of w p) (omega arith)

  row_done : (p : Pixel) → IsIn w p → Holds b p → p.y < w.y + (dy + 1) → get_or new (place_of w p) 0 ≡ c
  row_done p i held lt =
      let l = i.left in
      let r = i.right in
      let hl = held.left in
      let hr = held.right in
      ⊎_elim (λ up. above p i up ∙ h.done p i held up)
      (λ le.
      let e = here p (omega arith) in
      let in_x = reach (p.x - w.x) (omega arith) (omega arith) in
      inside (place_of w p) (omega arith) (omega arith)) (cases_lt p.y (w.y + dy))

  row_same : (p : Pixel) → IsIn w p → (Holds b p → p.y < w.y + (dy + 1) → ⊥) → get_or new (place_of w p) 0 ≡ get_or cells (place_of w p) 0
  row_same p i out =
      let l = i.left in
      let r = i.right in
      let t = i.top in
      ⊎_elim (above p i)
      (λ le.
      ⊎_elim
      (λ level.
      let e = here p (omega arith) in
      ⊎_elim (λ lt. before (place_of w p) (omega arith))
      (λ from.
      ⊎_elim (λ lt. absurd (out (record { left = omega arith; right = omega arith; top = omega arith; bottom = omega arith }) level))
      (λ to. behind (place_of w p) (omega arith)) (cases_lt (p.x - w.x) right)) (cases_lt (p.x - w.x) left))
      (λ down.
      let m = later (p.y - w.y) dy (p.x - w.x) w.w (omega arith) in
      behind (place_of w p) (omega arith)) (cases_lt p.y (w.y + (dy + 1)))) (cases_lt p.y (w.y + dy))

  -- one row more
  pub IsFilled-row : IsFilled w b c (dy + 1) old new
  IsFilled-row = record { done = row_done; kept = λ p i out. row_same p i out ∙ h.kept p i (λ held lt. out held (omega arith)) }

module _ (n : ℕ) (g : Grid) (w : Window) (b : Block) (most : n ≤ 12) (hb : IsBlock n b) (in_x : w.x + w.w ≤ side n) (in_y : w.y + w.h ≤ side n) where
  -- a pixel of the window with a code of the block
  held_in : (p : Pixel) → IsIn w p → code_from b ≤ code_at p → code_at p < code_to b → Holds b p
  held_in p i from to =
      let m = side_most n most in
      let x = hb.in_x in
      let y = hb.in_y in
      let r = i.right in
      let d = i.bottom in
      held_code n b p hb most (omega arith) (omega arith) (omega arith) (omega arith) from to

  -- a block of one colour more
  pub ArePainted-block : (c : ℕ) (old new : List ℕ) → HasColour n g b c → ((p : Pixel) → IsIn w p → Holds b p → get_or new (place_of w p) 0 ≡ c)
      → ((p : Pixel) → IsIn w p → (Holds b p → ⊥) → get_or new (place_of w p) 0 ≡ get_or old (place_of w p) 0)
      → ArePainted n g w (code_from b) old → ArePainted n g w (code_to b) new
  ArePainted-block c old new has inside outside before = record {
    each = λ p i lt.
        ⊎_elim
        (λ less. outside p i (λ h. let e = (code_held n b p hb most h).0 in absurd (omega arith)) ∙ before.each p i less)
        (λ from. let h = held_in p i from lt in inside p i h ∙ sym (has.each p h)) (cases_lt (code_at p) (code_from b));
  }

  -- a block with no pixel of the window
  pub ArePainted-missed : (cells : List ℕ) → ((p : Pixel) → IsIn w p → Holds b p → ⊥) → ArePainted n g w (code_from b) cells
      → ArePainted n g w (code_to b) cells
  ArePainted-missed cells none before = record {
    each = λ p i lt. ⊎_elim (before.each p i) (λ from. absurd (none p i (held_in p i from lt))) (cases_lt (code_at p) (code_from b));
  }

pub ArePainted-less : (n : ℕ) (g : Grid) (w : Window) (end more : ℕ) (cells : List ℕ) → end ≤ more → ArePainted n g w more cells → ArePainted n g w end cells
ArePainted-less n g w end more cells le h = record { each = λ p i lt. h.each p i (omega arith) }
