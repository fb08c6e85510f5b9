-- Where the pixels of a copy take their colours.
use Rattle.std.proofs.Common.{◌≡◌, ℕ, ◌+◌, ◌-◌, ◌*◌, ◌/◌, ◌%◌, ◌<◌, ◌≤◌, Bool, true, false, ◌&&◌, nat_le, nat_lt, Some, None, cond, refl, ◌∙◌, ap, ap₂, subst}
use Rattle.std.proofs.Common.{sym, List, get_or, ⊎_elim, pow_pos, arith, le-leb, lt-ltb, leb-true}
use Rattle.std.proofs.lemmas.Bool.{and_parts, and_from, cond-true}
use Rattle.quilt_types.specs.declared.plane.Pixel.{Pixel}
use Rattle.quilt_types.specs.declared.plane.Window.{Window}
use Rattle.quilt_types.specs.declared.plane.Block.{Block}
use Rattle.quilt_types.specs.Plane.{side, in_window, Holds, IsBlock}
use Rattle.quilt_types.specs.Layers.{Grid, colour_at}
use Rattle.quilt_types.specs.Algebra.{colour_from}
use Rattle.quilt_loc.specs.Codes.{IsSide}
use Rattle.quilt_loc.proofs.Blocks.{side_most}
use Rattle.std.proofs.lemmas.Nat.{div-add-mod', mod-mul-add}
use Rattle.quilt_loc.proofs.Nesting.{side_pos}
use Rattle.quilt_blocks.proofs.Squares.{IsBlock-down}
use Rattle.std.proofs.lemmas.Bool.{cases_lt}
use Rattle.quilt_blocks.specs.Mosaic.{HasColour}
use Rattle.quilt_raster.specs.Painting.{IsIn, place_of, in_cells}
use Rattle.quilt_window.specs.declared.span.Span.{Span}
use Rattle.quilt_window.specs.Copying.{FitsSide, source, copied_colour, square_at}

pub span_room : (n : ℕ) (s : Span) → n ≤ 12 → FitsSide n s → (s.from + s.length ≤ 4096) × (s.to + s.length ≤ 4096)
span_room n s le h =
    let m = side_most n le in
    let t = h.there in
    let w = h.here in
    (omega arith, omega arith)

pub source_in : (s : Span) (at : ℕ) → s.to ≤ at → at < s.to + s.length → source s at ≡ Some (at - s.to + s.from)
source_in s at low high = cond-true _ _ _ (and_from _ _ (le-leb _ _ low) (lt-ltb _ _ high))

-- all pixels of a block take their colours from one square of one colour
pub copied_in : (n : ℕ) (g : Grid) (across down : Span) (b : Block) (q : Pixel) (c : ℕ) → across.to ≤ b.x → b.x + b.side ≤ across.to + across.length
    → down.to ≤ b.y → b.y + b.side ≤ down.to + down.length
    → q.x ≡ b.x - across.to + across.from → q.y ≡ b.y - down.to + down.from → HasColour n g (square_at q b.side) c
    → (p : Pixel) → Holds b p → copied_colour n g across down p ≡ c
copied_in n g across down b q c xl xr yl yr ex ey has p h =
    let l = h.left in
    let r = h.right in
    let t = h.top in
    let d = h.bottom in
    let from : Pixel = record { x = p.x - across.to + across.from; y = p.y - down.to + down.from } in
    let held : Holds (square_at q b.side) from = record { left = omega arith; right = omega arith; top = omega arith; bottom = omega arith } in
    ap₂ (colour_from n g) (source_in across p.x (omega arith) (omega arith)) (source_in down p.y (omega arith) (omega arith))
    ∙ has.each from held

-- pixels of a block take their colours from a window whose colours stand in cells
pub copied_cells : (n : ℕ) (g : Grid) (across down : Span) (b : Block) (w : Window) (cells : List ℕ) → across.to ≤ b.x
    → b.x + b.side ≤ across.to + across.length → down.to ≤ b.y → b.y + b.side ≤ down.to + down.length → w.x ≡ b.x - across.to + across.from
    → w.y ≡ b.y - down.to + down.from → w.w ≡ b.side → w.h ≡ b.side
    → ((q : Pixel) → IsIn w q → get_or cells (place_of w q) 0 ≡ colour_at n g q)
    → (p : Pixel) → Holds b p → in_cells cells b p ≡ copied_colour n g across down p
copied_cells n g across down b w cells xl xr yl yr ex ey ew eh has p h =
    let l = h.left in
    let r = h.right in
    let t = h.top in
    let d = h.bottom in
    let from : Pixel = record { x = p.x - across.to + across.from; y = p.y - down.to + down.from } in
    let held : IsIn w from = record { left = omega arith; right = omega arith; top = omega arith; bottom = omega arith } in
    let row : p.y - b.y ≡ p.y - down.to + down.from - w.y = omega arith in
    let column : p.x - b.x ≡ p.x - across.to + across.from - w.x = omega arith in
    let at : (p.y - b.y) * b.side + (p.x - b.x) ≡ place_of w from =
    ap₂ (λ i j. i * b.side + j) row column ∙ ap (λ k. (from.y - w.y) * k + (from.x - w.x)) (sym ew) in
    ap (λ k. get_or cells k 0) at ∙ has from held
    ∙ sym (ap₂ (colour_from n g) (source_in across p.x (omega arith) (omega arith)) (source_in down p.y (omega arith) (omega arith)))

-- a side is not 0
pub side_some : (s : ℕ) → IsSide s → 0 < s
side_some s h = let p = pow_pos h.level in let e = h.size in omega arith

next_on : (s x : ℕ) → 0 < s → x % s ≡ 0 → (x + s) % s ≡ 0
next_on s x pos on =
    let d = div-add-mod' x s in
    let e : x + s ≡ (x / s + 1) * s + 0 = omega arith in
    ap (λ z. z % s) e ∙ mod-mul-add (x / s + 1) s 0 pos

-- the block of this side that begins here, where a square with this upper left pixel begins in it
pub record Begins (n : ℕ) (p : Pixel) (s x y : ℕ) : Type 0 where
  pub block : IsBlock n (record { x = x; y = y; side = s })
  pub left : x ≤ p.x
  pub right : p.x < x + s
  pub top : y ≤ p.y
  pub bottom : p.y < y + s

pub begins_in : (n : ℕ) (p : Pixel) (s : ℕ) (b : Block) → n ≤ 12 → IsBlock 12 b → b.side ≡ s → Holds b p → p.x + s ≤ side n
    → p.y + s ≤ side n → Begins n p s b.x b.y
begins_in n p s b most h is held in_x in_y =
    let l = held.left in
    let r = held.right in
    let t = held.top in
    let d = held.bottom in
    let pos = side_pos 12 b h in
    record {
      block = subst (λ (z : ℕ). IsBlock n (record { x = b.x; y = b.y; side = z })) is (IsBlock-down n 12 b h (omega arith) (omega arith) (omega arith));
      left = l;
      right = omega arith;
      top = t;
      bottom = omega arith;
    }

module _ (n : ℕ) (p : Pixel) (s x y : ℕ) (h : Begins n p s x y) (in_x : p.x + s ≤ side n) (in_y : p.y + s ≤ side n) where
  pub right_block : x < p.x → IsBlock n (record { x = x + s; y = y; side = s })
  right_block lt =
      let b = h.block in
      record { level = b.level; low = b.low; size = b.size; on_x = next_on s x (side_pos n _ b) b.on_x; on_y = b.on_y; in_x = omega arith; in_y = b.in_y }

  pub lower_block : y < p.y → IsBlock n (record { x = x; y = y + s; side = s })
  lower_block lt =
      let b = h.block in
      record { level = b.level; low = b.low; size = b.size; on_x = b.on_x; on_y = next_on s y (side_pos n _ b) b.on_y; in_x = b.in_x; in_y = omega arith }

  pub last_block : x < p.x → y < p.y → IsBlock n (record { x = x + s; y = y + s; side = s })
  last_block across down =
      let b = h.block in
      record {
        level = b.level;
        low = b.low;
        size = b.size;
        on_x = next_on s x (side_pos n _ b) b.on_x;
        on_y = next_on s y (side_pos n _ b) b.on_y;
        in_x = omega arith;
        in_y = omega arith;
      }

  -- a square has the colour of the blocks that it meets
  pub square_has : (g : Grid) (c : ℕ) → HasColour n g (record { x = x; y = y; side = s }) c
      → (x < p.x → HasColour n g (record { x = x + s; y = y; side = s }) c) → (y < p.y → HasColour n g (record { x = x; y = y + s; side = s }) c)
      → (x < p.x → y < p.y → HasColour n g (record { x = x + s; y = y + s; side = s }) c) → HasColour n g (square_at p s) c
  square_has g c first right lower last = record {
    each = λ q held.
        let l = held.left in
        let r = held.right in
        let t = held.top in
        let d = held.bottom in
        let hl = h.left in
        let ht = h.top in
        ⊎_elim
        (λ near.
        ⊎_elim (λ high. first.each q (record { left = omega arith; right = near; top = omega arith; bottom = high }))
        (λ low. (lower (omega arith)).each q (record { left = omega arith; right = near; top = low; bottom = omega arith })) (cases_lt q.y (y + s)))
        (λ far.
        ⊎_elim (λ high. (right (omega arith)).each q (record { left = far; right = omega arith; top = omega arith; bottom = high }))
        (λ low. (last (omega arith) (omega arith)).each q (record { left = far; right = omega arith; top = low; bottom = omega arith }))
        (cases_lt q.y (y + s))) (cases_lt q.x (x + s));
  }

by_tests : (n : ℕ) (g : Grid) (p : Pixel) (x y : ℕ) (ab c d : Bool) → (ab ≡ true → c && d ≡ true → (x ≡ p.x) × (y ≡ p.y))
    → colour_from n g (cond ab (Some x) None) (cond (c && d) (Some y) None) ≡ cond (ab && c && d) (colour_at n g p) 0
by_tests n g p x y true true true same =
    let e = same refl refl in
    let ex = e.0 in
    let ey = e.1 in
    ap (colour_at n g) (λ i. record { x = ex i; y = ey i })
by_tests n g p x y true true false same = refl
by_tests n g p x y true false d same = refl
by_tests n g p x y false c d same = refl

-- a window takes each of its pixels from where it is
pub copied_window : (n : ℕ) (g : Grid) (w : Window) (p : Pixel)
    → copied_colour n g (record { from = w.x; to = w.x; length = w.w }) (record { from = w.y; to = w.y; length = w.h }) p ≡ cond (in_window w p) (colour_at n g p) 0
copied_window n g w p =
    by_tests n g p (p.x - w.x + w.x) (p.y - w.y + w.y) (nat_le w.x p.x && nat_lt p.x (w.x + w.w)) (nat_le w.y p.y) (nat_lt p.y (w.y + w.h))
    (λ ab cd.
    let a = leb-true w.x p.x (and_parts (nat_le w.x p.x) (nat_lt p.x (w.x + w.w)) ab).0 in
    let c = leb-true w.y p.y (and_parts (nat_le w.y p.y) (nat_lt p.y (w.y + w.h)) cd).0 in
    (omega arith, omega arith))
