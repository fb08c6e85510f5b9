-- The square of pixels, its windows and its blocks.
use Rattle.std.specs.Prelude.{◌≡◌, ◌<◌, ◌≤◌, ◌/◌, ℕ, ◌+◌, ◌-◌, ◌*◌, ◌/◌, ◌%◌, ◌^◌, Bool, ◌&&◌, nat_le, nat_lt, ◌==◌, List, [], ◌∷◌, map, filter, flat_map}
use Rattle.std.specs.Ordering.{nat_cmp, ordering_then}
use Rattle.std.specs.declared.cmp.Ordering.{Ordering}
use Rattle.std.specs.List.{range_with_len}
use Rattle.quilt_types.specs.declared.plane.Pixel.{Pixel}
use Rattle.quilt_types.specs.declared.plane.Window.{Window}
use Rattle.quilt_types.specs.declared.plane.Block.{Block}

-- how many pixels the square of a level has in a row
abbrev pub side : ℕ → ℕ
side n = 2 ^ n

-- 0, 1 and so on, n numbers
abbrev pub below : ℕ → List ℕ
below n = range_with_len 0 n

-- the pixels of the square, row by row
unfoldable pub pixels : ℕ → List Pixel
pixels n = flat_map (λ y. map (λ x. record { x = x; y = y }) (below (side n))) (below (side n))

-- by row, and then from the left
abbrev pub pixel_cmp : Pixel → Pixel → Ordering
pixel_cmp p q = ordering_then (nat_cmp p.y q.y) (nat_cmp p.x q.x)

-- the pixel lies in the square of the level n
abbrev pub is_pixel : ℕ → Pixel → Bool
is_pixel n p = nat_lt p.x (side n) && nat_lt p.y (side n)

-- a window lies in the square and has a pixel
abbrev pub is_window : ℕ → Window → Bool
is_window n w = nat_le 1 w.w && nat_le 1 w.h && nat_le (w.x + w.w) (side n) && nat_le (w.y + w.h) (side n)

-- the pixel is one of the window's
abbrev pub in_window : Window → Pixel → Bool
in_window w p = nat_le w.x p.x && nat_lt p.x (w.x + w.w) && nat_le w.y p.y && nat_lt p.y (w.y + w.h)

-- the blocks whose upper left pixel is p: squares of side 2 ^ k at multiples of their side
unfoldable pub blocks_at : ℕ → Pixel → List Block
blocks_at n p =
    map (λ s. record { x = p.x; y = p.y; side = s })
    (filter (λ s. (p.x % s == 0) && (p.y % s == 0)) (map side (below (n + 1))))

-- all blocks of the square, by y and then x
unfoldable pub blocks : ℕ → List Block
blocks n = flat_map (blocks_at n) (pixels n)

-- by y, then x, then side
abbrev pub block_cmp : Block → Block → Ordering
block_cmp a b = ordering_then (nat_cmp a.y b.y) (ordering_then (nat_cmp a.x b.x) (nat_cmp a.side b.side))

-- the pixel is one of the block's
abbrev pub in_block : Block → Pixel → Bool
in_block b p = nat_le b.x p.x && nat_lt p.x (b.x + b.side) && nat_le b.y p.y && nat_lt p.y (b.y + b.side)

-- the pixels of a block, row by row
unfoldable pub pixels_of : Block → List Pixel
pixels_of b =
    flat_map (λ dy. map (λ dx. record { x = b.x + dx; y = b.y + dy }) (below b.side)) (below b.side)

-- the block of twice the side that holds it
abbrev pub parent_of : Block → Block
parent_of b = let s = 2 * b.side in record { x = b.x - b.x % s; y = b.y - b.y % s; side = s }

-- the four blocks of half its side
abbrev pub quarters_of : Block → List Block
quarters_of b =
    let h = b.side / 2 in
    record { x = b.x; y = b.y; side = h }
    ∷ record { x = b.x + h; y = b.y; side = h }
    ∷ record { x = b.x; y = b.y + h; side = h }
    ∷ record { x = b.x + h; y = b.y + h; side = h } ∷ []

-- The same in inequalities, for proofs.

-- the block's upper left pixel
abbrev pub corner : Block → Pixel
corner b = record { x = b.x; y = b.y }

-- the whole square
abbrev pub whole : ℕ → Block
whole n = record { x = 0; y = 0; side = side n }

-- the pixel at this place of the rows
abbrev pub pixel_at : ℕ → ℕ → Pixel
pixel_at n k = record { x = k % side n; y = k / side n }

-- the pixel is one of the block's
pub record Holds (b : Block) (p : Pixel) : Type 0 where
  pub left : b.x ≤ p.x
  pub right : p.x < b.x + b.side
  pub top : b.y ≤ p.y
  pub bottom : p.y < b.y + b.side

-- a block of the square
pub record IsBlock (n : ℕ) (b : Block) : Type 0 where
  pub level : ℕ
  pub low : level ≤ n
  pub size : b.side ≡ side level
  pub on_x : b.x % b.side ≡ 0
  pub on_y : b.y % b.side ≡ 0
  pub in_x : b.x < side n
  pub in_y : b.y < side n

-- the first block lies in the second
pub record Within (a b : Block) : Type 0 where
  pub left : b.x ≤ a.x
  pub right : a.x + a.side ≤ b.x + b.side
  pub top : b.y ≤ a.y
  pub bottom : a.y + a.side ≤ b.y + b.side
