-- A window that is read by the blocks that meet it.
use Rattle.std.specs.Prelude.{◌≡◌, ℕ, ◌+◌, ◌-◌, ◌*◌, ◌%◌, ◌^◌, ◌≤◌, Bool, true, ◌&&◌, nat_lt, ◌==◌, List, [], ◌∷◌, map, flat_map, length, if◌then◌else◌}
use Rattle.std.specs.List.{sum_by}
use Rattle.quilt_types.specs.declared.plane.Pixel.{Pixel}
use Rattle.quilt_types.specs.declared.plane.Window.{Window}
use Rattle.quilt_types.specs.declared.plane.Block.{Block}
use Rattle.quilt_types.specs.Plane.{corner, in_block, in_window}
use Rattle.quilt_types.specs.Layers.{Grid, IsGrid, colour_at}
use Rattle.quilt_region.specs.Windows.{leaves_within}

-- both grids have the same colours at the pixels of the window, and the second is one of a format where the first is
pub record AgreesIn (n : ℕ) (w : Window) (g h : Grid) : Type 0 where
  pub each : (p : Pixel) → in_window w p ≡ true → colour_at n h p ≡ colour_at n g p
  pub fits : (form : ℕ) → IsGrid form n g → IsGrid form n h

-- the window and the block have a pixel in common
abbrev pub window_meets : Window → Block → Bool
window_meets w b = nat_lt b.x (w.x + w.w) && nat_lt w.x (b.x + b.side) && nat_lt b.y (w.y + w.h) && nat_lt w.y (b.y + b.side)

-- the last multiple of the side that is no larger than the number
abbrev pub start_of : ℕ → ℕ → ℕ
start_of s x = x - x % s

-- where blocks of a side begin that have one of two numbers
abbrev pub starts : ℕ → ℕ → ℕ → List ℕ
starts s first last = if start_of s first == start_of s last then start_of s first ∷ [] else start_of s first ∷ start_of s last ∷ []

-- the blocks of a side that hold a corner of the window: one, two or four
unfoldable pub cover_of : ℕ → Window → List Block
cover_of s w =
    flat_map (λ y. map (λ x. record { x = x; y = y; side = s }) (starts s w.x (w.x + w.w - 1))) (starts s w.y (w.y + w.h - 1))

-- the least power of two that is no less than either side of the window
pub record IsSideOver (w : Window) (s : ℕ) : Type 0 where
  pub power : (k : ℕ) × (s ≡ 2 ^ k)
  pub wide : w.w ≤ s
  pub high : w.h ≤ s
  pub least : (k : ℕ) → w.w ≤ 2 ^ k → w.h ≤ 2 ^ k → s ≤ 2 ^ k

-- the block of a side that holds a pixel
abbrev pub block_of : ℕ → Pixel → Block
block_of s p = record { x = start_of s p.x; y = start_of s p.y; side = s }

-- the colour of a pixel in the blocks of a side that meet the window, and the background elsewhere
abbrev pub cover_colour : ℕ → Grid → ℕ → Window → Pixel → ℕ
cover_colour n g s w p = if window_meets w (block_of s p) then colour_at n g p else 0

-- the pages that those of the blocks cost which begin within another one
abbrev pub cost_in : ℕ → Grid → List Block → Block → ℕ
cost_in n g bs b = sum_by (λ c. if in_block b (corner c) then 12 + 3 * length (leaves_within n g c) else 0) bs
