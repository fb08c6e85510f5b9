-- The colours of a window's pixels in cells, one for each pixel, row by row.
use Rattle.std.specs.Prelude.{◌≡◌, ℕ, ◌+◌, ◌-◌, ◌*◌, ◌<◌, ◌≤◌, List, length, slice_index}
use Rattle.quilt_types.specs.declared.plane.Pixel.{Pixel}
use Rattle.quilt_types.specs.declared.plane.Window.{Window}
use Rattle.quilt_types.specs.declared.plane.Block.{Block}
use Rattle.quilt_types.specs.Plane.{side}
use Rattle.quilt_types.specs.Layers.{Grid, colour_at}
use Rattle.quilt_loc.specs.Codes.{code_at}

-- a window of the square, and cells for each of its pixels
pub record IsRoom (n : ℕ) (w : Window) (cells : List ℕ) : Type 0 where
  pub in_x : w.x + w.w ≤ side n
  pub in_y : w.y + w.h ≤ side n
  pub all : w.w * w.h ≤ length cells

-- the pixel is one of the window's
pub record IsIn (w : Window) (p : Pixel) : Type 0 where
  pub left : w.x ≤ p.x
  pub right : p.x < w.x + w.w
  pub top : w.y ≤ p.y
  pub bottom : p.y < w.y + w.h

-- the place of the window's pixel among its cells
abbrev pub place_of : Window → Pixel → ℕ
place_of w p = (p.y - w.y) * w.w + (p.x - w.x)

-- the cells of the window's pixels with codes before the end have their colours in the grid
pub record ArePainted (n : ℕ) (g : Grid) (w : Window) (end : ℕ) (cells : List ℕ) : Type 0 where
  pub each : (p : Pixel) → IsIn w p → code_at p < end → slice_index cells (place_of w p) ≡ colour_at n g p

-- the colour of a pixel in the cells of a tile, which has one for each of its pixels, row by row
abbrev pub in_cells : List ℕ → Block → Pixel → ℕ
in_cells cells tile p = slice_index cells ((p.y - tile.y) * tile.side + (p.x - tile.x))
