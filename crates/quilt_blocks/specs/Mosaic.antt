-- Lists of coloured blocks that are the leaves of a grid.
use Rattle.std.specs.Prelude.{◌≡◌, ℕ, true, List, Contains, count_by}
use Rattle.quilt_types.specs.declared.plane.Pixel.{Pixel}
use Rattle.quilt_types.specs.declared.plane.Block.{Block}
use Rattle.quilt_types.specs.Plane.{is_pixel, blocks, in_block, quarters_of, Holds}
use Rattle.quilt_types.specs.Layers.{Grid, colour_at}

-- each pixel of the block has this colour
pub record HasColour (n : ℕ) (g : Grid) (b : Block) (c : ℕ) : Type 0 where
  pub each : (p : Pixel) → Holds b p → colour_at n g p ≡ c

-- blocks with colours, of which exactly one holds each pixel, each of its colour in the grid, and no four quarters of one block of one colour
pub record IsMosaic (n : ℕ) (g : Grid) (es : List (Block × ℕ)) : Type 0 where
  pub blocks_only : (e : Block × ℕ) → Contains es e → Contains (blocks n) e.0
  pub same_colour : (e : Block × ℕ) → Contains es e → (p : Pixel) → in_block e.0 p ≡ true → colour_at n g p ≡ e.1
  pub cover : (p : Pixel) → is_pixel n p ≡ true → count_by (λ e. in_block e.0 p) es ≡ 1
  pub unmerged : (b : Block) (c : ℕ) → Contains (blocks n) b → ((q : Block) → Contains (quarters_of b) q → Contains es (q, c)) → ⊥
