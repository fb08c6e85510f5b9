-- Parts of a grid, each of which stands for one quadrant of it.
use Rattle.std.specs.Prelude.{◌≡◌, ◌<◌, ℕ, ◌+◌, ◌-◌, List, slice_index_or}
use Rattle.quilt_types.specs.declared.plane.Pixel.{Pixel}
use Rattle.quilt_types.specs.declared.plane.Block.{Block}
use Rattle.quilt_types.specs.Plane.{side, whole, quarters_of, Holds}
use Rattle.quilt_types.specs.Layers.{Grid, colour_at}
use Rattle.quilt_tally.specs.Tallies.{IsTally}
use Rattle.quilt_par.specs.declared.part.Part.{Part}
use Rattle.quilt_par.specs.declared.part.CountedPart.{CountedPart}
use Rattle.quilt_par.specs.declared.part.Part.TheVariants.{Single, Leaves}

-- a block of a square that lies in a raster with its upper left pixel at the corner, as one of the raster
abbrev pub at_corner : Pixel → Block → Block
at_corner corner b = record { x = corner.x + b.x; y = corner.y + b.y; side = b.side }

-- how many pixels a part has in a row
abbrev pub width_of : Part → ℕ
width_of (Single c) = 1
width_of (Leaves list) = side list.level

-- the colour at a place of a part
abbrev pub part_colour : Part → Pixel → ℕ
part_colour (Single c) p = c.0
part_colour (Leaves list) p = colour_at list.level list.grid p

-- the colour at a pixel of the block for which the part stands
abbrev pub moved_colour : Block → Part → Pixel → ℕ
moved_colour b part p = part_colour part (record { x = p.x - b.x; y = p.y - b.y })

-- the part has the colours that the block has in the grid
pub record ShowsBlock (n : ℕ) (g : Grid) (b : Block) (part : Part) : Type 0 where
  pub wide : b.side ≡ width_of part
  pub each : (p : Pixel) → Holds b p → moved_colour b part p ≡ colour_at n g p

-- the same, and the tally is that of the block
pub record IsCounted (n : ℕ) (g : Grid) (b : Block) (counted : CountedPart) : Type 0 where
  pub shows : ShowsBlock n g b counted.part
  pub tally : IsTally n g b counted.tally

-- the quadrants of a square by their numbers from 0 to 3
abbrev pub quadrant_at : ℕ → ℕ → Block
quadrant_at n i = slice_index_or (quarters_of (whole n)) i (record { x = 0; y = 0; side = 0 })

-- the part with this number
abbrev pub part_in : List Part → ℕ → Part
part_in parts i = slice_index_or parts i (Single (record { 0 = 0 }))

-- four parts have the colours of the four quadrants
pub record ShowAll (n : ℕ) (g : Grid) (parts : List Part) : Type 0 where
  pub each : (i : ℕ) → i < 4 → ShowsBlock n g (quadrant_at n i) (part_in parts i)
