-- What stands behind the sides of blocks and pixels.
use Rattle.std.specs.Prelude.{ℕ, ◌+◌, ◌-◌, ◌/◌, ◌==◌, Option, Some, None, if◌then◌else◌}
use Rattle.quilt_types.specs.declared.plane.Pixel.{Pixel}
use Rattle.quilt_types.specs.declared.plane.Block.{Block}
use Rattle.quilt_types.specs.Plane.{side}
use Rattle.quilt_types.specs.Layers.{Grid, colour_at}
use Rattle.quilt_measure.specs.declared.boundary.Side.{Side}
use Rattle.quilt_measure.specs.declared.boundary.Side.TheVariants.{Left, Right, Top, Bottom}

-- the side across from this one
abbrev pub opposite_of : Side → Side
opposite_of Left = Right
opposite_of Right = Left
opposite_of Top = Bottom
opposite_of Bottom = Top

-- the pixel at x and y
abbrev pub pixel_from : ℕ → ℕ → Pixel
pixel_from x y = record { x = x; y = y }

-- the block with its least corner at x and y, of the side s
abbrev pub block : ℕ → ℕ → ℕ → Block
block x y s = record { x = x; y = y; side = s }

-- the pixel at a place along a side of the block, from above or from the left
abbrev pub place : Side → Block → ℕ → Pixel
place Left b t = pixel_from b.x (b.y + t)
place Right b t = pixel_from (b.x + b.side - 1) (b.y + t)
place Top b t = pixel_from (b.x + t) b.y
place Bottom b t = pixel_from (b.x + t) (b.y + b.side - 1)

-- 1 where the pixel has another colour than this
abbrev pub differs : ℕ → Grid → ℕ → Pixel → ℕ
differs n g c p = if colour_at n g p == c then 0 else 1

-- 1 where behind that side of the pixel is another colour than this or the outside
abbrev pub bare_side : Side → ℕ → Grid → ℕ → Pixel → ℕ
bare_side Left n g c p = if p.x == 0 then 1 else differs n g c (pixel_from (p.x - 1) p.y)
bare_side Right n g c p = if p.x + 1 == side n then 1 else differs n g c (pixel_from (p.x + 1) p.y)
bare_side Top n g c p = if p.y == 0 then 1 else differs n g c (pixel_from p.x (p.y - 1))
bare_side Bottom n g c p = if p.y + 1 == side n then 1 else differs n g c (pixel_from p.x (p.y + 1))

-- the block of the same size behind a side
abbrev pub behind_of : Side → ℕ → Block → Option Block
behind_of Left n b = if b.x == 0 then None else Some (block (b.x - b.side) b.y b.side)
behind_of Right n b = if b.x + b.side == side n then None else Some (block (b.x + b.side) b.y b.side)
behind_of Top n b = if b.y == 0 then None else Some (block b.x (b.y - b.side) b.side)
behind_of Bottom n b = if b.y + b.side == side n then None else Some (block b.x (b.y + b.side) b.side)

-- the two quarters along a side
abbrev pub halves_of : Side → Block → Block × Block
halves_of Left b = let h = b.side / 2 in (block b.x b.y h, block b.x (b.y + h) h)
halves_of Right b = let h = b.side / 2 in (block (b.x + h) b.y h, block (b.x + h) (b.y + h) h)
halves_of Top b = let h = b.side / 2 in (block b.x b.y h, block (b.x + h) b.y h)
halves_of Bottom b = let h = b.side / 2 in (block b.x (b.y + h) h, block (b.x + h) (b.y + h) h)
