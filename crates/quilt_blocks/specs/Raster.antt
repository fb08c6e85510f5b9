-- What a list of leaves stands for: a level and a grid of it.
use Rattle.std.specs.Prelude.{ℕ, ◌≤◌}
use Rattle.quilt_types.specs.Layers.{Grid, IsGrid}

-- a level, and the colours of its square row by row
pub record Raster : Type 0 where
  pub level : ℕ
  pub grid : Grid

-- a grid of a level from 1 to 12, with colours of two bytes: format 2 allows each of them, and a grid of format 1 is one of format 2 too
pub record IsRaster (r : Raster) : Type 0 where
  pub least : 1 ≤ r.level
  pub most : r.level ≤ 12
  pub colours : IsGrid 2 r.level r.grid
