-- Where an edge crosses the rows of pixels.
use Rattle.std.specs.Prelude.{◌≡◌, ℕ, ◌+◌, ◌*◌, ◌<◌}
use Rattle.quilt_types.specs.Polygons.{Edge}

-- of the pixels in the row above this one so many, from column 0 on, have their middles left of the edge. In parts of which a pixel has two
-- for each row of the edge, the rest is what lies between the middle of the last of them and the edge.
pub record IsCrossing (e : Edge) (below column rest : ℕ) : Type 0 where
  pub height : ℕ
  pub rows : e.top.y + height ≡ e.bottom.y
  pub sum : column * (2 * height) + rest + e.top.x * (2 * below) + 2 * e.top.y * e.bottom.x + e.bottom.x + 1
      ≡ 2 * e.top.x * e.bottom.y + e.bottom.x * (2 * below) + e.top.x + height
  pub small : rest < 2 * height
