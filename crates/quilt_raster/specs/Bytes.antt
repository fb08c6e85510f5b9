-- A raster as bytes: two for each colour.
use Rattle.std.specs.Prelude.{ℕ, ◌+◌, ◌*◌, List, [], ◌∷◌}
use Rattle.quilt_types.specs.declared.plane.Pixel.{Pixel}
use Rattle.quilt_types.specs.Layers.{Grid, colour_at}

-- the colours that these bytes are, two each, the high one first
unfoldable pub cell_colours : List ℕ → List ℕ
cell_colours (high ∷ low ∷ bytes) = (256 * high + low) ∷ cell_colours bytes
cell_colours bytes = []

-- the colour of a pixel of a square that lies in a grid with its upper left pixel at the corner
abbrev pub from_corner : ℕ → Grid → Pixel → Pixel → ℕ
from_corner n g corner p = colour_at n g (record { x = corner.x + p.x; y = corner.y + p.y })

-- two bytes, eight times
abbrev pub eight_pairs : ℕ → ℕ → List ℕ
eight_pairs a b = a ∷ b ∷ a ∷ b ∷ a ∷ b ∷ a ∷ b ∷ a ∷ b ∷ a ∷ b ∷ a ∷ b ∷ a ∷ b ∷ []
