-- Segments and blocks at the pixels of a region that are not background.
use Rattle.std.specs.Prelude.{ℕ, Bool, ◌&&◌, not, ◌==◌, List, map, filter}
use Rattle.std.specs.List.{list_any}
use Rattle.quilt_types.specs.declared.plane.Pixel.{Pixel}
use Rattle.quilt_types.specs.declared.plane.Block.{Block}
use Rattle.quilt_types.specs.declared.plane.Seg.{Seg}
use Rattle.quilt_types.specs.declared.plane.Window.{Window}
use Rattle.quilt_types.specs.Plane.{pixels, pixels_of}
use Rattle.quilt_types.specs.Layers.{Grid, colour_at}
use Rattle.quilt_types.specs.Segments.{meets, square}

-- the pixel is not background
abbrev pub is_coloured_at : ℕ → Grid → Pixel → Bool
is_coloured_at n g p = not (colour_at n g p == 0)

-- the segment meets the closed unit square of a pixel that is not background
abbrev pub is_over_grid : ℕ → Grid → Seg → Bool
is_over_grid n g s = list_any (λ p. is_coloured_at n g p && meets s (record { x = p.x; y = p.y; w = 1; h = 1 })) (pixels n)

-- the block has a pixel that is not background
abbrev pub has_coloured : ℕ → Grid → Block → Bool
has_coloured n g b = list_any (is_coloured_at n g) (pixels_of b)

-- the leaf is not background
abbrev pub is_coloured : Block × ℕ → Bool
is_coloured e = not (e.1 == 0)

-- the squares of those leaves
abbrev pub coloured_windows : List (Block × ℕ) → List Window
coloured_windows es = map (λ e. square e.0) (filter is_coloured es)
