-- A window that is painted.
use Rattle.std.specs.Prelude.{◌≡◌, ℕ, ◌<◌, List, length, slice_index, if◌then◌else◌}
use Rattle.quilt_types.specs.declared.plane.Pixel.{Pixel}
use Rattle.quilt_types.specs.declared.plane.Window.{Window}
use Rattle.quilt_types.specs.Plane.{side, in_window}
use Rattle.quilt_loc.specs.Codes.{code_at}

-- the colour of a pixel of this colour once the window is painted
abbrev pub colour_over : Window → ℕ → ℕ → Pixel → ℕ
colour_over w c old p = if in_window w p then c else old

-- the pixels so far, in the order of their codes, have the colours of the function
pub record HasColours (n : ℕ) (f : Pixel → ℕ) (colours : List ℕ) : Type 0 where
  pub each : (p : Pixel) → p.x < side n → p.y < side n → code_at p < length colours → slice_index colours (code_at p) ≡ f p
