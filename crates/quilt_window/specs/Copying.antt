-- Maps that take their colours from another map by a span of each axis.
use Rattle.std.specs.Prelude.{◌≤◌, ℕ, ◌+◌, ◌-◌, ◌&&◌, nat_le, nat_lt, Option, Some, None, if◌then◌else◌}
use Rattle.quilt_types.specs.declared.plane.Pixel.{Pixel}
use Rattle.quilt_types.specs.declared.plane.Block.{Block}
use Rattle.quilt_types.specs.Plane.{side}
use Rattle.quilt_types.specs.Layers.{Grid}
use Rattle.quilt_types.specs.Algebra.{colour_from}
use Rattle.quilt_window.specs.declared.span.Span.{Span}

-- both rows of places lie on the side of the level
pub record FitsSide (n : ℕ) (s : Span) : Type 0 where
  pub there : s.from + s.length ≤ side n
  pub here : s.to + s.length ≤ side n

-- the place from which a place takes what it has, where the span has it
abbrev pub source : Span → ℕ → Option ℕ
source s at = if nat_le s.to at && nat_lt at (s.to + s.length) then Some (at - s.to + s.from) else None

-- the colour that a pixel takes, and 0 where it takes none
abbrev pub copied_colour : ℕ → Grid → Span → Span → Pixel → ℕ
copied_colour n g across down p = colour_from n g (source across p.x) (source down p.y)

-- the pixels of this many columns and rows from the pixel on
abbrev pub square_at : Pixel → ℕ → Block
square_at p size = record { x = p.x; y = p.y; side = size }
