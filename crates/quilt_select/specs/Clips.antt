-- Which part of each segment lies in a window.
use Rattle.std.specs.Prelude.{ℕ, List, [], ◌∷◌, Option, Some, None, flat_map}
use Rattle.quilt_types.specs.declared.plane.Seg.{Seg}
use Rattle.quilt_types.specs.declared.plane.Window.{Window}
use Rattle.quilt_types.specs.Fractions.{Fraction}
use Rattle.quilt_types.specs.Segments.{clip_range}

-- the id with both ends of a part, where there is one
abbrev pub with_range : ℕ → Option (Fraction × Fraction) → List (ℕ × Fraction × Fraction)
with_range id None = []
with_range id (Some ends) = (id, ends.0, ends.1) ∷ []

-- the id of a segment with both ends of its part in the window, if it meets the window
abbrev pub clip_of : Window → ℕ × Seg → List (ℕ × Fraction × Fraction)
clip_of w e = with_range e.0 (clip_range e.1 w)

-- the ids of the segments that meet the window, each with the ends of its part in it
abbrev pub clips_of : Window → List (ℕ × Seg) → List (ℕ × Fraction × Fraction)
clips_of w es = flat_map (clip_of w) es
