-- What map algebra makes of colours.
use Rattle.std.specs.Prelude.{ℕ, ◌==◌, List, map, if◌then◌else◌}
use Rattle.quilt_types.specs.declared.plane.Colour.{Colour}
use Rattle.quilt_types.specs.Layers.{Grid}
use Rattle.quilt_types.specs.Algebra.{union, intersection, difference}
use Rattle.quilt_overlay.specs.declared.operation.Op.{Op}
use Rattle.quilt_overlay.specs.declared.operation.Op.TheVariants.{Union, Inter, Diff}

-- the colour that the operation makes of two
abbrev pub combined : Op → ℕ → ℕ → ℕ
combined Union a b = if a == 0 then b else a
combined Inter a b = if b == 0 then 0 else a
combined Diff a b = if b == 0 then a else 0

-- the grid that the operation makes of two
abbrev pub overlaid : Op → ℕ → Grid → Grid → Grid
overlaid Union n a b = union n a b
overlaid Inter n a b = intersection n a b
overlaid Diff n a b = difference n a b

-- pairs of an old and a new colour, as numbers
abbrev pub numbers_of : List (Colour × Colour) → List (ℕ × ℕ)
numbers_of pairs = map (λ pair. (pair.0.0, pair.1.0)) pairs
