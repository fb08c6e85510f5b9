-- Rings of corners, as they grow.
use Rattle.std.specs.Prelude.{List, [], ◌∷◌, ◌++◌}
use Rattle.quilt_types.specs.declared.plane.Corner.{Corner}

-- the rings with one corner more at the end of the last
abbrev pub with_corner : List (List Corner) → Corner → List (List Corner)
with_corner [] c = []
with_corner (ring ∷ []) c = (ring ++ c ∷ []) ∷ []
with_corner (ring ∷ next ∷ rings) c = ring ∷ with_corner (next ∷ rings) c
