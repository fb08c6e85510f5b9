-- The leaves of a grid in the order of their codes.
use Rattle.std.specs.Prelude.{ℕ, zero, suc, Bool, List, [], ◌∷◌, map, flat_map, if◌then◌else◌}
use Rattle.quilt_types.specs.declared.plane.Block.{Block}
use Rattle.quilt_types.specs.Plane.{whole, quarters_of}
use Rattle.quilt_types.specs.Layers.{Grid}
use Rattle.quilt_types.specs.Quadtrees.{is_uniform, coloured}
use Rattle.std.specs.declared.cmp.Ordering.{Ordering}
use Rattle.quilt_loc.specs.Codes.{code_cmp}
use Rattle.quilt_blocks.specs.declared.leaf.Leaf.{Leaf}

-- a block that passes the test or is one pixel, or else what its quarters give
abbrev pub cut : (Block → Bool) → ℕ → Block → List Block
cut fits zero b = b ∷ []
cut fits (suc k) b = if fits b then b ∷ [] else flat_map (cut fits k) (quarters_of b)

-- the leaves with their colours, in the order of their codes
unfoldable pub leaves_by_code : ℕ → Grid → List (Block × ℕ)
leaves_by_code n g = map (coloured n g) (cut (is_uniform n g) n (whole n))

-- a leaf as the definitions have it: its block and its colour
abbrev pub leaf_pair : Leaf → Block × ℕ
leaf_pair l = (l.block, l.colour.0)

-- leaves by the codes of their blocks
abbrev pub leaf_cmp : Block × ℕ → Block × ℕ → Ordering
leaf_cmp d e = code_cmp d.0 e.0
