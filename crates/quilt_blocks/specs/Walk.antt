-- A walk over the leaves of a grid in the order of their codes.
use Rattle.std.specs.Prelude.{◌≡◌, ℕ, ◌*◌, List, Contains, sum_by}
use Rattle.quilt_types.specs.declared.plane.Block.{Block}
use Rattle.quilt_types.specs.Plane.{IsBlock}
use Rattle.quilt_types.specs.Layers.{Grid}
use Rattle.quilt_types.specs.Quadtrees.{leaves}
use Rattle.quilt_loc.specs.Codes.{code_from}
use Rattle.quilt_blocks.specs.Mosaic.{HasColour}

-- the leaves that are still to come, and the code at which the first of them begins
pub record LeafWalk : Type 0 where
  pub level : ℕ
  pub grid : Grid
  pub at : ℕ
  pub rest : List (Block × ℕ)

-- the leaf that begins at a code
pub record IsLeafAt (n : ℕ) (g : Grid) (at : ℕ) (e : Block × ℕ) : Type 0 where
  pub member : Contains (leaves n g) e
  pub block : IsBlock n e.0
  pub from : code_from e.0 ≡ at
  pub colour : HasColour n g e.0 e.1

-- how many pixels the blocks have
unfoldable pub pixel_count : List (Block × ℕ) → ℕ
pixel_count es = sum_by (λ e. e.0.side * e.0.side) es
