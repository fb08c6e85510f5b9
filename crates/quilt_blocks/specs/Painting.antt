-- What blocks that are put down one after another paint.
use Rattle.std.specs.Prelude.{ℕ, ◌*◌, List, replicate, flat_map, slice_index}
use Rattle.quilt_types.specs.declared.plane.Block.{Block}
use Rattle.quilt_types.specs.Layers.{Grid}
use Rattle.quilt_types.specs.Algebra.{grid_of}
use Rattle.quilt_loc.specs.Codes.{code_at}

-- a level, and the colours of the pixels so far in the order of their codes
pub record Painted : Type 0 where
  pub level : ℕ
  pub colours : List ℕ

-- the colours of the pixels of the blocks, block after block
unfoldable pub colours_of : List (Block × ℕ) → List ℕ
colours_of es = flat_map (λ e. replicate (e.0.side * e.0.side) e.1) es

-- the grid in which each pixel has the colour at the place of its code
unfoldable pub grid_by_code : ℕ → List ℕ → Grid
grid_by_code n colours = grid_of n (λ p. slice_index colours (code_at p))
