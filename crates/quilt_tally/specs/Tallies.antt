-- What is known of the leaves of a block.
use Rattle.std.specs.Prelude.{◌≡◌, ℕ, ◌+◌, ◌/◌, ◌<◌, false, length}
use Rattle.quilt_types.specs.declared.plane.Block.{Block}
use Rattle.quilt_types.specs.Plane.{side}
use Rattle.quilt_types.specs.Layers.{Grid}
use Rattle.quilt_types.specs.Quadtrees.{is_uniform}
use Rattle.quilt_blocks.specs.Cutting.{cut}
use Rattle.quilt_blocks.specs.Mosaic.{HasColour}
use Rattle.quilt_tally.specs.declared.tally.Tally.{Tally}
use Rattle.quilt_tally.specs.declared.tally.Tally.TheVariants.{One, Many}

-- how many leaves that is
abbrev pub size_of : Tally → ℕ
size_of (One c) = 1
size_of (Many k) = k

-- of the block's leaves in the grid: it has so many, cut as often as it can be
pub record HasLeaves (n : ℕ) (g : Grid) (b : Block) (k : ℕ) : Type 0 where
  pub cut_into : (j : ℕ) → b.side ≡ side j → length (cut (is_uniform n g) j b) ≡ k

-- the block's pixels have two colours, and it has so many leaves
pub record IsMixed (n : ℕ) (g : Grid) (b : Block) (k : ℕ) : Type 0 where
  pub mixed : is_uniform n g b ≡ false
  pub leaves : HasLeaves n g b k

-- the block's pixels have two colours, and it has more leaves than the most
pub record HasPast (n : ℕ) (g : Grid) (b : Block) (most : ℕ) : Type 0 where
  pub mixed : is_uniform n g b ≡ false
  pub over : (k : ℕ) → HasLeaves n g b k → most < k

-- the tally is that of the block in the grid of the level
abbrev pub IsTally : ℕ → Grid → Block → Tally → Type 0
IsTally n g b (One c) = HasColour n g b c.0
IsTally n g b (Many k) = IsMixed n g b k

-- the tallies are those of the block's four quarters
pub record AreTallies (n : ℕ) (g : Grid) (b : Block) (first second third last : Tally) : Type 0 where
  pub upper_left : IsTally n g (record { x = b.x; y = b.y; side = b.side / 2 }) first
  pub upper_right : IsTally n g (record { x = b.x + b.side / 2; y = b.y; side = b.side / 2 }) second
  pub lower_left : IsTally n g (record { x = b.x; y = b.y + b.side / 2; side = b.side / 2 }) third
  pub lower_right : IsTally n g (record { x = b.x + b.side / 2; y = b.y + b.side / 2; side = b.side / 2 }) last
