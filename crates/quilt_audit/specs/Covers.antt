-- Four blocks that may be one, and blocks that are none.
use Rattle.std.specs.Prelude.{◌≡◌, ℕ, ◌<◌, List, [], ◌∷◌}
use Rattle.quilt_types.specs.declared.plane.Block.{Block}
use Rattle.quilt_types.specs.Plane.{IsBlock, quarters_of}

-- the blocks are the four quarters of a block, in the order of their codes
pub record AreFour (n : ℕ) (four : List Block) (whole : Block) : Type 0 where
  pub block : IsBlock n whole
  pub wide : 1 < whole.side
  pub quarters : quarters_of whole ≡ four

-- no block, which stands for one before the first
abbrev pub no_block : Block
no_block = record { y = 0; x = 0; side = 0 }

-- three blocks that are none, before the first block of a layer
abbrev pub no_blocks : List Block
no_blocks = no_block ∷ no_block ∷ no_block ∷ []
