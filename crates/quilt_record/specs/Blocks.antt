-- The block that a key names.
use Rattle.std.specs.Prelude.{◌≡◌, ℕ, ◌≤◌}
use Rattle.quilt_types.specs.declared.plane.Block.{Block}
use Rattle.quilt_types.specs.Plane.{IsBlock}
use Rattle.quilt_types.specs.Codes.{code, depth}
use Rattle.quilt_record.specs.declared.key.Key.{Key}

-- the key's code and depth are those of the block
pub record IsBlockOf (n : ℕ) (k : Key) (b : Block) : Type 0 where
  pub block : IsBlock n b
  pub code : k.code ≡ code b.x b.y
  pub depth : k.depth ≡ depth n b

-- and its layer is this number
pub record IsNamed (n : ℕ) (k : Key) (layer : ℕ) (b : Block) : Type 0 where
  pub least : 1 ≤ layer
  pub most : layer ≤ 255
  pub same : k.layer ≡ layer
  pub of : IsBlockOf n k b
