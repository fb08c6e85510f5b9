-- Where a walk over leaves stands at a code.
use Rattle.std.specs.Prelude.{◌≡◌, ℕ, ◌^◌, ◌<◌, ◌≤◌, Option, None, Some}
use Rattle.quilt_types.specs.Plane.{IsBlock}
use Rattle.quilt_types.specs.Layers.{Grid}
use Rattle.quilt_loc.specs.Codes.{code_from, code_to}
use Rattle.quilt_blocks.specs.declared.leaf.Leaf.{Leaf}
use Rattle.quilt_blocks.specs.Mosaic.{HasColour}
use Rattle.quilt_blocks.specs.Walk.{LeafWalk}

-- the last leaf of a walk, which begins at the code or before and ends at it or behind
pub record IsPassed (w : LeafWalk) (code : ℕ) (l : Leaf) : Type 0 where
  pub most : w.level ≤ 12
  pub block : IsBlock w.level l.block
  pub from : code_from l.block ≤ code
  pub to : code ≤ code_to l.block
  pub last : code_to l.block ≡ w.at
  pub colour : HasColour w.level w.grid l.block l.colour.0

-- a leaf that has the code, where the leaves after it begin at another
pub record HasCode (n : ℕ) (g : Grid) (code next : ℕ) (l : Leaf) : Type 0 where
  pub block : IsBlock n l.block
  pub from : code_from l.block ≤ code
  pub to : code < code_to l.block
  pub last : code_to l.block ≡ next
  pub colour : HasColour n g l.block l.colour.0

-- the last leaf of a walk over the leaves of a grid has the code, or there is none and the code is that behind the square
pub record StandsAtCode (n : ℕ) (g : Grid) (code : ℕ) (leaf : Option Leaf) (w : LeafWalk) : Type 0 where
  pub level : w.level ≡ n
  pub grid : w.grid ≡ g
  pub over : leaf ≡ None → code ≡ 4 ^ n
  pub here : (l : Leaf) → leaf ≡ Some l → HasCode n g code w.at l
