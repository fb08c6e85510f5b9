-- A block of a line layer that is known.
use Rattle.std.specs.Prelude.{◌≡◌, Bool, true, false, ◌&&◌, nat_lt, Option, Some, None, IfSome}
use Rattle.quilt_types.specs.Sets as finset
use Rattle.quilt_types.specs.declared.plane.Block.{Block}
use Rattle.quilt_types.specs.Plane.{corner, in_block}
use Rattle.quilt_types.specs.Layers.{BlockSet}

-- the known block begins in the block and is smaller
abbrev pub is_cut : Option Block → Block → Bool
is_cut None b = false
is_cut (Some c) b = nat_lt 1 b.side && nat_lt c.side b.side && in_block b (corner c)

-- the block, where there is one, is one of the set
abbrev pub IsOfCover : BlockSet → Option Block → Type 0
IsOfCover cover o = IfSome o (λ c. finset.contains cover c ≡ true)
