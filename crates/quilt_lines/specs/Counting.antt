-- The blocks of a line layer, found from the whole square down.
use Rattle.std.specs.Prelude.{ℕ, ◌+◌, List, [], ◌∷◌, flat_map, if◌then◌else◌}
use Rattle.std.specs.List.{sum_by}
use Rattle.quilt_types.specs.Sets as finset
use Rattle.quilt_types.specs.declared.plane.Block.{Block}
use Rattle.quilt_types.specs.Plane.{quarters_of}
use Rattle.quilt_types.specs.Layers.{BlockSet}

-- the blocks of the set in a block of side 2 ^ k
abbrev pub held_in : BlockSet → ℕ → Block → List Block
held_in cover ℕ.zero b = if finset.contains cover b then b ∷ [] else []
held_in cover (ℕ.suc k) b = if finset.contains cover b then b ∷ [] else flat_map (held_in cover k) (quarters_of b)

-- how many pages a search for these blocks reads in a block of side 2 ^ k: 6 for each of them, and for each larger block around one
abbrev pub pages_in : BlockSet → ℕ → Block → ℕ
pages_in cover ℕ.zero b = 6
pages_in cover (ℕ.suc k) b = if finset.contains cover b then 6 else 6 + sum_by (pages_in cover k) (quarters_of b)
