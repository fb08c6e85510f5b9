-- The facts that one point more or less changes in a point layer.
use Rattle.std.specs.Prelude.{ℕ, List, [], ◌∷◌, flat_map, ◌==◌, if◌then◌else◌}
use Rattle.quilt_types.specs.declared.plane.Block.{Block}
use Rattle.quilt_types.specs.declared.plane.Pixel.{Pixel}
use Rattle.quilt_types.specs.Layers.{PointMap}
use Rattle.quilt_types.specs.Quadtrees.{occupancy, holds_few}
use Rattle.quilt_types.specs.Facts.{Fact, HoldsPoint, HoldsNoPoint, point_facts}
use Rattle.quilt_blocks.specs.Cutting.{cut}

-- where the block has room: that it holds no point, if it held none
abbrev pub room_gone : PointMap → Block → List Fact
room_gone small c = if occupancy small c == 0 then HoldsNoPoint c ∷ [] else []

-- where the block has room: that it holds the new point
abbrev pub room_come : Block → Pixel → ℕ → List Fact
room_come c p label = HoldsPoint c p label ∷ []

-- where it is full: the facts of the blocks that it is cut into, k the level of its side
abbrev pub full_come : ℕ → PointMap → ℕ → Block → List Fact
full_come capacity big k c = flat_map (point_facts big) (cut (holds_few capacity big) k c)
