-- What a plan may read of a line layer.
use Rattle.std.specs.Prelude.{ℕ, Bool, ◌&&◌, ◌||◌, if◌then◌else◌}
use Rattle.quilt_types.specs.declared.plane.Block.{Block}
use Rattle.quilt_types.specs.declared.plane.Seg.{Seg}
use Rattle.quilt_types.specs.Plane.{blocks, parent_of}
use Rattle.quilt_types.specs.Layers.{SegMap, BlockSet}
use Rattle.quilt_types.specs.Quadtrees.{is_whole, is_reached}
use Rattle.quilt_types.specs.Segments.{square, meets}
use Rattle.quilt_near.specs.Budgets.{price, budget}

-- the segment meets the block's closed square
abbrev pub is_met : Seg → Block → Bool
is_met s b = meets s (square b)

-- the block is the whole square, or the segment meets that of which it is a quarter
abbrev pub is_met_above : ℕ → Seg → Block → Bool
is_met_above n s b = is_whole n b || meets s (square (parent_of b))

-- what a look at a block may cost, if it passes the test and is one of the layer's or holds some
abbrev pub look_cost : (Block → Bool) → SegMap → BlockSet → Block → ℕ
look_cost counts segs cover b = if counts b && is_reached cover b then price segs cover b else 0

-- what the blocks in a block may cost together
abbrev pub due : ℕ → (Block → Bool) → SegMap → BlockSet → Block → ℕ
due n counts segs cover b = budget (look_cost counts segs cover) (blocks n) b
