-- The blocks that a search for a window comes to.
use Rattle.std.specs.Prelude.{◌≡◌, ℕ, zero, suc, ◌+◌, ◌<◌, Bool, true, false, ◌&&◌, nat_lt, List, Contains, Option, if◌then◌else◌}
use Rattle.quilt_types.specs.declared.plane.Block.{Block}
use Rattle.quilt_types.specs.declared.plane.Pixel.{Pixel}
use Rattle.quilt_types.specs.declared.plane.Point.{Point}
use Rattle.std.specs.List.{sum_by}
use Rattle.quilt_types.specs.declared.plane.Window.{Window}
use Rattle.quilt_types.specs.Plane.{side, in_block, parent_of, quarters_of, IsBlock}
use Rattle.quilt_types.specs.Layers.{PointMap}
use Rattle.quilt_types.specs.Quadtrees.{holds_few}
use Rattle.quilt_record.specs.declared.record.Record.{Record}
use Rattle.quilt_points.specs.Reads.{IsRow}

-- the block is the whole square, or lies in a larger one with too many points
pub record IsVisited (n capacity : ℕ) (points : PointMap) (b : Block) : Type 0 where
  pub block : IsBlock n b
  pub many : b.side < side n → holds_few capacity points (parent_of b) ≡ false

-- over any records: one of them is of the block
pub record HasRow (n capacity number : ℕ) (rs : List Record) (b : Block) : Type 0 where
  pub held : Option Point
  pub row : Record
  pub there : Contains rs row
  pub is_row : IsRow n capacity number b held row

-- over any records: one of them is of a block around the pixel
pub record IsCovered (n capacity number : ℕ) (rs : List Record) (p : Pixel) : Type 0 where
  pub block : Block
  pub holds : in_block block p ≡ true
  pub has : HasRow n capacity number rs block

-- the window and the block have a pixel in common
abbrev pub meets_window : Window → Block → Bool
meets_window w b = (nat_lt w.x (b.x + b.side) && nat_lt b.x (w.x + w.w)) && (nat_lt w.y (b.y + b.side) && nat_lt b.y (w.y + w.h))

-- How many quadrants of a block of side 2 ^ k meet the window and lie in no larger one with few points: the blocks of the layer that
-- meet it, and those around them.
abbrev pub visited : (k : ℕ) → (capacity : ℕ) → PointMap → Window → Block → ℕ
visited zero capacity points w b = if meets_window w b then 1 else 0
visited (suc k) capacity points w b =
    if meets_window w b then (if holds_few capacity points b then 1 else 1 + sum_by (visited k capacity points w) (quarters_of b)) else 0
