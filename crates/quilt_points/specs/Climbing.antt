-- Up from the block around a point that goes.
use Rattle.std.specs.Prelude.{◌≡◌, ℕ, true, List, Contains}
use Rattle.std.specs.FinMap as finmap
use Rattle.quilt_types.specs.declared.plane.Pixel.{Pixel}
use Rattle.quilt_types.specs.declared.plane.Block.{Block}
use Rattle.quilt_types.specs.declared.plane.Point.{Point}
use Rattle.quilt_types.specs.Plane.{Holds, IsBlock, Within}
use Rattle.quilt_types.specs.Layers.{PointMap}
use Rattle.quilt_types.specs.Quadtrees.{holds_few, point_blocks}
use Rattle.quilt_point_laws.specs.Laws.{AreIn}
use Rattle.quilt_points.specs.Layers.{point_entries}

-- The block lies around the one that holds the pixel, it holds few of the points without that at the pixel, and these are they.
pub record IsOnWay (n capacity : ℕ) (points : PointMap) (p : Pixel) (b : Block) (held : List Point) : Type 0 where
  pub base : Block
  pub base_block : Contains (point_blocks n capacity points) base
  pub base_holds : Holds base p
  pub within : Within base b
  pub block : IsBlock n b
  pub few : holds_few capacity (finmap.remove points p) b ≡ true
  pub are : AreIn (finmap.remove points p) b (point_entries held)
