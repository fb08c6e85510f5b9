-- How many pages a question costs, by what the layer is that it asks.
use Rattle.std.specs.Prelude.{ℕ, ◌+◌, ◌*◌, length, Option, Some, None}
use Rattle.std.specs.List.{sum_by}
use Rattle.quilt_types.specs.declared.plane.Window.{Window}
use Rattle.quilt_types.specs.Layers.{Layer, Region, Points, Lines, PointMap, Grid}
use Rattle.quilt_types.specs.Algebra.{cut_to}
use Rattle.quilt_types.specs.Plane.{whole}
use Rattle.quilt_types.specs.Quadtrees.{point_blocks}
use Rattle.quilt_blocks.specs.Cutting.{leaves_by_code}
use Rattle.quilt_region.specs.Covers.{cover_of}
use Rattle.quilt_region.specs.Windows.{leaves_within}
use Rattle.quilt_points.specs.Windows.{visited}
use Rattle.quilt_lines.specs.Counting.{pages_in}

-- the points in a window: a look and the points of a block for each quadrant that meets the window and lies in no larger block of the layer
abbrev pub within_pages : ℕ → ℕ → PointMap → Window → ℕ
within_pages n capacity points w = (6 + 3 * capacity) * visited n capacity points w (whole n)

-- a window of a region, read by the blocks of this side that hold a corner of it: two looks for each, and its leaves
abbrev pub show_pages : ℕ → Grid → ℕ → Window → ℕ
show_pages n g side w = sum_by (λ b. 12 + 3 * length (leaves_within n g b)) (cover_of side w)

-- a window that is cut out of a region into a layer of its own: the same, and 6 pages for each record that comes, which are that of the catalog and
-- one for each leaf of the new layer
abbrev pub cut_pages : ℕ → Grid → ℕ → Window → ℕ
cut_pages n g side w = show_pages n g side w + (6 + 6 * length (leaves_by_code n (cut_to n g w)))

-- the blocks of a layer: all leaves of a region, a look for each block of points, and one for each block of lines and each larger one around it
abbrev pub layer_block_pages : ℕ → Layer → ℕ
layer_block_pages n (Region g) = 6 + 3 * length (leaves_by_code n g)
layer_block_pages n (Points capacity points) = 6 * length (point_blocks n capacity points)
layer_block_pages n (Lines threshold segs cover) = pages_in cover n (whole n)

-- the same where there may be no layer
abbrev pub block_pages_in : ℕ → Option Layer → ℕ
block_pages_in n None = 0
block_pages_in n (Some l) = layer_block_pages n l
