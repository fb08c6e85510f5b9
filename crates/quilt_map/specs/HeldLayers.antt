-- What it is that records spell a layer of the work, whatever its kind.
use Rattle.std.specs.Prelude.{ℕ, Option}
use Rattle.quilt_types.specs.Layers.{Layer, Region, Points, Lines}
use Rattle.quilt_world.specs.Disk.{Pages}
use Rattle.quilt_world.specs.declared.disk.Disk as disk
use Rattle.quilt_btree.specs.declared.tree.Tree.{Tree}
use Rattle.quilt_region.specs.Regions.{HasRegion}
use Rattle.quilt_points.specs.Layers.{HasPoints}
use Rattle.quilt_lines.specs.Layers.{HasLines}
use Rattle.quilt_edition.specs.declared.book.Book.{Book}
use Rattle.quilt_map.specs.Sessions.{told_of, tree_in}

-- the tree, over these pages, has records that spell the layer under this number, in a map of this level
abbrev pub HoldsIn : Option Pages → Tree → ℕ → ℕ → Layer → Type 0
HoldsIn told tree number n (Region grid) = HasRegion told tree number n grid
HoldsIn told tree number n (Points capacity points) = HasPoints told tree number n capacity points
HoldsIn told tree number n (Lines threshold segs cover) = HasLines told tree number n threshold segs cover

module _ {W : Type 0} {D : disk.Ghosts W} where
  -- the work's records spell the layer under this number
  abbrev pub HoldsLayer : Book W D → ℕ → Layer → Type 0
  HoldsLayer b number layer = HoldsIn (told_of b) (tree_in b.work) number b.work.level layer
