use Rattle.std.proofs.Common.{subst}
use Rattle.quilt_blocks.specs.Raster.{IsRaster}
use Rattle.quilt_blocks.specs.Listing.{leaf_pairs}
use Rattle.quilt_blocks.proofs.Listed.{listed_raster}
use Rattle.quilt_blocks.proofs.list.LeafList.level.Goals as goal

pub returns-clause-raster : goal.returns-clause-raster
returns-clause-raster c = subst IsRaster c.self.view_is (listed_raster c.self.inside.level (leaf_pairs c.self.inside.leaves.items) c.self.invariant)
