use Rattle.std.proofs.Common.{subst, arith}
use Rattle.std.proofs.lemmas.List.{length-map}
use Rattle.quilt_blocks.specs.Cutting.{leaf_pair}
use Rattle.quilt_blocks.specs.Raster.{IsRaster}
use Rattle.quilt_blocks.specs.Listing.{leaf_pairs}
use Rattle.quilt_blocks.proofs.Cuts.{leaves_members, leaves_rise}
use Rattle.quilt_blocks.proofs.Listed.{listed_raster, listed_run, some_leaf}
use Rattle.quilt_blocks.proofs.list.LeafList.len.Goals as goal

pub returns-clause-some : goal.returns-clause-some
returns-clause-some c =
    let es = leaf_pairs c.self.inside.leaves.items in
    let s = some_leaf c.self.inside.level es (listed_run c.self.inside.level es c.self.invariant) in
    let l = length-map c.self.inside.leaves.items leaf_pair in
    omega arith

pub returns-clause-raster : goal.returns-clause-raster
returns-clause-raster c = subst IsRaster c.self.view_is (listed_raster c.self.inside.level (leaf_pairs c.self.inside.leaves.items) c.self.invariant)

pub returns-clause-members : goal.returns-clause-members
returns-clause-members c e = leaves_members c.args.self.now.level c.args.self.now.grid e

pub returns-clause-order : goal.returns-clause-order
returns-clause-order c =
    let r = returns-clause-raster c in
    leaves_rise c.args.self.now.level c.args.self.now.grid r.most
