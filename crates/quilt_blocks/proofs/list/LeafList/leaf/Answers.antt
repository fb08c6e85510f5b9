use Rattle.std.proofs.Common.{◌≡◌, sym, ap, subst, arith, length}
use Rattle.std.proofs.lemmas.List.{length-map}
use Rattle.quilt_blocks.specs.Cutting.{leaves_by_code, leaf_pair}
use Rattle.quilt_blocks.specs.Raster.{Raster}
use Rattle.quilt_blocks.specs.Listing.{leaf_pairs, grid_from}
use Rattle.quilt_blocks.proofs.Cuts.{IsLeaf}
use Rattle.quilt_blocks.proofs.Listed.{listed_leaf, pair_member}
use Rattle.quilt_blocks.proofs.list.LeafList.leaf.Goals as goal

abbrev Found : goal.After-result-1 → Raster → Type 0
Found c r = IsLeaf r.level r.grid (leaf_pair c.index.result.now)

found : (c : goal.After-result-1) → Found c c.args.self.now
found c =
    let n = c.self.inside.level in
    let items = c.self.inside.leaves.items in
    let same : length (leaves_by_code n (grid_from n (leaf_pairs items))) ≡ length (leaves_by_code c.args.self.now.level c.args.self.now.grid) =
    ap (λ (r : Raster). length (leaves_by_code r.level r.grid)) c.self.view_is in
    let long = ap length c.self.invariant.ordered in
    let map = length-map items leaf_pair in
    let lt = c.requires in
    subst (Found c) c.self.view_is
    (listed_leaf n (leaf_pairs items) c.self.invariant (leaf_pair c.index.result.now)
    (pair_member items c.args.i c.index.result.now (omega arith) (sym c.index.ensures)))

pub returns-clause-block : goal.returns-clause-block
returns-clause-block c = (found c).maximal.block

pub returns-clause-colour : goal.returns-clause-colour
returns-clause-colour c = (found c).colour
