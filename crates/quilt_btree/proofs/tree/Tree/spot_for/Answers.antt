use Rattle.std.proofs.Common.{◌≢◌, refl, arith}
use Rattle.quilt_btree.proofs.Spots.{leads_from}
use Rattle.quilt_btree.proofs.subtrees.Whole.{sound_whole}
use Rattle.quilt_btree.proofs.ways.Leaves.{same_le}
use Rattle.quilt_btree.proofs.Handed.{handed_on}
use Rattle.quilt_btree.proofs.tree.Tree.spot_for.Goals as goal

pub returns-in_err-found-clause-sound : goal.returns-in_err-found-clause-sound
returns-in_err-found-clause-sound g c =
    rw (handed_on c.from_residual.result c.from_residual.ensures.1) (let ne : c.args.self.now.height ≢ 0 = let h = c.requires.some in omega arith in
    sound_whole _ (g.S.PageStore.told c.args.store.now) c.args.self.now ne c.in_err-found.ensures.sound)

pub returns-clause-leads : goal.returns-clause-leads
returns-clause-leads g c = record {
  page = c.in_ok-found.ensures.range.range;
  spot =
      leads_from (g.S.PageStore.told c.args.store.now) c.args.self.now c.args.k.now c.in_ok-found.found.page c.in_ok-found.found.high c.requires.some
      c.in_ok-found.ensures.arrives;
  keys = (same_le c.args.k.now, c.in_ok-found.ensures.range.above refl);
}
