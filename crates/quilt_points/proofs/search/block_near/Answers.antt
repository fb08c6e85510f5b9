use Rattle.quilt_loc.proofs.Blocks.{IsBlock-up}
use Rattle.quilt_points.proofs.Singles.{last_block}
use Rattle.quilt_btree.proofs.Handed.{handed_on}
use Rattle.quilt_points.proofs.search.block_near.Goals as goal

pub covers-requires : goal.covers-requires
covers-requires g c =
    IsBlock-up c.args.layer.level 12 c.in-Some.b c.args.layer.has_level.1
    (last_block (g.S.PageStore.told c.args.store.now) c.args.tree.now c.args.layer.level c.args.layer.bucket c.args.layer.number c.args.search.now.last
    c.in-Some.b c.in-Some.held c.in-Some.is c.requires.search.last)

pub returns-in_err-found-clause-sound : goal.returns-in_err-found-clause-sound
returns-in_err-found-clause-sound g c = rw (handed_on c.from_residual.result c.from_residual.ensures.1) c.in_err-found.ensures.sound

pub returns-in_err-found-clause-zero : goal.returns-in_err-found-clause-zero
returns-in_err-found-clause-zero g c = rw (handed_on c.from_residual.result c.from_residual.ensures.1) c.in_err-found.ensures.zero

pub returns-in_err-found-clause-bad : goal.returns-in_err-found-clause-bad
returns-in_err-found-clause-bad g c = rw (handed_on c.from_residual.result c.from_residual.ensures.1) c.in_err-found.ensures.bad
