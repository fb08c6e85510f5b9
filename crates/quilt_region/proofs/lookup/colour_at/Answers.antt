use Rattle.std.proofs.Common.{sym}
use Rattle.quilt_blocks.proofs.Cuts.{leaf_is}
use Rattle.quilt_blocks.specs.Cutting.{leaf_pair}
use Rattle.quilt_btree.proofs.Handed.{handed_on}
use Rattle.quilt_region.proofs.lookup.colour_at.Goals as goal

pub returns-clause-colour : goal.returns-clause-colour
returns-clause-colour g c grid h =
    let l = c.in_ok-leaf.ensures.leaf grid h in
    sym ((leaf_is c.args.level grid (leaf_pair c.in_ok-leaf.leaf) l.member).colour.each c.args.p l.holds)

pub returns-clause-answered : goal.returns-clause-answered
returns-clause-answered g c rs is = record { block = c.in_ok-leaf.leaf.block; holds = c.in_ok-leaf.ensures.holds; is = c.in_ok-leaf.ensures.row rs is }

pub returns-in_err-leaf-clause-sound : goal.returns-in_err-leaf-clause-sound
returns-in_err-leaf-clause-sound g c = rw (handed_on c.from_residual.result c.from_residual.ensures.1) c.in_err-leaf.ensures.sound

pub returns-in_err-leaf-clause-zero : goal.returns-in_err-leaf-clause-zero
returns-in_err-leaf-clause-zero g c = rw (handed_on c.from_residual.result c.from_residual.ensures.1) c.in_err-leaf.ensures.zero

pub returns-in_err-leaf-clause-bad : goal.returns-in_err-leaf-clause-bad
returns-in_err-leaf-clause-bad g c = rw (handed_on c.from_residual.result c.from_residual.ensures.1) c.in_err-leaf.ensures.bad
