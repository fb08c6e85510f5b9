use Rattle.std.proofs.Common.{sym, ◌∙◌, subst, Contains}
use Rattle.quilt_types.specs.Plane.{corner}
use Rattle.quilt_types.specs.Quadtrees.{leaves}
use Rattle.quilt_loc.proofs.Nesting.{Holds-corner}
use Rattle.quilt_blocks.specs.Cutting.{leaf_pair}
use Rattle.quilt_region.proofs.Beside.{true_false, blocks_equal, blocks_differ}
use Rattle.quilt_region.proofs.InStep.{leaves_are, leaves_test}
use Rattle.quilt_region.proofs.Nearby.{leaf_same}
use Rattle.quilt_btree.proofs.Handed.{handed_on}
use Rattle.quilt_region.proofs.neighbours.has_quarter.Goals as goal

pub returns-then-eq-clause-yes : goal.returns-then-eq-clause-yes
returns-then-eq-clause-yes g c t grid h differ = absurd (differ (blocks_equal c.args.q c.args.b (c.if-eq.ensures {u = tt})))

pub returns-clause-yes : goal.returns-clause-yes
returns-clause-yes g c t grid h differ =
    let n = c.args.level in
    let same = leaves_are c.in_ok-leaf.leaf (record { block = c.args.q; colour = c.args.c }) (sym c.eq-2.ensures ∙ t) in
    subst (Contains (leaves n grid)) same (c.in_ok-leaf.ensures.leaf grid h).member

pub returns-clause-no : goal.returns-clause-no
returns-clause-no g c f grid h = (
  blocks_differ c.args.q c.args.b (c.if-eq.ensures {u = tt}),
  λ there.
      let n = c.args.level in
      let same = leaf_same n grid (corner c.args.q) (leaf_pair c.in_ok-leaf.leaf) (c.args.q, c.args.c.0) (c.in_ok-leaf.ensures.leaf grid h)
      (record { member = there; holds = Holds-corner n c.args.q c.requires.block }) in
      true_false (sym (leaves_test c.in_ok-leaf.leaf (record { block = c.args.q; colour = c.args.c }) same) ∙ sym c.eq-2.ensures ∙ f),
)

pub returns-in_err-leaf-clause-sound : goal.returns-in_err-leaf-clause-sound
returns-in_err-leaf-clause-sound g c = rw (handed_on c.from_residual.result c.from_residual.ensures.1) c.in_err-leaf.ensures.sound

pub returns-in_err-leaf-clause-zero : goal.returns-in_err-leaf-clause-zero
returns-in_err-leaf-clause-zero g c = rw (handed_on c.from_residual.result c.from_residual.ensures.1) c.in_err-leaf.ensures.zero

pub returns-in_err-leaf-clause-bad : goal.returns-in_err-leaf-clause-bad
returns-in_err-leaf-clause-bad g c = rw (handed_on c.from_residual.result c.from_residual.ensures.1) c.in_err-leaf.ensures.bad
