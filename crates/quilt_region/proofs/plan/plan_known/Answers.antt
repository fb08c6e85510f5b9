use Rattle.std.proofs.Common.{◌≡◌, ℕ, true, sym, ◌∙◌, subst}
use Rattle.quilt_types.specs.Plane.{is_window}
use Rattle.quilt_types.specs.Algebra.{painted}
use Rattle.quilt_blocks.specs.Raster.{Raster}
use Rattle.quilt_region.specs.Plans.{ReplacesGrid}
use Rattle.quilt_region.proofs.plans.KnownPlans.{removes_same, adds_same}
use Rattle.quilt_btree.proofs.Handed.{handed_on}
use Rattle.quilt_region.proofs.plan.plan_known.Goals as goal

pub returns-in-Ok-clause-plan : goal.returns-in-Ok-clause-plan
returns-in-Ok-clause-plan c g is knows =
    let n = c.args.level in
    let k = c.args.known.now in
    let leads = subst (λ (m : Raster). ReplacesGrid m.level c.args.layer m.grid (painted m.level m.grid c.args.w k.around.0) c.in-Ok.edits)
    (c.in_ok-old.ensures.list g is) c.in-Ok.ensures in
    record {
      remove = leads.remove ∙ sym (removes_same n g c.args.w k c.requires.level.1 c.requires.window knows c.args.layer);
      add = leads.add ∙ sym (adds_same n g c.args.w k c.requires.level.1 c.requires.window knows c.args.layer);
    }

pub repaint-requires-clause-window : goal.repaint-requires-clause-window
repaint-requires-clause-window c = subst (λ (n : ℕ). is_window n c.args.w ≡ true) (sym c.in_ok-old.ensures.level) c.requires.window

pub returns-in_err-old-clause-sound : goal.returns-in_err-old-clause-sound
returns-in_err-old-clause-sound c =
    rw (handed_on c.from_residual.result c.from_residual.ensures.1) (λ g is knows. c.in_err-old.ensures.sound g is knows.read_cut)
