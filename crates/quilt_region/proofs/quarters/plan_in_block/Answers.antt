use Rattle.std.proofs.Common.{◌≡◌, ◌+◌, ◌*◌, length, sym, ◌∙◌, arith}
use Rattle.quilt_types.specs.declared.plane.Pixel.{Pixel}
use Rattle.quilt_types.specs.declared.stop.Stop.TheVariants.{Memory, Damaged}
use Rattle.quilt_types.specs.Algebra.{painted}
use Rattle.quilt_region.specs.Windows.{leaves_within}
use Rattle.quilt_world.proofs.ReadCounts.{reads_more}
use Rattle.quilt_region.proofs.plans.KnownPlans.{corner_in}
use Rattle.quilt_region.proofs.Results.{only_reads_no_fault}
use Rattle.quilt_region.proofs.Nearby.{window_corner}
use Rattle.quilt_region.proofs.plans.Quarters.{quarter_with, few_in_quarters}
use Rattle.quilt_region.proofs.plans.QuarterPlans.{inside_from, quarters_whole, can_be, sorted_is, from_none}
use Rattle.quilt_btree.proofs.Handed.{handed_on}
use Rattle.quilt_btree.proofs.Stops.{zero_page}
use Rattle.quilt_btree.proofs.ways.Damage.{zero_names}
use Rattle.quilt_region.proofs.quarters.plan_in_block.Goals as goal

memory_sound : (page : _) → Memory ≡ Damaged page → ⊥
memory_sound page e = cc

pub returns-in_err-edits-clause-sound : goal.returns-in_err-edits-clause-sound
returns-in_err-edits-clause-sound g c =
    rw (handed_on c.from_residual-in_err-edits.result c.from_residual-in_err-edits.ensures.1) (λ grid h page e. let n = c.args.level in
    let le = c.requires.level.1 in
    let w = c.args.w in
    let p : Pixel = record { x = w.x; y = w.y } in
    let q = quarter_with n c.args.b le c.requires.block c.requires.wide p (window_corner c.args.b n w c.requires.window c.requires.holds) in
    let several = c.in_ok-plan_quarters.ensures.several c.if-not-branch.false grid q.0 p h q.1 q.2 (inside_from w p (corner_in n w c.requires.window)) in
    let both = quarters_whole n c.args.layer grid w c.args.c.0 c.args.b le c.requires.window c.requires.block c.requires.wide c.requires.holds several in
    let removed =
    from_none c.new-remove.result.items _ _ _ (c.in_ok-plan_quarters.ensures.remove c.if-not-branch.false grid h several) c.new-remove.ensures.items both.0 in
    let added = from_none c.new-add.result.items _ _ _ (c.in_ok-plan_quarters.ensures.add c.if-not-branch.false grid h several) c.new-add.ensures.items both.1 in
    memory_sound page (sym (c.in_err-edits.ensures.memory (can_be n c.args.layer grid (painted n grid w c.args.c.0) _ _ le removed added)) ∙ e))

pub returns-clause-plan : goal.returns-clause-plan
returns-clause-plan g c grid h =
    let n = c.args.level in
    let le = c.requires.level.1 in
    let w = c.args.w in
    let p : Pixel = record { x = w.x; y = w.y } in
    let q = quarter_with n c.args.b le c.requires.block c.requires.wide p (window_corner c.args.b n w c.requires.window c.requires.holds) in
    let several = c.in_ok-plan_quarters.ensures.several c.if-not-branch.false grid q.0 p h q.1 q.2 (inside_from w p (corner_in n w c.requires.window)) in
    let both = quarters_whole n c.args.layer grid w c.args.c.0 c.args.b le c.requires.window c.requires.block c.requires.wide c.requires.holds several in
    let removed =
    from_none c.new-remove.result.items _ _ _ (c.in_ok-plan_quarters.ensures.remove c.if-not-branch.false grid h several) c.new-remove.ensures.items both.0 in
    let added = from_none c.new-add.result.items _ _ _ (c.in_ok-plan_quarters.ensures.add c.if-not-branch.false grid h several) c.new-add.ensures.items both.1 in
    let after = painted n grid w c.args.c.0 in
    record {
      remove = sorted_is n c.args.layer grid after _ _ le removed c.in_ok-edits.ensures.remove c.in_ok-edits.ensures.order.remove;
      add = sorted_is n c.args.layer after grid _ _ le added c.in_ok-edits.ensures.add c.in_ok-edits.ensures.order.add;
    }

pub returns-clause-reads : goal.returns-clause-reads
returns-clause-reads g c grid h =
    let n = c.args.level in
    let few = few_in_quarters n c.args.b c.requires.level.1 c.requires.block c.requires.wide grid in
    reads_more (36 * 4 + 3 * _) (144 + 3 * length (leaves_within n grid c.args.b)) _ _ (omega arith)
    (c.in_ok-plan_quarters.ensures.reads c.if-not-branch.false grid h)

pub returns-in_err-edits-clause-zero : goal.returns-in_err-edits-clause-zero
returns-in_err-edits-clause-zero g c =
    rw (handed_on c.from_residual-in_err-edits.result c.from_residual-in_err-edits.ensures.1) (λ rs is. zero_page _ c.in_err-edits.ensures.zero)

pub returns-in_err-edits-clause-bad : goal.returns-in_err-edits-clause-bad
returns-in_err-edits-clause-bad g c =
    rw (handed_on c.from_residual-in_err-edits.result c.from_residual-in_err-edits.ensures.1) (zero_names _ _ _ _ (zero_page _ c.in_err-edits.ensures.zero))

pub returns-in_err-edits-clause-left : goal.returns-in_err-edits-clause-left
returns-in_err-edits-clause-left g c =
    only_reads_no_fault _ _ c.from_residual-in_err-edits.ensures.1 c.in_err-edits.ensures.no_fault c.in_ok-plan_quarters.ensures.left

pub returns-in_err-plan_quarters-clause-sound : goal.returns-in_err-plan_quarters-clause-sound
returns-in_err-plan_quarters-clause-sound g c = rw (handed_on c.from_residual.result c.from_residual.ensures.1) c.in_err-plan_quarters.ensures.sound

pub returns-in_err-plan_quarters-clause-zero : goal.returns-in_err-plan_quarters-clause-zero
returns-in_err-plan_quarters-clause-zero g c = rw (handed_on c.from_residual.result c.from_residual.ensures.1) c.in_err-plan_quarters.ensures.zero

pub returns-in_err-plan_quarters-clause-bad : goal.returns-in_err-plan_quarters-clause-bad
returns-in_err-plan_quarters-clause-bad g c = rw (handed_on c.from_residual.result c.from_residual.ensures.1) c.in_err-plan_quarters.ensures.bad
