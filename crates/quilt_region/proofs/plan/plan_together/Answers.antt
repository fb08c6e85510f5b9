use Rattle.std.proofs.Common.{◌+◌, ◌*◌, length, sym, ◌∙◌, subst, arith}
use Rattle.quilt_types.specs.declared.plane.Colour.{Colour}
use Rattle.quilt_types.specs.Algebra.{painted}
use Rattle.quilt_store.proofs.Reading.{only_reads_then, only_reads_err, only_reads_free}
use Rattle.quilt_region.specs.Plans.{ReplacesGrid}
use Rattle.quilt_region.specs.Regions.{HasRegion}
use Rattle.quilt_region.specs.Windows.{leaves_within}
use Rattle.quilt_region.proofs.Beside.{if_err_weaker, if_ok_weaker}
use Rattle.quilt_region.proofs.Counting.{reads_plain, saved_then, saved_more}
use Rattle.quilt_region.proofs.Nearby.{power_le}
use Rattle.quilt_region.proofs.Results.{if_ok}
use Rattle.quilt_btree.proofs.Handed.{handed_on}
use Rattle.quilt_btree.proofs.Stops.{zero_handed, bad_handed}
use Rattle.quilt_btree.proofs.ways.Damage.{zero_named}
use Rattle.quilt_region.proofs.plan.plan_together.Goals as goal

pub returns-in_err-records-clause-sound : goal.returns-in_err-records-clause-sound
returns-in_err-records-clause-sound g c =
    rw (handed_on c.from_residual-in_err-records.result c.from_residual-in_err-records.ensures.1)
    (λ grid h. c.in_err-records.ensures.sound grid (subst (λ told. HasRegion told c.args.tree.now c.args.layer c.args.level grid) (sym c.in_ok-known.ensures.left.told) h))

pub returns-clause-plan : goal.returns-clause-plan
returns-clause-plan g c =
    if_ok_weaker c.plan_known.result
    (λ edits law grid h.
    let n = c.args.level in
    let leads =
    law grid (c.deref.ensures.value ∙ c.in_ok-records.ensures.records grid
    (subst (λ told. HasRegion told c.args.tree.now c.args.layer n grid) (sym c.in_ok-known.ensures.left.told) h)) (c.in_ok-known.ensures.knows grid h) in
    subst (λ (d : Colour). ReplacesGrid n c.args.layer grid (painted n grid c.args.w d.0) edits) c.in_ok-known.ensures.colour leads)
    c.plan_known.ensures.plan

pub returns-clause-sound : goal.returns-clause-sound
returns-clause-sound g c =
    if_err_weaker c.plan_known.result
    (λ e law grid h.
    law grid (c.deref.ensures.value ∙ c.in_ok-records.ensures.records grid
    (subst (λ told. HasRegion told c.args.tree.now c.args.layer c.args.level grid) (sym c.in_ok-known.ensures.left.told) h)) (c.in_ok-known.ensures.knows grid h))
    c.plan_known.ensures.sound

pub returns-clause-reads : goal.returns-clause-reads
returns-clause-reads g c =
    if_ok c.plan_known.result _
    (λ grid b j h hb holds most.
    let n = c.args.level in
    let few = c.in_ok-known.ensures.few grid b h hb holds in
    let own = length (leaves_within n grid c.in_ok-known.known.read) in
    let read = c.in_ok-records.ensures.reads grid (subst (λ told. HasRegion told c.args.tree.now c.args.layer n grid) (sym c.in_ok-known.ensures.left.told) h) in
    let known = c.in_ok-known.ensures.blocks.read in
    let up = power_le j known.level known.size (most c.in_ok-known.known.read known c.in_ok-known.ensures.holds) in
    saved_more (24 * known.level) (24 * j) (12 + 24 * n + 3 * own) (15 + 24 * n + 3 * length (leaves_within n grid b)) _ _ (omega arith)
    (saved_then (24 * known.level) (6 + 24 * n) (6 + 3 * own) (12 + 24 * n + 3 * own) _ _ _ (omega arith)
    (c.in_ok-known.ensures.reads known.level known.size) (reads_plain 6 (3 * own) _ _ read)))

pub returns-in_err-records-clause-left : goal.returns-in_err-records-clause-left
returns-in_err-records-clause-left g c =
    rw (handed_on c.from_residual-in_err-records.result c.from_residual-in_err-records.ensures.1)
    (only_reads_err _ (only_reads_then _ g.met.S.PageStore.goes_on _ _ _ c.in_ok-known.ensures.left c.in_err-records.ensures.left))

pub returns-clause-left : goal.returns-clause-left
returns-clause-left g c = only_reads_free _ c.plan_known.result (only_reads_then _ g.met.S.PageStore.goes_on _ _ _ c.in_ok-known.ensures.left c.in_ok-records.ensures.left)
    c.plan_known.ensures.no_fault

pub returns-in_err-records-clause-zero : goal.returns-in_err-records-clause-zero
returns-in_err-records-clause-zero g c =
    zero_handed _ c.from_residual-in_err-records.result c.from_residual-in_err-records.ensures.1
    c.args.tree.now c.in_ok-known.ensures.left.told c.in_err-records.ensures.zero

pub returns-clause-zero : goal.returns-clause-zero
returns-clause-zero g c = if_err_weaker c.plan_known.result (λ e zero rs is. zero) c.plan_known.ensures.zero

pub returns-in_err-records-clause-bad : goal.returns-in_err-records-clause-bad
returns-in_err-records-clause-bad g c =
    bad_handed _ c.from_residual-in_err-records.result c.from_residual-in_err-records.ensures.1
    c.args.tree.now c.in_ok-known.ensures.left.told c.in_err-records.ensures.bad

pub returns-clause-bad : goal.returns-clause-bad
returns-clause-bad g c = zero_named c.plan_known.result _ _ _ c.plan_known.ensures.zero

pub returns-in_err-known-clause-sound : goal.returns-in_err-known-clause-sound
returns-in_err-known-clause-sound g c = rw (handed_on c.from_residual.result c.from_residual.ensures.1) c.in_err-known.ensures.sound

pub returns-in_err-known-clause-zero : goal.returns-in_err-known-clause-zero
returns-in_err-known-clause-zero g c = rw (handed_on c.from_residual.result c.from_residual.ensures.1) c.in_err-known.ensures.zero

pub returns-in_err-known-clause-bad : goal.returns-in_err-known-clause-bad
returns-in_err-known-clause-bad g c = rw (handed_on c.from_residual.result c.from_residual.ensures.1) c.in_err-known.ensures.bad
