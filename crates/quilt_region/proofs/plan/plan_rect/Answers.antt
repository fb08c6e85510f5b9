use Rattle.std.proofs.Common.{◌≡◌, true, false, ℕ, ◌+◌, ◌*◌, ◌≤◌, length, sym, ◌∙◌, ap, subst, arith}
use Rattle.std.specs.Option.{is_some}
use Rattle.quilt_store.proofs.Reading.{only_reads_then}
use Rattle.quilt_types.specs.declared.plane.Block.{Block}
use Rattle.quilt_types.specs.Plane.{IsBlock}
use Rattle.quilt_types.specs.Layers.{Grid}
use Rattle.quilt_world.specs.Tale.{Goes}
use Rattle.quilt_record.specs.declared.edits.Edits.{Edits}
use Rattle.quilt_region.specs.Regions.{HasRegion}
use Rattle.quilt_region.specs.Windows.{HoldsWindow, leaves_within}
use Rattle.quilt_region.proofs.Beside.{if_err_weaker, if_ok_weaker}
use Rattle.quilt_world.proofs.ReadCounts.{reads_more}
use Rattle.quilt_region.proofs.Counting.{then_saved, saved_less}
use Rattle.quilt_region.proofs.Nearby.{power_le}
use Rattle.quilt_region.proofs.plans.QuarterPlans.{some_at}
use Rattle.quilt_btree.proofs.Stops.{zero_along}
use Rattle.quilt_btree.proofs.ways.Damage.{named_along}
use Rattle.quilt_btree.proofs.Handed.{handed_on}
use Rattle.quilt_region.proofs.plan.plan_rect.Goals as goal

pub returns-in-Some-clause-reads : goal.returns-in-Some-clause-reads
returns-in-Some-clause-reads g c grid b h hb holds =
    let n = c.args.level in
    let own = length (leaves_within n grid b) in
    let large : (a : Block) → IsBlock n a → HoldsWindow a c.args.w
    → 64 ≤ a.side = some_at (λ (edits : Edits). (a : Block) → IsBlock c.args.level a → HoldsWindow a c.args.w
    → 64 ≤ a.side) c.in_ok-edits.field-0 c.in-Some.edits c.in-Some.is c.in_ok-edits.ensures.large in
    let six = power_le 6 hb.level hb.size (large b hb holds) in
    let low = hb.low in
    reads_more (144 + 3 * own) (15 + 24 * n + 3 * own) _ _ (omega arith)
    (some_at (λ (edits : Edits). (grid : Grid) (a : Block) → HasRegion (g.S.PageStore.told c.args.store.now) c.args.tree.now c.args.layer n grid
    → IsBlock n a → HoldsWindow a c.args.w
    → Goes {A = ℕ} (λ old new. new ≤ old + (144 + 3 * length (leaves_within n grid a))) (g.S.PageStore.reads c.args.store.now)
    (g.S.PageStore.reads c.plan_apart.new.store)) c.in_ok-edits.field-0 c.in-Some.edits c.in-Some.is
    c.in_ok-edits.ensures.reads grid b h hb holds)

pub returns-in-None-clause-sound : goal.returns-in-None-clause-sound
returns-in-None-clause-sound g c =
    if_err_weaker c.plan_together.result
    (λ e law grid h. law grid (subst (λ told. HasRegion told c.args.tree.now c.args.layer c.args.level grid) (sym c.in_ok-edits.ensures.left.told) h))
    c.plan_together.ensures.sound

pub returns-in-None-clause-reads : goal.returns-in-None-clause-reads
returns-in-None-clause-reads g c =
    if_ok_weaker c.plan_together.result
    (λ edits law grid b h hb holds.
    let n = c.args.level in
    let most = 15 + 24 * n + 3 * length (leaves_within n grid b) in
    let tried = c.in_ok-edits.ensures.tried (ap is_some c.in-None.is) in
    let rest = law grid b tried.0 (subst (λ told. HasRegion told c.args.tree.now c.args.layer n grid) (sym c.in_ok-edits.ensures.left.told) h) hb holds
    tried.1 in
    saved_less (24 * tried.0) (24 * tried.0 + most) most _ _ (omega arith)
    (then_saved (24 * tried.0) (24 * tried.0) most (24 * tried.0 + most) _ _ _ (omega arith) tried.2 rest))
    c.plan_together.ensures.reads

true_false : true ≡ false → ⊥
true_false e = cc

pub returns-in-None-clause-pixel : goal.returns-in-None-clause-pixel
returns-in-None-clause-pixel g c wide high = absurd (true_false (sym (c.is_one_pixel.ensures.no wide high) ∙ c.if-is_one_pixel.false))

pub returns-in-Some-clause-pixel : goal.returns-in-Some-clause-pixel
returns-in-Some-clause-pixel g c wide high = absurd (true_false (sym (c.is_one_pixel.ensures.no wide high) ∙ c.if-is_one_pixel.false))

pub plan_pixel-requires-clause-wide : goal.plan_pixel-requires-clause-wide
plan_pixel-requires-clause-wide g c = (c.is_one_pixel.ensures.yes c.if-is_one_pixel.true).0

pub plan_pixel-requires-clause-high : goal.plan_pixel-requires-clause-high
plan_pixel-requires-clause-high g c = (c.is_one_pixel.ensures.yes c.if-is_one_pixel.true).1

pub returns-then-is_one_pixel-clause-reads : goal.returns-then-is_one_pixel-clause-reads
returns-then-is_one_pixel-clause-reads g c =
    if_ok_weaker c.plan_pixel.result
    (λ edits read grid b h hb holds.
    let own = length (leaves_within c.args.level grid b) in
    reads_more (6 + 24 * c.args.level) (15 + 24 * c.args.level + 3 * own) _ _ (omega arith) read)
    c.plan_pixel.ensures.reads

pub returns-then-is_one_pixel-clause-pixel : goal.returns-then-is_one_pixel-clause-pixel
returns-then-is_one_pixel-clause-pixel g c wide high = if_ok_weaker c.plan_pixel.result (λ edits read grid h. read) c.plan_pixel.ensures.reads

pub returns-in-None-clause-left : goal.returns-in-None-clause-left
returns-in-None-clause-left g c = only_reads_then _ g.met.S.PageStore.goes_on _ _ _ c.in_ok-edits.ensures.left c.plan_together.ensures.left

pub returns-in-None-clause-zero : goal.returns-in-None-clause-zero
returns-in-None-clause-zero g c =
    zero_along c.args.tree.now c.plan_together.result c.in_ok-edits.ensures.left.told c.plan_together.ensures.zero

pub returns-in-None-clause-bad : goal.returns-in-None-clause-bad
returns-in-None-clause-bad g c =
    named_along c.plan_together.result _ _ _ _ c.in_ok-edits.ensures.left.told c.plan_together.ensures.bad

pub returns-in_err-edits-clause-sound : goal.returns-in_err-edits-clause-sound
returns-in_err-edits-clause-sound g c = rw (handed_on c.from_residual.result c.from_residual.ensures.1) c.in_err-edits.ensures.sound

pub returns-in_err-edits-clause-zero : goal.returns-in_err-edits-clause-zero
returns-in_err-edits-clause-zero g c = rw (handed_on c.from_residual.result c.from_residual.ensures.1) c.in_err-edits.ensures.zero

pub returns-in_err-edits-clause-bad : goal.returns-in_err-edits-clause-bad
returns-in_err-edits-clause-bad g c = rw (handed_on c.from_residual.result c.from_residual.ensures.1) c.in_err-edits.ensures.bad
