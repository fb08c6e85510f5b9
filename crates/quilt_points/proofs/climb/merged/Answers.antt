use Rattle.std.proofs.Common.{◌≡◌, ◌+◌, ◌*◌, ◌<◌, ◌≤◌, true, false, List, length, refl, sym, ◌∙◌, ap, subst, arith}
use Rattle.std.specs.FinMap as finmap
use Rattle.quilt_types.specs.declared.plane.Block.{Block}
use Rattle.quilt_types.specs.declared.plane.Point.{Point}
use Rattle.quilt_types.specs.Plane.{IsBlock}
use Rattle.quilt_types.specs.Quadtrees.{holds_few}
use Rattle.quilt_loc.proofs.Nesting.{IsBlock-parent_of, side_pos}
use Rattle.quilt_point_laws.specs.Laws.{AreIn}
use Rattle.quilt_points.specs.Layers.{point_entries}
use Rattle.quilt_points.specs.Climbing.{IsOnWay}
use Rattle.quilt_points.proofs.Finds.{if_some_at}
use Rattle.quilt_world.proofs.ReadCounts.{reads_none}
use Rattle.quilt_points.proofs.Ways.{way_last, way_up, way_many, inner_from}
use Rattle.quilt_btree.proofs.Handed.{handed_on}
use Rattle.quilt_points.proofs.climb.merged.Goals as goal

true_false : true ≡ false → ⊥
true_false e = cc

pub returns-in_default-clause-last : goal.returns-in_default-clause-last
returns-in_default-clause-last g c _ points p label h some way =
    let whole = c.in_default.ensures.whole.0 refl in
    way_last c.args.layer.level c.args.layer.bucket points p label some c.args.leaf.now.block c.args.leaf.now.points.items way (λ lt. absurd (omega arith))

pub joined-requires-clause-inner : goal.joined-requires-clause-inner
joined-requires-clause-inner g c = inner_from c.args.layer.level c.args.leaf.now.block c.requires.block (λ e. true_false (c.in-Some.ensures.whole.1 e))

pub returns-then-not-are_few-clause-last : goal.returns-then-not-are_few-clause-last
returns-then-not-are_few-clause-last g c _ points p label h some way =
    way_last c.args.layer.level c.args.layer.bucket points p label some c.args.leaf.now.block c.args.leaf.now.points.items way (λ lt.
    way_many c.args.layer.level c.args.layer.bucket points p label some c.args.leaf.now.block c.args.leaf.now.points.items way lt c.in-Some-2.points.items
    (subst (λ (b : Block). AreIn (finmap.remove points p) b (point_entries c.in-Some-2.points.items)) c.in-Some.ensures.value
    (if_some_at c.in_ok-points.field-0 _ c.in-Some-2.points c.in-Some-2.is c.in_ok-points.ensures.all points p label h some way))
    (subst (λ (l : List Point). c.args.layer.bucket < length l) c.deref.ensures.value (c.are_few.ensures.no c.if-not-are_few.true)))

pub returns-in_default-2-clause-last : goal.returns-in_default-2-clause-last
returns-in_default-2-clause-last g c _ points p label h some way =
    way_last c.args.layer.level c.args.layer.bucket points p label some c.args.leaf.now.block c.args.leaf.now.points.items way (λ lt.
    ap (holds_few c.args.layer.bucket (finmap.remove points p)) (sym c.in-Some.ensures.value)
    ∙ c.in_ok-points.ensures.none c.in_default-2.is points p label h some way)

pub returns-clause-up : goal.returns-clause-up
returns-clause-up g c points p label h some way =
    subst (λ (b : Block). IsOnWay c.args.layer.level c.args.layer.bucket points p b c.in-Some-2.points.items) (sym c.in-Some.ensures.value)
    (way_up c.args.layer.level c.args.layer.bucket points p label some c.args.leaf.now.block c.args.leaf.now.points.items way
    (inner_from c.args.layer.level c.args.leaf.now.block c.requires.block (λ e. true_false (c.in-Some.ensures.whole.1 e))) c.in-Some-2.points.items
    (subst (λ (b : Block). AreIn (finmap.remove points p) b (point_entries c.in-Some-2.points.items)) c.in-Some.ensures.value
    (if_some_at c.in_ok-points.field-0 _ c.in-Some-2.points c.in-Some-2.is c.in_ok-points.ensures.all points p label h some way))
    (subst (λ (l : List Point). length l ≤ c.args.layer.bucket) c.deref.ensures.value (c.are_few.ensures.yes c.if-not-are_few.false)))

pub returns-clause-block : goal.returns-clause-block
returns-clause-block g c = subst (IsBlock c.args.layer.level) (sym c.in-Some.ensures.value)
    (IsBlock-parent_of c.args.layer.level c.args.leaf.now.block c.requires.block
    (inner_from c.args.layer.level c.args.leaf.now.block c.requires.block (λ e. true_false (c.in-Some.ensures.whole.1 e))))

pub returns-in_default-clause-reads : goal.returns-in_default-clause-reads
returns-in_default-clause-reads g c = reads_none (18 + 9 * c.args.layer.bucket) (g.S.PageStore.reads c.args.store.now)

pub returns-clause-twice : goal.returns-clause-twice
returns-clause-twice g c = ap (λ (b : Block). b.side) c.in-Some.ensures.value

pub returns-in_err-points-clause-top : goal.returns-in_err-points-clause-top
returns-in_err-points-clause-top g c e =
    let inner = inner_from c.args.layer.level c.args.leaf.now.block c.requires.block (λ e. true_false (c.in-Some.ensures.whole.1 e)) in
    absurd (omega arith)

pub returns-in_default-2-clause-top : goal.returns-in_default-2-clause-top
returns-in_default-2-clause-top g c e =
    let inner = inner_from c.args.layer.level c.args.leaf.now.block c.requires.block (λ e. true_false (c.in-Some.ensures.whole.1 e)) in
    absurd (omega arith)

pub returns-then-not-are_few-clause-top : goal.returns-then-not-are_few-clause-top
returns-then-not-are_few-clause-top g c e =
    let inner = inner_from c.args.layer.level c.args.leaf.now.block c.requires.block (λ e. true_false (c.in-Some.ensures.whole.1 e)) in
    absurd (omega arith)

pub returns-clause-top : goal.returns-clause-top
returns-clause-top g c e =
    let inner = inner_from c.args.layer.level c.args.leaf.now.block c.requires.block (λ e. true_false (c.in-Some.ensures.whole.1 e)) in
    absurd (omega arith)

pub returns-clause-pixels : goal.returns-clause-pixels
returns-clause-pixels g c = if_some_at c.in_ok-points.field-0 _ c.in-Some-2.points c.in-Some-2.is c.in_ok-points.ensures.pixels

pub returns-clause-wider : goal.returns-clause-wider
returns-clause-wider g c =
    let twice : c.in-Some.block.side ≡ 2 * c.args.leaf.now.block.side = ap (λ (b : Block). b.side) c.in-Some.ensures.value in
    let pos = side_pos c.args.layer.level c.args.leaf.now.block c.requires.block in
    omega arith

pub returns-in_err-points-clause-sound : goal.returns-in_err-points-clause-sound
returns-in_err-points-clause-sound g c = rw (handed_on c.from_residual.result c.from_residual.ensures.1) c.in_err-points.ensures.sound

pub returns-in_err-points-clause-zero : goal.returns-in_err-points-clause-zero
returns-in_err-points-clause-zero g c = rw (handed_on c.from_residual.result c.from_residual.ensures.1) c.in_err-points.ensures.zero

pub returns-in_err-points-clause-bad : goal.returns-in_err-points-clause-bad
returns-in_err-points-clause-bad g c = rw (handed_on c.from_residual.result c.from_residual.ensures.1) c.in_err-points.ensures.bad
