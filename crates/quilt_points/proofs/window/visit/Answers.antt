use Rattle.std.proofs.Common.{List, ◌+◌, ◌*◌, ◌++◌, filter, refl, ◌∙◌, ap, arith}
use Rattle.std.specs.Option.{option_to_list}
use Rattle.std.proofs.lemmas.Option.{MatchOption-at_none, MatchOption-at_some}
use Rattle.quilt_types.specs.declared.plane.Point.{Point}
use Rattle.quilt_types.specs.Plane.{in_window}
use Rattle.quilt_world.proofs.ReadCounts.{reads_more}
use Rattle.quilt_points.proofs.Finds.{if_some_at}
use Rattle.quilt_points.proofs.Results.{only_reads_memory}
use Rattle.quilt_points.proofs.Windows.{found_held}
use Rattle.quilt_btree.proofs.Handed.{handed_on}
use Rattle.quilt_points.proofs.window.visit.Goals as goal

pub returns-in_default-clause-none : goal.returns-in_default-clause-none
returns-in_default-clause-none g c _ =
    (refl, λ points h. MatchOption-at_none _ _ c.in_default.is (c.in_ok-held.ensures.read points h))

pub returns-then-layer-eq1-clause-found : goal.returns-then-layer-eq1-clause-found
returns-then-layer-eq1-clause-found g c _ points h =
    let held = MatchOption-at_some _ _ c.in-Some.held c.in-Some.is (c.in_ok-held.ensures.read points h) in
    found_held c.args.layer.level c.args.layer.bucket points c.args.w c.args.b (option_to_list c.in-Some.held) c.args.found.now.items
    c.add_said.new.found.items held c.in_ok-add_said.ensures.found

pub returns-in_default-2-clause-none : goal.returns-in_default-2-clause-none
returns-in_default-2-clause-none g c _ = (
  refl,
  λ points h.
      MatchOption-at_none _ _ c.in_default-2.is (c.in_ok-points.ensures.read points h),
)

pub returns-clause-found : goal.returns-clause-found
returns-clause-found g c _ points h =
    let held = MatchOption-at_some _ _ c.in-Some-2.points c.in-Some-2.is (c.in_ok-points.ensures.read points h) in
    found_held c.args.layer.level c.args.layer.bucket points c.args.w c.args.b c.in-Some-2.points.items c.args.found.now.items c.add_inside.new.found.items held
    (c.in_ok-add_inside.ensures.found ∙ ap (λ (l : List Point). c.args.found.now.items ++ filter (λ (p : Point). in_window c.args.w p.at) l) c.deref.ensures.value)

pub returns-in_err-add_said-clause-left : goal.returns-in_err-add_said-clause-left
returns-in_err-add_said-clause-left g c =
    rw (handed_on c.from_residual-in_err-add_said.result c.from_residual-in_err-add_said.ensures.1)
    (only_reads_memory _ _ c.in_err-add_said.ensures.memory c.in_ok-held.ensures.left)

pub returns-in_err-add_inside-clause-left : goal.returns-in_err-add_inside-clause-left
returns-in_err-add_inside-clause-left g c =
    rw (handed_on c.from_residual-in_err-add_inside.result c.from_residual-in_err-add_inside.ensures.1)
    (only_reads_memory _ _ c.in_err-add_inside.ensures.memory c.in_ok-points.ensures.left)

pub returns-in_default-clause-reads : goal.returns-in_default-clause-reads
returns-in_default-clause-reads g c =
    reads_more 9 (6 + 3 * c.args.layer.bucket) _ _ (let one = c.if-layer-eq1.true in omega arith) c.in_ok-held.ensures.reads

pub returns-then-layer-eq1-clause-reads : goal.returns-then-layer-eq1-clause-reads
returns-then-layer-eq1-clause-reads g c =
    reads_more 9 (6 + 3 * c.args.layer.bucket) _ _ (let one = c.if-layer-eq1.true in omega arith) c.in_ok-held.ensures.reads

pub returns-then-layer-eq1-clause-covered : goal.returns-then-layer-eq1-clause-covered
returns-then-layer-eq1-clause-covered g c _ = if_some_at c.in_ok-held.field-0 _ c.in-Some.held c.in-Some.is c.in_ok-held.ensures.row

pub returns-clause-covered : goal.returns-clause-covered
returns-clause-covered g c _ = if_some_at c.in_ok-points.field-0 _ c.in-Some-2.points c.in-Some-2.is c.in_ok-points.ensures.row

pub returns-in_err-held-clause-sound : goal.returns-in_err-held-clause-sound
returns-in_err-held-clause-sound g c = rw (handed_on c.from_residual.result c.from_residual.ensures.1) c.in_err-held.ensures.sound

pub returns-in_err-held-clause-zero : goal.returns-in_err-held-clause-zero
returns-in_err-held-clause-zero g c = rw (handed_on c.from_residual.result c.from_residual.ensures.1) c.in_err-held.ensures.zero

pub returns-in_err-held-clause-bad : goal.returns-in_err-held-clause-bad
returns-in_err-held-clause-bad g c = rw (handed_on c.from_residual.result c.from_residual.ensures.1) c.in_err-held.ensures.bad

pub returns-in_err-points-clause-sound : goal.returns-in_err-points-clause-sound
returns-in_err-points-clause-sound g c = rw (handed_on c.from_residual-in_err-points.result c.from_residual-in_err-points.ensures.1) c.in_err-points.ensures.sound

pub returns-in_err-points-clause-zero : goal.returns-in_err-points-clause-zero
returns-in_err-points-clause-zero g c = rw (handed_on c.from_residual-in_err-points.result c.from_residual-in_err-points.ensures.1) c.in_err-points.ensures.zero

pub returns-in_err-points-clause-bad : goal.returns-in_err-points-clause-bad
returns-in_err-points-clause-bad g c = rw (handed_on c.from_residual-in_err-points.result c.from_residual-in_err-points.ensures.1) c.in_err-points.ensures.bad
