use Rattle.std.proofs.lemmas.Bool.{both_ways}
use Rattle.std.specs.Prelude.{◌↔◌, IsNone, IsSome}
use Rattle.std.specs.FinMap as finmap
use Rattle.quilt_types.specs.Layers.{SegMap, BlockSet}
use Rattle.quilt_types.specs.Quadtrees.{after_add}
use Rattle.quilt_node.specs.declared.head.Head.{Head}
use Rattle.quilt_store.specs.Stops.{IsNotDamage}
use Rattle.quilt_lines.specs.Plans.{IsLinePlan}
use Rattle.quilt_map.proofs.answers.Asked.{still_here, if_ok, if_err, if_some}
use Rattle.quilt_map.proofs.plans.LinePlans.{lines_said}
use Rattle.quilt_map.proofs.lines.plan_addition.Goals as goal

pub returns-then-not-can_be-clause-still : goal.returns-then-not-can_be-clause-still
returns-then-not-can_be-clause-still g c = still_here {D = g.W.Disk} c.args.book.now

pub returns-then-not-can_be-clause-sound : goal.returns-then-not-can_be-clause-sound
returns-then-not-can_be-clause-sound g c = λ segs cover least has. let valid = has.spelled.valid in
    absurd (both_ways c.can_be.result c.if-not-can_be.true (c.can_be.ensures.no least valid.least valid.most))

pub returns-clause-plan : goal.returns-clause-plan
returns-clause-plan g c =
    if_ok _ _ c.plan_add.result
    (λ o h. if_some _ _ o (λ edits p. lines_said {D = g.W.Disk} c.args.book.now c.args.layer c.head-head.result c.tree_of.result
    c.head-head.ensures.work c.tree_of.ensures
    (λ (x : Head) (segs : SegMap) (cover : BlockSet). IsLinePlan x.level c.args.layer.number c.args.layer.threshold segs
    (finmap.insert segs c.args.id c.args.s) cover (after_add c.args.layer.threshold (finmap.insert segs c.args.id c.args.s) cover c.args.s) edits) p)
    h) c.plan_add.ensures.plan

pub returns-clause-none : goal.returns-clause-none
returns-clause-none g c =
    if_ok _ _ c.plan_add.result
    (λ o h. lines_said {D = g.W.Disk} c.args.book.now c.args.layer c.head-head.result c.tree_of.result c.head-head.ensures.work c.tree_of.ensures
    (λ (x : Head) (segs : SegMap) (cover : BlockSet). IsNone o ↔ IsSome (finmap.get segs c.args.id)) h) c.plan_add.ensures.none

pub returns-clause-sound : goal.returns-clause-sound
returns-clause-sound g c =
    if_err _ _ c.plan_add.result (λ e h segs cover least has.
    lines_said {D = g.W.Disk} c.args.book.now c.args.layer c.head-head.result c.tree_of.result c.head-head.ensures.work c.tree_of.ensures
    (λ (x : Head) (all : SegMap) (blocks : BlockSet). IsNotDamage e) h segs cover has) c.plan_add.ensures.sound
