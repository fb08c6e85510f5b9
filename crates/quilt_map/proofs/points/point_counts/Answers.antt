use Rattle.std.proofs.lemmas.Bool.{both_ways}
use Rattle.quilt_map.specs.Sessions.{told_of}
use Rattle.std.proofs.Common.{ap}
use Rattle.quilt_node.specs.declared.head.Head.{Head}
use Rattle.quilt_types.specs.Layers.{Points}
use Rattle.quilt_map.specs.Costs.{layer_block_pages}
use Rattle.quilt_map.proofs.answers.Asked.{if_ok}
use Rattle.quilt_map.proofs.questions.Costs.{costs_as}
use Rattle.quilt_map.proofs.answers.Asked.{still_here, if_err}
use Rattle.quilt_map.proofs.plans.PointPlans.{points_as}
use Rattle.quilt_map.proofs.points.point_counts.Goals as goal

pub returns-then-not-can_be-clause-still : goal.returns-then-not-can_be-clause-still
returns-then-not-can_be-clause-still g c = still_here {D = g.W.Disk} c.args.book.now

pub returns-then-not-can_be-clause-sound : goal.returns-then-not-can_be-clause-sound
returns-then-not-can_be-clause-sound g c = λ points least has. let valid =
    has.spelled.valid in absurd (both_ways c.can_be.result c.if-not-can_be.true (c.can_be.ensures.no least valid.least valid.most))

pub returns-clause-sound : goal.returns-clause-sound
returns-clause-sound g c =
    if_err _ _ c.block_counts.result (λ e h points least has.
    h points (points_as (told_of {D = g.W.Disk} c.args.book.now) c.args.layer.number c.args.layer.bucket points c.head-head.result
    c.args.book.now.work c.tree_of.result c.head-head.ensures.work c.tree_of.ensures has)) c.block_counts.ensures.sound

pub returns-clause-reads : goal.returns-clause-reads
returns-clause-reads g c =
    if_ok _ _ c.block_counts.result (λ counts h points has.
    costs_as _ _ _ _ (ap (λ (k : Head). layer_block_pages k.level (Points c.args.layer.bucket points)) c.head-head.ensures.work)
    (h points (points_as (told_of {D = g.W.Disk} c.args.book.now) c.args.layer.number c.args.layer.bucket points c.head-head.result
    c.args.book.now.work c.tree_of.result c.head-head.ensures.work c.tree_of.ensures has))) c.block_counts.ensures.reads
