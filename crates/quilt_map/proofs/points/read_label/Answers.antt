use Rattle.std.proofs.lemmas.Bool.{both_ways}
use Rattle.quilt_map.specs.Sessions.{told_of}
use Rattle.quilt_map.proofs.answers.Asked.{still_here, if_err}
use Rattle.quilt_map.proofs.plans.PointPlans.{points_as}
use Rattle.quilt_map.proofs.points.read_label.Goals as goal

pub returns-then-not-can_be-clause-still : goal.returns-then-not-can_be-clause-still
returns-then-not-can_be-clause-still g c = still_here {D = g.W.Disk} c.args.book.now

pub returns-then-not-can_be-clause-sound : goal.returns-then-not-can_be-clause-sound
returns-then-not-can_be-clause-sound g c = λ points least has. let valid =
    has.spelled.valid in absurd (both_ways c.can_be.result c.if-not-can_be.true (c.can_be.ensures.no least valid.least valid.most))

pub returns-clause-sound : goal.returns-clause-sound
returns-clause-sound g c =
    if_err _ _ c.find.result (λ e h points least has.
    h points (points_as (told_of {D = g.W.Disk} c.args.book.now) c.args.layer.number c.args.layer.bucket points c.head-head.result
    c.args.book.now.work c.tree_of.result c.head-head.ensures.work c.tree_of.ensures has)) c.find.ensures.sound
