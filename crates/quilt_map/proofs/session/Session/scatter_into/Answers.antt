use Rattle.std.proofs.lemmas.Result.{err_from_is_err_and}
use Rattle.quilt_types.specs.Layers.{Points}
use Rattle.quilt_types.specs.declared.code.Code.TheVariants as no
use Rattle.quilt_replies.specs.Answers.{with_points}
use Rattle.quilt_map.specs.PointLayers.{points_scattered}
use Rattle.quilt_map.proofs.plans.Amends.{mid_at}
use Rattle.quilt_map.proofs.answers.Asked.{if_ok, if_err}
use Rattle.quilt_map.proofs.states.Going.{goes_of, goes_both}
use Rattle.quilt_map.proofs.plans.Planned.{unplanned, planned}
use Rattle.quilt_map.proofs.plans.PointPlans.{points_there, number_there, mid_point}
use Rattle.quilt_map.proofs.layers.Scatters.{scatter_finds, scatter_present, scatter_new}
use Rattle.quilt_map.proofs.states.Causes.{cause_then}
use Rattle.quilt_map.proofs.session.Session.scatter_into.Goals as goal

pub returns-in_err-plan_points-clause-sound : goal.returns-in_err-plan_points-clause-sound
returns-in_err-plan_points-clause-sound g c =
    let p = err_from_is_err_and c.from_residual.result c.from_residual.ensures.1 in
    rw (p.1, p.2) (λ s at name points is.
    let old = c.args.self.now in
    c.in_err-plan_points.ensures.sound points (number_there {D = g.W.Disk} old s at name c.args.layer points is)
    (points_there {D = g.W.Disk} old s at name c.args.layer points is))

pub returns-in-None-clause-scattered : goal.returns-in-None-clause-scattered
returns-in-None-clause-scattered g c = λ s at name points is.
    let old = c.args.self.now in
    let book = c.plan_points.new.book in
    let finds = scatter_finds c.in_ok-plan_points.field-0 points c.args.points.now
    (c.in_ok-plan_points.ensures.none points (points_there {D = g.W.Disk} old s at name c.args.layer points is)) in
    unplanned {D = g.W.Disk} old s at book c.plan_points.ensures.still (g.met.W.Disk.is_consistent book.world)
    (points_scattered s name c.args.layer.bucket points c.args.points.now) no.Present
    (scatter_present s name c.args.layer.bucket points is.got c.args.points.now (finds.0 c.in-None.is))

pub returns-in-None-clause-goes_on : goal.returns-in-None-clause-goes_on
returns-in-None-clause-goes_on g c = goes_of {D = g.W.Disk} c.args.self.now.book c.plan_points.new.book c.plan_points.ensures.still.later

pub returns-in-Some-clause-scattered : goal.returns-in-Some-clause-scattered
returns-in-Some-clause-scattered g c =
    if_ok _ _ c.amend.result (λ reply p s at name points is.
    let old = c.args.self.now in
    let book = c.plan_points.new.book in
    let still = c.plan_points.ensures.still in
    let law = g.met.W.Disk.is_consistent book.world in
    let found = c.in_ok-plan_points in
    let some = c.in-Some in
    let finds =
    scatter_finds found.field-0 points c.args.points.now (found.ensures.none points (points_there {D = g.W.Disk} old s at name c.args.layer points is)) in
    planned {D = g.W.Disk} old s at book still law (points_scattered s name c.args.layer.bucket points c.args.points.now) name c.args.layer.number
    (Points c.args.layer.bucket (with_points points c.args.points.now)) some.edits
    (mid_point {D = g.W.Disk} old s at book still law name c.args.layer points is (λ all. with_points all c.args.points.now)
    found.field-0 some.edits some.is found.ensures.order found.ensures.plan)
    (scatter_new s name c.args.layer.bucket points is.got c.args.points.now (finds.1 some.edits some.is)) c.amend.new.self reply p)
    c.amend.ensures.amended

pub returns-in-Some-clause-sound : goal.returns-in-Some-clause-sound
returns-in-Some-clause-sound g c =
    if_err _ _ c.amend.result (λ e p s at name points is.
    let old = c.args.self.now in
    let book = c.plan_points.new.book in
    let still = c.plan_points.ensures.still in
    let law = g.met.W.Disk.is_consistent book.world in
    let found = c.in_ok-plan_points in
    let some = c.in-Some in
    p s (mid_at {D = g.W.Disk} old s at book still law) name c.args.layer.number (Points c.args.layer.bucket (with_points points c.args.points.now))
    (mid_point {D = g.W.Disk} old s at book still law name c.args.layer points is (λ all. with_points all c.args.points.now)
    found.field-0 some.edits some.is found.ensures.order found.ensures.plan)) c.amend.ensures.sound

pub returns-in-Some-clause-goes_on : goal.returns-in-Some-clause-goes_on
returns-in-Some-clause-goes_on g c =
    goes_both {D = g.W.Disk} c.args.self.now.book c.plan_points.new.book c.amend.new.self.book
    (goes_of {D = g.W.Disk} c.args.self.now.book c.plan_points.new.book c.plan_points.ensures.still.later) c.amend.ensures.goes_on

pub returns-in-Some-clause-cause : goal.returns-in-Some-clause-cause
returns-in-Some-clause-cause g c = cause_then c.plan_points.ensures.cause c.amend.ensures.cause
