use Rattle.std.proofs.lemmas.Result.{err_from_is_err_and}
use Rattle.std.specs.FinMap as finmap
use Rattle.quilt_types.specs.Layers.{Points}
use Rattle.quilt_types.specs.declared.code.Code.TheVariants as no
use Rattle.quilt_map.specs.PointLayers.{points_put}
use Rattle.quilt_map.proofs.plans.Amends.{mid_at}
use Rattle.quilt_map.proofs.answers.Asked.{if_ok, if_err}
use Rattle.quilt_map.proofs.states.Going.{goes_of, goes_both}
use Rattle.quilt_map.proofs.plans.Planned.{unplanned, planned}
use Rattle.quilt_map.proofs.plans.PointPlans.{points_there, number_there, mid_point}
use Rattle.quilt_map.proofs.layers.PointAnswers.{put_finds, put_present, put_new}
use Rattle.quilt_map.proofs.states.Causes.{cause_then}
use Rattle.quilt_map.proofs.session.Session.put_into.Goals as goal

pub returns-in_err-plan_point-clause-sound : goal.returns-in_err-plan_point-clause-sound
returns-in_err-plan_point-clause-sound g c =
    let p = err_from_is_err_and c.from_residual.result c.from_residual.ensures.1 in
    rw (p.1, p.2) (λ s at name points is.
    let old = c.args.self.now in
    c.in_err-plan_point.ensures.sound points (number_there {D = g.W.Disk} old s at name c.args.layer points is)
    (points_there {D = g.W.Disk} old s at name c.args.layer points is))

pub returns-in-None-clause-put : goal.returns-in-None-clause-put
returns-in-None-clause-put g c = λ s at name points is.
    let old = c.args.self.now in
    let book = c.plan_point.new.book in
    let finds = put_finds c.in_ok-plan_point.field-0 (finmap.get points c.args.at)
    (c.in_ok-plan_point.ensures.none points (points_there {D = g.W.Disk} old s at name c.args.layer points is)) in
    unplanned {D = g.W.Disk} old s at book c.plan_point.ensures.still (g.met.W.Disk.is_consistent book.world)
    (points_put s name c.args.layer.bucket points c.args.at c.args.label) no.Present
    (put_present s name c.args.layer.bucket points c.args.at c.args.label (finds.0 c.in-None.is))

pub returns-in-None-clause-goes_on : goal.returns-in-None-clause-goes_on
returns-in-None-clause-goes_on g c = goes_of {D = g.W.Disk} c.args.self.now.book c.plan_point.new.book c.plan_point.ensures.still.later

pub returns-in-Some-clause-put : goal.returns-in-Some-clause-put
returns-in-Some-clause-put g c =
    if_ok _ _ c.amend.result (λ reply p s at name points is.
    let old = c.args.self.now in
    let book = c.plan_point.new.book in
    let still = c.plan_point.ensures.still in
    let law = g.met.W.Disk.is_consistent book.world in
    let found = c.in_ok-plan_point in
    let some = c.in-Some in
    let finds =
    put_finds found.field-0 (finmap.get points c.args.at) (found.ensures.none points (points_there {D = g.W.Disk} old s at name c.args.layer points is)) in
    planned {D = g.W.Disk} old s at book still law (points_put s name c.args.layer.bucket points c.args.at c.args.label) name c.args.layer.number
    (Points c.args.layer.bucket (finmap.insert points c.args.at c.args.label)) some.edits
    (mid_point {D = g.W.Disk} old s at book still law name c.args.layer points is (λ all. finmap.insert all c.args.at c.args.label)
    found.field-0 some.edits some.is found.ensures.order found.ensures.plan)
    (put_new s name c.args.layer.bucket points c.args.at c.args.label (finds.1 some.edits some.is)) c.amend.new.self reply p) c.amend.ensures.amended

pub returns-in-Some-clause-sound : goal.returns-in-Some-clause-sound
returns-in-Some-clause-sound g c =
    if_err _ _ c.amend.result (λ e p s at name points is.
    let old = c.args.self.now in
    let book = c.plan_point.new.book in
    let still = c.plan_point.ensures.still in
    let law = g.met.W.Disk.is_consistent book.world in
    let found = c.in_ok-plan_point in
    let some = c.in-Some in
    p s (mid_at {D = g.W.Disk} old s at book still law) name c.args.layer.number (Points c.args.layer.bucket (finmap.insert points c.args.at c.args.label))
    (mid_point {D = g.W.Disk} old s at book still law name c.args.layer points is (λ all. finmap.insert all c.args.at c.args.label)
    found.field-0 some.edits some.is found.ensures.order found.ensures.plan)) c.amend.ensures.sound

pub returns-in-Some-clause-goes_on : goal.returns-in-Some-clause-goes_on
returns-in-Some-clause-goes_on g c =
    goes_both {D = g.W.Disk} c.args.self.now.book c.plan_point.new.book c.amend.new.self.book
    (goes_of {D = g.W.Disk} c.args.self.now.book c.plan_point.new.book c.plan_point.ensures.still.later) c.amend.ensures.goes_on

pub returns-in-Some-clause-cause : goal.returns-in-Some-clause-cause
returns-in-Some-clause-cause g c = cause_then c.plan_point.ensures.cause c.amend.ensures.cause
