use Rattle.std.proofs.lemmas.Result.{err_from_is_err_and}
use Rattle.std.specs.FinMap as finmap
use Rattle.quilt_types.specs.Layers.{Points}
use Rattle.quilt_types.specs.declared.code.Code.TheVariants as no
use Rattle.quilt_map.specs.PointLayers.{points_del}
use Rattle.quilt_map.proofs.plans.Amends.{mid_at}
use Rattle.quilt_map.proofs.answers.Asked.{if_ok, if_err}
use Rattle.quilt_map.proofs.states.Going.{goes_of, goes_both}
use Rattle.quilt_map.proofs.plans.Planned.{unplanned, planned}
use Rattle.quilt_map.proofs.plans.PointPlans.{points_there, number_there, mid_point, mid_within}
use Rattle.quilt_map.proofs.layers.PointAnswers.{del_finds, del_absent, del_there}
use Rattle.quilt_map.proofs.states.Causes.{cause_then}
use Rattle.quilt_map.proofs.session.Session.del_from.Goals as goal

pub returns-in_err-plan_removal-clause-sound : goal.returns-in_err-plan_removal-clause-sound
returns-in_err-plan_removal-clause-sound g c =
    let p = err_from_is_err_and c.from_residual.result c.from_residual.ensures.1 in
    rw (p.1, p.2) (λ s at name points is.
    let old = c.args.self.now in
    c.in_err-plan_removal.ensures.sound points (number_there {D = g.W.Disk} old s at name c.args.layer points is)
    (points_there {D = g.W.Disk} old s at name c.args.layer points is))

pub returns-in-None-clause-del : goal.returns-in-None-clause-del
returns-in-None-clause-del g c = λ s at name points is.
    let old = c.args.self.now in
    let book = c.plan_removal.new.book in
    let finds = del_finds c.in_ok-plan_removal.field-0 (finmap.get points c.args.at)
    (c.in_ok-plan_removal.ensures.none points (points_there {D = g.W.Disk} old s at name c.args.layer points is)) in
    unplanned {D = g.W.Disk} old s at book c.plan_removal.ensures.still (g.met.W.Disk.is_consistent book.world)
    (points_del s name c.args.layer.bucket points c.args.at) no.Absent
    (del_absent s name c.args.layer.bucket points c.args.at (finds.0 c.in-None.is))

pub returns-in-None-clause-goes_on : goal.returns-in-None-clause-goes_on
returns-in-None-clause-goes_on g c = goes_of {D = g.W.Disk} c.args.self.now.book c.plan_removal.new.book c.plan_removal.ensures.still.later

pub returns-in-Some-clause-del : goal.returns-in-Some-clause-del
returns-in-Some-clause-del g c =
    if_ok _ _ c.amend.result (λ reply p s at name points is.
    let old = c.args.self.now in
    let book = c.plan_removal.new.book in
    let still = c.plan_removal.ensures.still in
    let law = g.met.W.Disk.is_consistent book.world in
    let found = c.in_ok-plan_removal in
    let some = c.in-Some in
    let finds =
    del_finds found.field-0 (finmap.get points c.args.at) (found.ensures.none points (points_there {D = g.W.Disk} old s at name c.args.layer points is)) in
    let label = finds.1 some.edits some.is in
    let within = mid_within {D = g.W.Disk} old s at book still law name c.args.layer points is c.args.at label.0 label.1 found.field-0 some.edits
    some.is found.ensures.order found.ensures.plan in
    planned {D = g.W.Disk} old s at book still law (points_del s name c.args.layer.bucket points c.args.at) name c.args.layer.number
    (Points c.args.layer.bucket (finmap.remove points c.args.at)) some.edits
    (mid_point {D = g.W.Disk} old s at book still law name c.args.layer points is (λ all. finmap.remove all c.args.at)
    found.field-0 some.edits some.is found.ensures.order found.ensures.plan)
    (del_there s name c.args.layer.bucket points c.args.at label.2 within) c.amend.new.self reply p) c.amend.ensures.amended

pub returns-in-Some-clause-sound : goal.returns-in-Some-clause-sound
returns-in-Some-clause-sound g c =
    if_err _ _ c.amend.result (λ e p s at name points is.
    let old = c.args.self.now in
    let book = c.plan_removal.new.book in
    let still = c.plan_removal.ensures.still in
    let law = g.met.W.Disk.is_consistent book.world in
    let found = c.in_ok-plan_removal in
    let some = c.in-Some in
    p s (mid_at {D = g.W.Disk} old s at book still law) name c.args.layer.number (Points c.args.layer.bucket (finmap.remove points c.args.at))
    (mid_point {D = g.W.Disk} old s at book still law name c.args.layer points is (λ all. finmap.remove all c.args.at)
    found.field-0 some.edits some.is found.ensures.order found.ensures.plan)) c.amend.ensures.sound

pub returns-in-Some-clause-goes_on : goal.returns-in-Some-clause-goes_on
returns-in-Some-clause-goes_on g c =
    goes_both {D = g.W.Disk} c.args.self.now.book c.plan_removal.new.book c.amend.new.self.book
    (goes_of {D = g.W.Disk} c.args.self.now.book c.plan_removal.new.book c.plan_removal.ensures.still.later) c.amend.ensures.goes_on

pub returns-in-Some-clause-cause : goal.returns-in-Some-clause-cause
returns-in-Some-clause-cause g c = cause_then c.plan_removal.ensures.cause c.amend.ensures.cause
