use Rattle.std.proofs.lemmas.Result.{err_from_is_err_and}
use Rattle.std.specs.FinMap as finmap
use Rattle.quilt_types.specs.declared.code.Code.TheVariants as no
use Rattle.quilt_map.specs.LineLayers.{with_segment, segment_put}
use Rattle.quilt_map.proofs.plans.Amends.{mid_at}
use Rattle.quilt_map.proofs.answers.Asked.{if_ok, if_err}
use Rattle.quilt_map.proofs.states.Going.{goes_of, goes_both}
use Rattle.quilt_map.proofs.layers.LineAnswers.{segment_present, segment_new}
use Rattle.quilt_map.proofs.plans.LinePlans.{lines_there, put_amendment}
use Rattle.quilt_map.proofs.plans.Planned.{unplanned, planned}
use Rattle.quilt_map.proofs.layers.PointAnswers.{put_finds}
use Rattle.quilt_map.proofs.states.Causes.{cause_then}
use Rattle.quilt_map.proofs.session.Session.put_segment.Goals as goal

pub returns-in_err-plan_addition-clause-sound : goal.returns-in_err-plan_addition-clause-sound
returns-in_err-plan_addition-clause-sound g c =
    let p = err_from_is_err_and c.from_residual.result c.from_residual.ensures.1 in
    rw (p.1, p.2) (λ s at name segs cover is.
    let there = lines_there {D = g.W.Disk} c.args.self.now s at name c.args.layer segs cover is in
    c.in_err-plan_addition.ensures.sound segs cover there.least there.holds)

pub returns-in-None-clause-put : goal.returns-in-None-clause-put
returns-in-None-clause-put g c = λ s at name segs cover is.
    let old = c.args.self.now in
    let book = c.plan_addition.new.book in
    let threshold = c.args.layer.threshold in
    let there = lines_there {D = g.W.Disk} old s at name c.args.layer segs cover is in
    let finds = put_finds c.in_ok-plan_addition.field-0 (finmap.get segs c.args.id) (c.in_ok-plan_addition.ensures.none segs cover there.holds) in
    unplanned {D = g.W.Disk} old s at book c.plan_addition.ensures.still (g.met.W.Disk.is_consistent book.world)
    (segment_put s name threshold segs cover c.args.id c.args.s) no.Present
    (segment_present s name threshold segs cover c.args.id c.args.s (finds.0 c.in-None.is))

pub returns-in-None-clause-goes_on : goal.returns-in-None-clause-goes_on
returns-in-None-clause-goes_on g c = goes_of {D = g.W.Disk} c.args.self.now.book c.plan_addition.new.book c.plan_addition.ensures.still.later

pub returns-in-Some-clause-put : goal.returns-in-Some-clause-put
returns-in-Some-clause-put g c =
    if_ok _ _ c.amend.result (λ reply p s at name segs cover is.
    let old = c.args.self.now in
    let book = c.plan_addition.new.book in
    let still = c.plan_addition.ensures.still in
    let law = g.met.W.Disk.is_consistent book.world in
    let threshold = c.args.layer.threshold in
    let found = c.in_ok-plan_addition in
    let some = c.in-Some in
    let there = lines_there {D = g.W.Disk} old s at name c.args.layer segs cover is in
    let finds = put_finds found.field-0 (finmap.get segs c.args.id) (found.ensures.none segs cover there.holds) in
    planned {D = g.W.Disk} old s at book still law (segment_put s name threshold segs cover c.args.id c.args.s) name c.args.layer.number
    (with_segment threshold segs cover c.args.id c.args.s) some.edits
    (put_amendment {D = g.W.Disk} old s at book still law name c.args.layer segs cover is c.args.id found.field-0 some.edits some.is
    found.ensures.order c.args.s found.ensures.plan)
    (segment_new s name threshold segs cover c.args.id c.args.s (finds.1 some.edits some.is)) c.amend.new.self reply p) c.amend.ensures.amended

pub returns-in-Some-clause-sound : goal.returns-in-Some-clause-sound
returns-in-Some-clause-sound g c =
    if_err _ _ c.amend.result (λ e p s at name segs cover is.
    let old = c.args.self.now in
    let book = c.plan_addition.new.book in
    let still = c.plan_addition.ensures.still in
    let law = g.met.W.Disk.is_consistent book.world in
    let found = c.in_ok-plan_addition in
    let some = c.in-Some in
    p s (mid_at {D = g.W.Disk} old s at book still law) name c.args.layer.number (with_segment c.args.layer.threshold segs cover c.args.id c.args.s)
    (put_amendment {D = g.W.Disk} old s at book still law name c.args.layer segs cover is c.args.id found.field-0 some.edits some.is
    found.ensures.order c.args.s found.ensures.plan)) c.amend.ensures.sound

pub returns-in-Some-clause-goes_on : goal.returns-in-Some-clause-goes_on
returns-in-Some-clause-goes_on g c =
    goes_both {D = g.W.Disk} c.args.self.now.book c.plan_addition.new.book c.amend.new.self.book
    (goes_of {D = g.W.Disk} c.args.self.now.book c.plan_addition.new.book c.plan_addition.ensures.still.later) c.amend.ensures.goes_on

pub returns-in-Some-clause-cause : goal.returns-in-Some-clause-cause
returns-in-Some-clause-cause g c = cause_then c.plan_addition.ensures.cause c.amend.ensures.cause
