use Rattle.std.proofs.lemmas.Result.{err_from_is_err_and}
use Rattle.std.specs.FinMap as finmap
use Rattle.quilt_types.specs.declared.code.Code.TheVariants as no
use Rattle.quilt_map.specs.LineLayers.{without_segment, segment_taken}
use Rattle.quilt_map.proofs.plans.Amends.{mid_at}
use Rattle.quilt_map.proofs.answers.Asked.{if_ok, if_err}
use Rattle.quilt_map.proofs.states.Going.{goes_of, goes_both}
use Rattle.quilt_map.proofs.layers.LineAnswers.{segment_absent, segment_there}
use Rattle.quilt_map.proofs.plans.LinePlans.{lines_there, taken_amendment, taken_within}
use Rattle.quilt_map.proofs.plans.Planned.{unplanned, planned}
use Rattle.quilt_map.proofs.layers.PointAnswers.{del_finds}
use Rattle.quilt_map.proofs.states.Causes.{cause_then}
use Rattle.quilt_map.proofs.session.Session.take_segment.Goals as goal

pub returns-in_err-plan_removal-clause-sound : goal.returns-in_err-plan_removal-clause-sound
returns-in_err-plan_removal-clause-sound g c =
    let p = err_from_is_err_and c.from_residual.result c.from_residual.ensures.1 in
    rw (p.1, p.2) (λ s at name segs cover is.
    let there = lines_there {D = g.W.Disk} c.args.self.now s at name c.args.layer segs cover is in
    c.in_err-plan_removal.ensures.sound segs cover there.least there.holds)

pub returns-in-None-clause-taken : goal.returns-in-None-clause-taken
returns-in-None-clause-taken g c = λ s at name segs cover is.
    let old = c.args.self.now in
    let book = c.plan_removal.new.book in
    let threshold = c.args.layer.threshold in
    let there = lines_there {D = g.W.Disk} old s at name c.args.layer segs cover is in
    let finds = del_finds c.in_ok-plan_removal.field-0 (finmap.get segs c.args.id) (c.in_ok-plan_removal.ensures.none segs cover there.holds) in
    unplanned {D = g.W.Disk} old s at book c.plan_removal.ensures.still (g.met.W.Disk.is_consistent book.world)
    (segment_taken s name threshold segs cover c.args.id) no.Absent
    (segment_absent s name threshold segs cover c.args.id (finds.0 c.in-None.is))

pub returns-in-None-clause-goes_on : goal.returns-in-None-clause-goes_on
returns-in-None-clause-goes_on g c = goes_of {D = g.W.Disk} c.args.self.now.book c.plan_removal.new.book c.plan_removal.ensures.still.later

pub returns-in-Some-clause-taken : goal.returns-in-Some-clause-taken
returns-in-Some-clause-taken g c =
    if_ok _ _ c.amend.result (λ reply p s at name segs cover is.
    let old = c.args.self.now in
    let book = c.plan_removal.new.book in
    let still = c.plan_removal.ensures.still in
    let law = g.met.W.Disk.is_consistent book.world in
    let threshold = c.args.layer.threshold in
    let found = c.in_ok-plan_removal in
    let some = c.in-Some in
    let there = lines_there {D = g.W.Disk} old s at name c.args.layer segs cover is in
    let seg = (del_finds found.field-0 (finmap.get segs c.args.id) (found.ensures.none segs cover there.holds)).1 some.edits some.is in
    planned {D = g.W.Disk} old s at book still law (segment_taken s name threshold segs cover c.args.id) name c.args.layer.number
    (without_segment s.last.level threshold segs cover c.args.id seg.0) some.edits
    (taken_amendment {D = g.W.Disk} old s at book still law name c.args.layer segs cover is c.args.id found.field-0 some.edits some.is
    found.ensures.order seg.0 seg.1 found.ensures.plan)
    (segment_there s name threshold segs cover c.args.id seg.0 seg.1
    (taken_within {D = g.W.Disk} old s at book still law name c.args.layer segs cover is c.args.id found.field-0 some.edits some.is
    found.ensures.order seg.0 seg.1 found.ensures.plan found.ensures.fewer))
    c.amend.new.self reply p) c.amend.ensures.amended

pub returns-in-Some-clause-sound : goal.returns-in-Some-clause-sound
returns-in-Some-clause-sound g c =
    if_err _ _ c.amend.result (λ e p s at name segs cover is.
    let old = c.args.self.now in
    let book = c.plan_removal.new.book in
    let still = c.plan_removal.ensures.still in
    let law = g.met.W.Disk.is_consistent book.world in
    let found = c.in_ok-plan_removal in
    let some = c.in-Some in
    let there = lines_there {D = g.W.Disk} old s at name c.args.layer segs cover is in
    let seg = (del_finds found.field-0 (finmap.get segs c.args.id) (found.ensures.none segs cover there.holds)).1 some.edits some.is in
    p s (mid_at {D = g.W.Disk} old s at book still law) name c.args.layer.number
    (without_segment s.last.level c.args.layer.threshold segs cover c.args.id seg.0)
    (taken_amendment {D = g.W.Disk} old s at book still law name c.args.layer segs cover is c.args.id found.field-0 some.edits some.is
    found.ensures.order seg.0 seg.1 found.ensures.plan)) c.amend.ensures.sound

pub returns-in-Some-clause-goes_on : goal.returns-in-Some-clause-goes_on
returns-in-Some-clause-goes_on g c =
    goes_both {D = g.W.Disk} c.args.self.now.book c.plan_removal.new.book c.amend.new.self.book
    (goes_of {D = g.W.Disk} c.args.self.now.book c.plan_removal.new.book c.plan_removal.ensures.still.later) c.amend.ensures.goes_on

pub returns-in-Some-clause-cause : goal.returns-in-Some-clause-cause
returns-in-Some-clause-cause g c = cause_then c.plan_removal.ensures.cause c.amend.ensures.cause
