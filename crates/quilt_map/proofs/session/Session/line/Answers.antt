use Rattle.std.proofs.Common.{true, false, refl, ◌∙◌, ap}
use Rattle.quilt_types.specs.declared.code.Code.TheVariants as no
use Rattle.quilt_types.specs.Layers.{is_in_square}
use Rattle.quilt_node.specs.declared.head.Head.{Head}
use Rattle.quilt_words.specs.declared.command.Command.TheVariants as commands
use Rattle.quilt_replies.specs.Answers.{Refused}
use Rattle.quilt_map.proofs.answers.Answered.{level_is, test_at, catalog_as}
use Rattle.quilt_map.proofs.answers.Asked.{if_ok, if_err}
use Rattle.quilt_map.proofs.states.ChangeSteps.{goes_here}
use Rattle.quilt_map.proofs.layers.LineAnswers.{line_refused, line_outside, line_answered}
use Rattle.quilt_map.proofs.plans.LinePlans.{found_lines}
use Rattle.quilt_map.proofs.answers.Outcomes.{answered_same}
use Rattle.quilt_map.proofs.session.Session.line.Goals as goal

pub returns-in-Err-clause-answer : goal.returns-in-Err-clause-answer
returns-in-Err-clause-answer g c = λ s at.
    let old = c.args.self.now in
    let name = c.args.name.now in
    let first = c.in-Err.ensures.refused s at.work.numbers (catalog_as {D = g.W.Disk} old s at c.entries.result.now c.entries.ensures.entries) in
    answered_same {D = g.W.Disk} s (commands.Line name c.args.id c.args.s) old old (Refused c.in-Err.code) _
    (line_refused s name c.args.id c.args.s c.in-Err.code first) refl refl refl at at

pub returns-in-Err-clause-goes_on : goal.returns-in-Err-clause-goes_on
returns-in-Err-clause-goes_on g c = goes_here {D = g.W.Disk} c.args.self.now.book

pub returns-then-not-has_segment-clause-answer : goal.returns-then-not-has_segment-clause-answer
returns-then-not-has_segment-clause-answer g c = λ s at.
    let old = c.args.self.now in
    let name = c.args.name.now in
    let layer = c.in-Ok.layer in
    let found = found_lines {D = g.W.Disk} old s at name layer c.entries.result.now c.entries.ensures.entries c.in-Ok.ensures.found in
    let out = test_at (λ n. is_in_square n c.args.s) c.head.result.level s.last.level c.has_segment.result false
    (ap (λ (h : Head). h.level) c.head.ensures.work ∙ level_is {D = g.W.Disk} old s at) c.has_segment.ensures c.if-not-has_segment.true in
    answered_same {D = g.W.Disk} s (commands.Line name c.args.id c.args.s) old old (Refused no.Outside) _
    (line_outside s name layer.threshold found.segs found.cover found.is.got c.args.id c.args.s out) refl refl refl at at

pub returns-then-not-has_segment-clause-goes_on : goal.returns-then-not-has_segment-clause-goes_on
returns-then-not-has_segment-clause-goes_on g c = goes_here {D = g.W.Disk} c.args.self.now.book

pub returns-else-not-has_segment-clause-answer : goal.returns-else-not-has_segment-clause-answer
returns-else-not-has_segment-clause-answer g c =
    if_ok _ _ c.put_segment.result (λ reply p s at.
    let old = c.args.self.now in
    let name = c.args.name.now in
    let layer = c.in-Ok.layer in
    let found = found_lines {D = g.W.Disk} old s at name layer c.entries.result.now c.entries.ensures.entries c.in-Ok.ensures.found in
    let inside = test_at (λ n. is_in_square n c.args.s) c.head.result.level s.last.level c.has_segment.result true
    (ap (λ (h : Head). h.level) c.head.ensures.work ∙ level_is {D = g.W.Disk} old s at) c.has_segment.ensures c.if-not-has_segment.false in
    line_answered s name layer.threshold found.segs found.cover found.is.got {D = g.W.Disk} old c.put_segment.new.self reply c.args.id c.args.s
    inside (p s at name found.segs found.cover found.is)) c.put_segment.ensures.put

pub returns-else-not-has_segment-clause-sound : goal.returns-else-not-has_segment-clause-sound
returns-else-not-has_segment-clause-sound g c =
    if_err _ _ c.put_segment.result (λ e p s at.
    let name = c.args.name.now in
    let found = found_lines {D = g.W.Disk} c.args.self.now s at name c.in-Ok.layer c.entries.result.now c.entries.ensures.entries c.in-Ok.ensures.found in
    p s at name found.segs found.cover found.is) c.put_segment.ensures.sound
