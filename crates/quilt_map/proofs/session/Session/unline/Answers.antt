use Rattle.std.proofs.Common.{refl}
use Rattle.quilt_words.specs.declared.command.Command.TheVariants as commands
use Rattle.quilt_replies.specs.Answers.{Refused}
use Rattle.quilt_map.proofs.answers.Answered.{catalog_as}
use Rattle.quilt_map.proofs.answers.Asked.{if_ok, if_err}
use Rattle.quilt_map.proofs.states.ChangeSteps.{goes_here}
use Rattle.quilt_map.proofs.layers.LineAnswers.{unline_refused, unline_answered}
use Rattle.quilt_map.proofs.plans.LinePlans.{found_lines}
use Rattle.quilt_map.proofs.answers.Outcomes.{answered_same}
use Rattle.quilt_map.proofs.session.Session.unline.Goals as goal

pub returns-in-Err-clause-answer : goal.returns-in-Err-clause-answer
returns-in-Err-clause-answer g c = λ s at.
    let old = c.args.self.now in
    let name = c.args.name.now in
    let first = c.in-Err.ensures.refused s at.work.numbers (catalog_as {D = g.W.Disk} old s at c.entries.result.now c.entries.ensures.entries) in
    answered_same {D = g.W.Disk} s (commands.Unline name c.args.id) old old (Refused c.in-Err.code) _
    (unline_refused s name c.args.id c.in-Err.code first) refl refl refl at at

pub returns-in-Err-clause-goes_on : goal.returns-in-Err-clause-goes_on
returns-in-Err-clause-goes_on g c = goes_here {D = g.W.Disk} c.args.self.now.book

pub returns-in-Ok-clause-answer : goal.returns-in-Ok-clause-answer
returns-in-Ok-clause-answer g c =
    if_ok _ _ c.take_segment.result (λ reply p s at.
    let old = c.args.self.now in
    let name = c.args.name.now in
    let layer = c.in-Ok.layer in
    let found = found_lines {D = g.W.Disk} old s at name layer c.entries.result.now c.entries.ensures.entries c.in-Ok.ensures.found in
    unline_answered s name layer.threshold found.segs found.cover found.is.got {D = g.W.Disk} old c.take_segment.new.self reply c.args.id
    (p s at name found.segs found.cover found.is)) c.take_segment.ensures.taken

pub returns-in-Ok-clause-sound : goal.returns-in-Ok-clause-sound
returns-in-Ok-clause-sound g c =
    if_err _ _ c.take_segment.result (λ e p s at.
    let name = c.args.name.now in
    let found = found_lines {D = g.W.Disk} c.args.self.now s at name c.in-Ok.layer c.entries.result.now c.entries.ensures.entries c.in-Ok.ensures.found in
    p s at name found.segs found.cover found.is) c.take_segment.ensures.sound
