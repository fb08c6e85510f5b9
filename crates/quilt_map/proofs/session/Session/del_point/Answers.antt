use Rattle.std.proofs.Common.{true, false, refl, ◌∙◌, ap}
use Rattle.quilt_types.specs.Plane.{is_pixel}
use Rattle.quilt_types.specs.declared.code.Code.TheVariants as no
use Rattle.quilt_node.specs.declared.head.Head.{Head}
use Rattle.quilt_words.specs.declared.command.Command.TheVariants as commands
use Rattle.quilt_replies.specs.Answers.{Refused}
use Rattle.quilt_map.proofs.answers.Answered.{level_is, test_at, catalog_as}
use Rattle.quilt_map.proofs.answers.Asked.{if_ok, if_err}
use Rattle.quilt_map.proofs.states.ChangeSteps.{goes_here}
use Rattle.quilt_map.proofs.answers.Outcomes.{answered_same}
use Rattle.quilt_map.proofs.layers.PointAnswers.{del_refused, del_outside, del_answered}
use Rattle.quilt_map.proofs.plans.PointPlans.{found_points}
use Rattle.quilt_map.proofs.session.Session.del_point.Goals as goal

pub returns-then-not-has_pixel-clause-answer : goal.returns-then-not-has_pixel-clause-answer
returns-then-not-has_pixel-clause-answer g c = λ s at.
    let old = c.args.self.now in
    let name = c.args.name.now in
    let found = found_points {D = g.W.Disk} old s at name c.in-Ok.layer c.entries.result.now c.entries.ensures.entries c.in-Ok.ensures.found in
    let out = test_at (λ n. is_pixel n c.args.at) c.head.result.level s.last.level c.has_pixel.result false
    (ap (λ (h : Head). h.level) c.head.ensures.work ∙ level_is {D = g.W.Disk} old s at) c.has_pixel.ensures c.if-not-has_pixel.true in
    answered_same {D = g.W.Disk} s (commands.Del name c.args.at) old old (Refused no.Outside) _
    (del_outside s name c.in-Ok.layer.bucket found.points found.is.got c.args.at out) refl refl refl at at

pub returns-then-not-has_pixel-clause-goes_on : goal.returns-then-not-has_pixel-clause-goes_on
returns-then-not-has_pixel-clause-goes_on g c = goes_here {D = g.W.Disk} c.args.self.now.book

pub returns-in-Err-clause-answer : goal.returns-in-Err-clause-answer
returns-in-Err-clause-answer g c = λ s at.
    let old = c.args.self.now in
    let name = c.args.name.now in
    let first = c.in-Err.ensures.refused s at.work.numbers (catalog_as {D = g.W.Disk} old s at c.entries.result.now c.entries.ensures.entries) in
    answered_same {D = g.W.Disk} s (commands.Del name c.args.at) old old (Refused c.in-Err.code) _
    (del_refused s name c.args.at c.in-Err.code first) refl refl refl at at

pub returns-in-Err-clause-goes_on : goal.returns-in-Err-clause-goes_on
returns-in-Err-clause-goes_on g c = goes_here {D = g.W.Disk} c.args.self.now.book

pub returns-else-not-has_pixel-clause-answer : goal.returns-else-not-has_pixel-clause-answer
returns-else-not-has_pixel-clause-answer g c =
    if_ok _ _ c.del_from.result (λ reply p s at.
    let old = c.args.self.now in
    let name = c.args.name.now in
    let found = found_points {D = g.W.Disk} old s at name c.in-Ok.layer c.entries.result.now c.entries.ensures.entries c.in-Ok.ensures.found in
    let inside = test_at (λ n. is_pixel n c.args.at) c.head.result.level s.last.level c.has_pixel.result true
    (ap (λ (h : Head). h.level) c.head.ensures.work ∙ level_is {D = g.W.Disk} old s at) c.has_pixel.ensures c.if-not-has_pixel.false in
    del_answered s name c.in-Ok.layer.bucket found.points found.is.got {D = g.W.Disk} old c.del_from.new.self c.args.at inside reply
    (p s at name found.points found.is)) c.del_from.ensures.del

pub returns-else-not-has_pixel-clause-sound : goal.returns-else-not-has_pixel-clause-sound
returns-else-not-has_pixel-clause-sound g c =
    if_err _ _ c.del_from.result (λ e p s at.
    let old = c.args.self.now in
    let found = found_points {D = g.W.Disk} old s at c.args.name.now c.in-Ok.layer c.entries.result.now c.entries.ensures.entries c.in-Ok.ensures.found in
    p s at c.args.name.now found.points found.is) c.del_from.ensures.sound
