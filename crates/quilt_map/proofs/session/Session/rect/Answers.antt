use Rattle.std.proofs.Common.{true, false, refl, ◌∙◌, ap}
use Rattle.quilt_types.specs.Plane.{is_window}
use Rattle.quilt_types.specs.declared.code.Code.TheVariants as no
use Rattle.quilt_node.specs.declared.head.Head.{Head}
use Rattle.quilt_words.specs.declared.command.Command.TheVariants as commands
use Rattle.quilt_replies.specs.Answers.{Refused}
use Rattle.quilt_map.proofs.answers.Answered.{level_is, test_at, catalog_as}
use Rattle.quilt_map.proofs.answers.Asked.{if_ok, if_err}
use Rattle.quilt_map.proofs.states.ChangeSteps.{goes_here}
use Rattle.quilt_map.proofs.answers.Outcomes.{answered_same}
use Rattle.quilt_map.proofs.plans.PaintPlans.{region_in, rect_refused, rect_outside, rect_answered}
use Rattle.quilt_map.proofs.session.Session.rect.Goals as goal

pub returns-then-not-has_window-clause-answer : goal.returns-then-not-has_window-clause-answer
returns-then-not-has_window-clause-answer g c = λ s at low.
    let old = c.args.self.now in
    let name = c.args.name.now in
    let region = c.in-Ok.ensures.found s.work at.work.numbers (catalog_as {D = g.W.Disk} old s at c.entries.result.now c.entries.ensures.entries) in
    let out = test_at (λ n. is_window n c.args.w) c.head.result.level s.last.level c.has_window.result false
    (ap (λ (h : Head). h.level) c.head.ensures.work ∙ level_is {D = g.W.Disk} old s at) c.has_window.ensures c.if-not-has_window.true in
    answered_same {D = g.W.Disk} s (commands.Rect name c.args.w c.args.c) old old (Refused no.Outside) _
    (rect_outside s name c.args.w c.args.c region.grid region.got out) refl refl refl at at

pub returns-then-not-has_window-clause-goes_on : goal.returns-then-not-has_window-clause-goes_on
returns-then-not-has_window-clause-goes_on g c = goes_here {D = g.W.Disk} c.args.self.now.book

pub returns-in-Err-clause-answer : goal.returns-in-Err-clause-answer
returns-in-Err-clause-answer g c = λ s at low.
    let old = c.args.self.now in
    let name = c.args.name.now in
    let first = c.in-Err.ensures.refused s at.work.numbers (catalog_as {D = g.W.Disk} old s at c.entries.result.now c.entries.ensures.entries) in
    answered_same {D = g.W.Disk} s (commands.Rect name c.args.w c.args.c) old old (Refused c.in-Err.code) _
    (rect_refused s name c.args.w c.args.c c.in-Err.code first) refl refl refl at at

pub returns-in-Err-clause-goes_on : goal.returns-in-Err-clause-goes_on
returns-in-Err-clause-goes_on g c = goes_here {D = g.W.Disk} c.args.self.now.book

pub returns-else-not-has_window-clause-answer : goal.returns-else-not-has_window-clause-answer
returns-else-not-has_window-clause-answer g c =
    if_ok _ _ c.repaint.result (λ reply p s at low.
    let old = c.args.self.now in
    let name = c.args.name.now in
    let region =
    region_in s.work at.work.numbers c.entries.result.now old.catalog name c.in-Ok.number c.entries.ensures.entries at.work.catalog c.in-Ok.ensures.found in
    let inside = test_at (λ n. is_window n c.args.w) c.head.result.level s.last.level c.has_window.result true
    (ap (λ (h : Head). h.level) c.head.ensures.work ∙ level_is {D = g.W.Disk} old s at) c.has_window.ensures c.if-not-has_window.false in
    rect_answered {D = g.W.Disk} old c.repaint.new.self s name c.args.w c.args.c region.0 reply region.1.got inside
    (p s at name region.0 region.1 low)) c.repaint.ensures.painted

pub returns-else-not-has_window-clause-sound : goal.returns-else-not-has_window-clause-sound
returns-else-not-has_window-clause-sound g c =
    if_err _ _ c.repaint.result (λ e p s at low.
    let old = c.args.self.now in
    let region = region_in s.work at.work.numbers c.entries.result.now old.catalog c.args.name.now c.in-Ok.number c.entries.ensures.entries
    at.work.catalog c.in-Ok.ensures.found in
    p s at c.args.name.now region.0 region.1 low) c.repaint.ensures.sound
