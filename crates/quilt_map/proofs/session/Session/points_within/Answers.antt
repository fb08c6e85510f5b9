use Rattle.std.proofs.Common.{refl, true, false, ◌∙◌, ap}
use Rattle.std.proofs.lemmas.Result.{err_from_is_err_and}
use Rattle.quilt_types.specs.Plane.{is_window}
use Rattle.quilt_types.specs.declared.code.Code.TheVariants as no
use Rattle.quilt_node.specs.declared.head.Head.{Head}
use Rattle.quilt_words.specs.declared.command.Command.TheVariants as commands
use Rattle.quilt_replies.specs.declared.reply.Reply.TheVariants as reply
use Rattle.quilt_map.specs.Asking.{reads_in}
use Rattle.quilt_map.proofs.questions.Costs.{within_cost}
use Rattle.quilt_map.proofs.answers.Answered.{level_is, test_at, catalog_as, keeps_here}
use Rattle.quilt_map.proofs.answers.Asked.{if_ok}
use Rattle.quilt_map.proofs.answers.Asks.{asked_here, told_on}
use Rattle.quilt_map.proofs.layers.PointAnswers.{within_refused, within_outside, within_body}
use Rattle.quilt_map.proofs.plans.PointPlans.{found_points}
use Rattle.quilt_map.proofs.session.Session.points_within.Goals as goal

pub returns-in-Err-clause-answer : goal.returns-in-Err-clause-answer
returns-in-Err-clause-answer g c = λ s at.
    let old = c.args.self.now in
    let name = c.args.name.now in
    asked_here {D = g.W.Disk} s (commands.Within name c.args.w) refl old at old.warm (reply.No c.in-Err.code)
    (within_refused s name c.args.w c.in-Err.code
    (c.in-Err.ensures.refused s at.work.numbers (catalog_as {D = g.W.Disk} old s at c.entries.result.now c.entries.ensures.entries)))

pub returns-in-Err-clause-keeps : goal.returns-in-Err-clause-keeps
returns-in-Err-clause-keeps g c = keeps_here {D = g.W.Disk} c.args.self.now c.args.self.now.warm

pub returns-then-not-has_window-clause-answer : goal.returns-then-not-has_window-clause-answer
returns-then-not-has_window-clause-answer g c = λ s at.
    let old = c.args.self.now in
    let name = c.args.name.now in
    let found = found_points {D = g.W.Disk} old s at name c.in-Ok.layer c.entries.result.now c.entries.ensures.entries c.in-Ok.ensures.found in
    asked_here {D = g.W.Disk} s (commands.Within name c.args.w) refl old at old.warm (reply.No no.Outside)
    (within_outside s name c.in-Ok.layer.bucket found.points found.is.got c.args.w
    (test_at (λ n. is_window n c.args.w) c.head.result.level s.last.level c.has_window.result false
    (ap (λ (h : Head). h.level) c.head.ensures.work ∙ level_is {D = g.W.Disk} old s at) c.has_window.ensures c.if-not-has_window.true))

pub returns-then-not-has_window-clause-keeps : goal.returns-then-not-has_window-clause-keeps
returns-then-not-has_window-clause-keeps g c = keeps_here {D = g.W.Disk} c.args.self.now c.args.self.now.warm

pub returns-in_err-list-in-Ok-clause-sound : goal.returns-in_err-list-in-Ok-clause-sound
returns-in_err-list-in-Ok-clause-sound g c =
    let p = err_from_is_err_and c.from_residual.result c.from_residual.ensures.1 in
    rw (p.1, p.2) (λ s at.
    let old = c.args.self.now in
    let name = c.args.name.now in
    let found = found_points {D = g.W.Disk} old s at name c.in-Ok.layer c.entries.result.now c.entries.ensures.entries c.in-Ok.ensures.found in
    c.in_err-list-in-Ok.ensures.sound found.points found.least found.holds)

pub returns-in_ok-list-in-Ok-clause-answer : goal.returns-in_ok-list-in-Ok-clause-answer
returns-in_ok-list-in-Ok-clause-answer g c =
    let old = c.args.self.now in
    let name = c.args.name.now in
    told_on {D = g.W.Disk} (commands.Within name c.args.w) refl old c.read_points.new.book old.warm
    c.points_text.result c.told.result c.read_points.ensures.still (g.met.W.Disk.is_consistent c.read_points.new.book.world) c.told.ensures.text (λ s at.
    let found = found_points {D = g.W.Disk} old s at name c.in-Ok.layer c.entries.result.now c.entries.ensures.entries c.in-Ok.ensures.found in
    let all = c.in_ok-list-in-Ok.ensures.points found.points found.holds in
    if_ok _ _ c.points_text.result
    (λ t h. within_body s name c.in-Ok.layer.bucket found.points found.is.got c.args.w
    (test_at (λ n. is_window n c.args.w) c.head.result.level s.last.level c.has_window.result true
    (ap (λ (h : Head). h.level) c.head.ensures.work ∙ level_is {D = g.W.Disk} old s at) c.has_window.ensures c.if-not-has_window.false)
    c.in_ok-list-in-Ok.list all t h) c.points_text.ensures)

pub returns-in_ok-list-in-Ok-clause-reads : goal.returns-in_ok-list-in-Ok-clause-reads
returns-in_ok-list-in-Ok-clause-reads g c =
    let old = c.args.self.now in
    let name = c.args.name.now in
    if_ok _ _ c.told.result (λ given h s at answered.
    let found = found_points {D = g.W.Disk} old s at name c.in-Ok.layer c.entries.result.now c.entries.ensures.entries c.in-Ok.ensures.found in
    within_cost s name old.book.work.level (reads_in {D = g.W.Disk} old.book) (reads_in {D = g.W.Disk} c.read_points.new.book)
    (level_is {D = g.W.Disk} old s at) c.in-Ok.layer.bucket found.points c.args.w found.is.got
    (c.in_ok-list-in-Ok.ensures.reads found.points found.holds)) c.told.ensures.text
