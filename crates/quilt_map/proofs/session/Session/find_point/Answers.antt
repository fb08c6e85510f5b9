use Rattle.std.proofs.Common.{refl, true, false, sym, ◌∙◌, ap}
use Rattle.std.proofs.lemmas.Result.{err_from_is_err_and}
use Rattle.quilt_types.specs.Plane.{is_pixel}
use Rattle.quilt_types.specs.declared.code.Code.TheVariants as no
use Rattle.quilt_node.specs.declared.head.Head.{Head}
use Rattle.quilt_words.specs.declared.command.Command.TheVariants as commands
use Rattle.quilt_replies.specs.declared.reply.Reply.TheVariants as reply
use Rattle.quilt_map.proofs.answers.Answered.{level_is, test_at, catalog_as, keeps_here}
use Rattle.quilt_map.proofs.answers.Asked.{if_ok}
use Rattle.quilt_map.proofs.answers.Asks.{asked_here, asked_on, told_on}
use Rattle.quilt_map.proofs.layers.PointAnswers.{find_refused, find_outside, find_absent, find_body}
use Rattle.quilt_map.proofs.plans.PointPlans.{found_points}
use Rattle.quilt_map.proofs.session.Session.find_point.Goals as goal

pub returns-in-Err-clause-answer : goal.returns-in-Err-clause-answer
returns-in-Err-clause-answer g c = λ s at.
    let old = c.args.self.now in
    let name = c.args.name.now in
    asked_here {D = g.W.Disk} s (commands.Find name c.args.at) refl old at old.warm (reply.No c.in-Err.code)
    (find_refused s name c.args.at c.in-Err.code
    (c.in-Err.ensures.refused s at.work.numbers (catalog_as {D = g.W.Disk} old s at c.entries.result.now c.entries.ensures.entries)))

pub returns-in-Err-clause-keeps : goal.returns-in-Err-clause-keeps
returns-in-Err-clause-keeps g c = keeps_here {D = g.W.Disk} c.args.self.now c.args.self.now.warm

pub returns-then-not-has_pixel-clause-answer : goal.returns-then-not-has_pixel-clause-answer
returns-then-not-has_pixel-clause-answer g c = λ s at.
    let old = c.args.self.now in
    let name = c.args.name.now in
    let found = found_points {D = g.W.Disk} old s at name c.in-Ok.layer c.entries.result.now c.entries.ensures.entries c.in-Ok.ensures.found in
    asked_here {D = g.W.Disk} s (commands.Find name c.args.at) refl old at old.warm (reply.No no.Outside)
    (find_outside s name c.in-Ok.layer.bucket found.points found.is.got c.args.at
    (test_at (λ n. is_pixel n c.args.at) c.head.result.level s.last.level c.has_pixel.result false
    (ap (λ (h : Head). h.level) c.head.ensures.work ∙ level_is {D = g.W.Disk} old s at) c.has_pixel.ensures c.if-not-has_pixel.true))

pub returns-then-not-has_pixel-clause-keeps : goal.returns-then-not-has_pixel-clause-keeps
returns-then-not-has_pixel-clause-keeps g c = keeps_here {D = g.W.Disk} c.args.self.now c.args.self.now.warm

pub returns-in_err-read_label-in-Ok-clause-sound : goal.returns-in_err-read_label-in-Ok-clause-sound
returns-in_err-read_label-in-Ok-clause-sound g c =
    let p = err_from_is_err_and c.from_residual.result c.from_residual.ensures.1 in
    rw (p.1, p.2) (λ s at.
    let old = c.args.self.now in
    let name = c.args.name.now in
    let found = found_points {D = g.W.Disk} old s at name c.in-Ok.layer c.entries.result.now c.entries.ensures.entries c.in-Ok.ensures.found in
    c.in_err-read_label-in-Ok.ensures.sound found.points found.least found.holds)

pub returns-in-None-clause-answer : goal.returns-in-None-clause-answer
returns-in-None-clause-answer g c = λ s at.
    let old = c.args.self.now in
    let name = c.args.name.now in
    let found = found_points {D = g.W.Disk} old s at name c.in-Ok.layer c.entries.result.now c.entries.ensures.entries c.in-Ok.ensures.found in
    let none = sym (c.in_ok-read_label-in-Ok.ensures.label found.points found.holds) ∙ c.in-None.is in
    asked_on {D = g.W.Disk} s (commands.Find name c.args.at) refl old at c.read_label.new.book old.warm
    (reply.No no.Absent) c.read_label.ensures.still (g.met.W.Disk.is_consistent c.read_label.new.book.world)
    (find_absent s name c.in-Ok.layer.bucket found.points found.is.got c.args.at
    (test_at (λ n. is_pixel n c.args.at) c.head.result.level s.last.level c.has_pixel.result true
    (ap (λ (h : Head). h.level) c.head.ensures.work ∙ level_is {D = g.W.Disk} old s at) c.has_pixel.ensures c.if-not-has_pixel.false) none)

pub returns-in-Some-clause-answer : goal.returns-in-Some-clause-answer
returns-in-Some-clause-answer g c =
    let old = c.args.self.now in
    let name = c.args.name.now in
    told_on {D = g.W.Disk} (commands.Find name c.args.at) refl old c.read_label.new.book old.warm c.number_text.result
    c.told.result c.read_label.ensures.still (g.met.W.Disk.is_consistent c.read_label.new.book.world) c.told.ensures.text (λ s at.
    let found = found_points {D = g.W.Disk} old s at name c.in-Ok.layer c.entries.result.now c.entries.ensures.entries c.in-Ok.ensures.found in
    let some = sym (c.in_ok-read_label-in-Ok.ensures.label found.points found.holds) ∙ c.in-Some.is in
    if_ok _ _ c.number_text.result
    (λ t h. find_body s name c.in-Ok.layer.bucket found.points found.is.got c.args.at
    (test_at (λ n. is_pixel n c.args.at) c.head.result.level s.last.level c.has_pixel.result true (ap (λ (h : Head). h.level) c.head.ensures.work
    ∙ level_is {D = g.W.Disk} old s at) c.has_pixel.ensures c.if-not-has_pixel.false) c.in-Some.label some c.from.result c.from.ensures t h)
    c.number_text.ensures)
