use Rattle.std.proofs.lemmas.Result.{err_from_is_err_and}
use Rattle.quilt_replies.specs.declared.reply.Reply.TheVariants as reply
use Rattle.quilt_map.proofs.answers.Answered.{catalog_as, keeps_here, has_region, has_number}
use Rattle.quilt_map.proofs.answers.Asks.{asked_here, told_on}
use Rattle.quilt_map.proofs.answers.Asked.{if_ok}
use Rattle.quilt_map.proofs.questions.Measures.{measured_asks, measure_refused, measure_body}
use Rattle.quilt_map.proofs.session.Session.measure.Goals as goal

pub returns-in-Err-clause-answer : goal.returns-in-Err-clause-answer
returns-in-Err-clause-answer g c = λ s at.
    let old = c.args.self.now in
    let command = c.args.command.now in
    let name = c.args.name.now in
    asked_here {D = g.W.Disk} s command (measured_asks command name c.requires) old at old.warm (reply.No c.in-Err.code)
    (measure_refused command name c.requires s c.in-Err.code
    (c.in-Err.ensures.refused s at.work.numbers (catalog_as {D = g.W.Disk} old s at c.entries.result.now c.entries.ensures.entries)))

pub returns-in-Err-clause-keeps : goal.returns-in-Err-clause-keeps
returns-in-Err-clause-keeps g c = keeps_here {D = g.W.Disk} c.args.self.now c.args.self.now.warm

pub returns-in_err-list-in-Ok-clause-sound : goal.returns-in_err-list-in-Ok-clause-sound
returns-in_err-list-in-Ok-clause-sound g c =
    let p = err_from_is_err_and c.from_residual.result c.from_residual.ensures.1 in
    rw (p.1, p.2) (λ s at.
    let old = c.args.self.now in
    let name = c.args.name.now in
    let region = c.in-Ok.ensures.found s.work at.work.numbers (catalog_as {D = g.W.Disk} old s at c.entries.result.now c.entries.ensures.entries) in
    c.in_err-list-in-Ok.ensures.sound region.grid (has_number {D = g.W.Disk} old s at name c.in-Ok.number region)
    (has_region {D = g.W.Disk} old s at name c.in-Ok.number region))

pub returns-in_ok-list-in-Ok-clause-answer : goal.returns-in_ok-list-in-Ok-clause-answer
returns-in_ok-list-in-Ok-clause-answer g c =
    let old = c.args.self.now in
    let command = c.args.command.now in
    let name = c.args.name.now in
    told_on {D = g.W.Disk} command (measured_asks command name c.requires) old c.read_region.new.book old.warm c.number_text.result c.told.result
    c.read_region.ensures.still (g.met.W.Disk.is_consistent c.read_region.new.book.world) c.told.ensures.text (λ s at.
    let region = c.in-Ok.ensures.found s.work at.work.numbers (catalog_as {D = g.W.Disk} old s at c.entries.result.now c.entries.ensures.entries) in
    if_ok _ _ c.number_text.result
    (λ t h. measure_body command name c.requires {D = g.W.Disk} old s at c.in-Ok.number region c.in_ok-list-in-Ok.list
    c.in_ok-list-in-Ok.ensures.list c.measure_of.result c.measure_of.ensures t h) c.number_text.ensures)
