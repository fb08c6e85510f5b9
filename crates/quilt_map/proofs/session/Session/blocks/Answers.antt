use Rattle.std.proofs.Common.{refl, ap}
use Rattle.std.proofs.lemmas.Result.{err_from_is_err_and}
use Rattle.quilt_node.specs.declared.head.Head.{Head}
use Rattle.quilt_words.specs.declared.command.Command.TheVariants as commands
use Rattle.quilt_types.specs.declared.code.Code.TheVariants as no
use Rattle.quilt_replies.specs.declared.reply.Reply.TheVariants as reply
use Rattle.quilt_map.specs.Asking.{reads_in}
use Rattle.quilt_map.proofs.questions.Costs.{blocks_cost}
use Rattle.quilt_map.proofs.answers.Answered.{blocks_unknown, level_is, catalog_as, keeps_here}
use Rattle.quilt_map.proofs.answers.Asked.{if_ok}
use Rattle.quilt_map.proofs.answers.Asks.{asked_here, told_on}
use Rattle.quilt_map.proofs.questions.Counts.{under_there, under_number, blocks_body}
use Rattle.quilt_map.proofs.session.Session.blocks.Goals as goal

pub returns-in-None-clause-answer : goal.returns-in-None-clause-answer
returns-in-None-clause-answer g c = λ s at.
    asked_here {D = g.W.Disk} s (commands.Blocks c.args.name.now) refl c.args.self.now at c.args.self.now.warm (reply.No no.Unknown)
    (blocks_unknown s c.args.name.now
    (c.in-None.ensures.none refl s.work at.work.numbers (catalog_as {D = g.W.Disk} c.args.self.now s at c.entries.result.now c.entries.ensures.entries)))

pub returns-in-None-clause-keeps : goal.returns-in-None-clause-keeps
returns-in-None-clause-keeps g c = keeps_here {D = g.W.Disk} c.args.self.now c.args.self.now.warm

pub returns-in_err-counts-in-Some-clause-sound : goal.returns-in_err-counts-in-Some-clause-sound
returns-in_err-counts-in-Some-clause-sound g c =
    let p = err_from_is_err_and c.from_residual.result c.from_residual.ensures.1 in
    rw (p.1, p.2) (λ s at.
    let old = c.args.self.now in
    let name = c.args.name.now in
    let some = c.in-Some in
    let under = some.ensures.some s.work at.work.numbers (catalog_as {D = g.W.Disk} old s at c.entries.result.now c.entries.ensures.entries) in
    c.in_err-counts-in-Some.ensures.sound under.layer under.kinded (under_number {D = g.W.Disk} old s at name some.number some.kind under)
    (under_there {D = g.W.Disk} old s at name some.number some.kind under))

pub returns-in_ok-counts-in-Some-clause-answer : goal.returns-in_ok-counts-in-Some-clause-answer
returns-in_ok-counts-in-Some-clause-answer g c =
    let old = c.args.self.now in
    let name = c.args.name.now in
    let some = c.in-Some in
    told_on {D = g.W.Disk} (commands.Blocks name) refl old c.count_blocks.new.book old.warm c.blocks_text.result c.told.result
    c.count_blocks.ensures.still (g.met.W.Disk.is_consistent c.count_blocks.new.book.world) c.told.ensures.text (λ s at.
    let under = some.ensures.some s.work at.work.numbers (catalog_as {D = g.W.Disk} old s at c.entries.result.now c.entries.ensures.entries) in
    if_ok _ _ c.blocks_text.result (λ t h.
    blocks_body {D = g.W.Disk} old s at name some.number some.kind under c.in_ok-counts-in-Some.counts c.head-level.result.level c.in_ok-counts-in-Some.ensures.counts
    (ap (λ (x : Head). x.level) c.head-level.ensures.work) t h) c.blocks_text.ensures)

pub returns-in_ok-counts-in-Some-clause-reads : goal.returns-in_ok-counts-in-Some-clause-reads
returns-in_ok-counts-in-Some-clause-reads g c =
    let old = c.args.self.now in
    let name = c.args.name.now in
    let some = c.in-Some in
    if_ok _ _ c.told.result (λ given h s at answered.
    let under = some.ensures.some s.work at.work.numbers (catalog_as {D = g.W.Disk} old s at c.entries.result.now c.entries.ensures.entries) in
    blocks_cost s name old.book.work.level (reads_in {D = g.W.Disk} old.book) (reads_in {D = g.W.Disk} c.count_blocks.new.book)
    (level_is {D = g.W.Disk} old s at) under.layer under.got
    (c.in_ok-counts-in-Some.ensures.reads under.layer under.kinded (under_there {D = g.W.Disk} old s at name some.number some.kind under))) c.told.ensures.text
