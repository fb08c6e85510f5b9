use Rattle.std.proofs.Common.{true, false, sym, ◌∙◌, ap, subst}
use Rattle.quilt_types.specs.declared.code.Code.TheVariants as no
use Rattle.quilt_node.specs.declared.head.Head.{Head}
use Rattle.quilt_replies.specs.Answers as answers
use Rattle.quilt_replies.specs.States.{Tells}
use Rattle.quilt_replies.specs.declared.reply.Reply.TheVariants as reply
use Rattle.quilt_map.specs.Asking.{reads_in}
use Rattle.quilt_map.specs.Selecting.{is_place}
use Rattle.quilt_map.proofs.answers.Answered.{level_is, test_at, catalog_as, keeps_here}
use Rattle.quilt_map.proofs.answers.Asked.{if_ok, if_err}
use Rattle.quilt_map.proofs.answers.Asks.{asked_here, asked_on}
use Rattle.quilt_map.proofs.plans.LinePlans.{found_lines}
use Rattle.quilt_map.proofs.questions.Selects.{lines_asked, ask_refused, ask_outside, ask_done, ask_reads}
use Rattle.quilt_map.proofs.session.Session.ask_lines.Goals as goal

pub returns-in-Err-clause-answer : goal.returns-in-Err-clause-answer
returns-in-Err-clause-answer g c = λ s at.
    let old = c.args.self.now in
    let command = c.args.command.now in
    let name = c.args.name.now in
    asked_here {D = g.W.Disk} s command (lines_asked command name c.requires.asks) old at old.warm (reply.No c.in-Err.code)
    (ask_refused command name c.requires.asks s c.in-Err.code
    (c.in-Err.ensures.refused s at.work.numbers (catalog_as {D = g.W.Disk} old s at c.entries.result.now c.entries.ensures.entries)))

pub returns-in-Err-clause-keeps : goal.returns-in-Err-clause-keeps
returns-in-Err-clause-keeps g c = keeps_here {D = g.W.Disk} c.args.self.now c.args.self.now.warm

pub returns-then-not-has_place-clause-answer : goal.returns-then-not-has_place-clause-answer
returns-then-not-has_place-clause-answer g c = λ s at.
    let old = c.args.self.now in
    let command = c.args.command.now in
    let name = c.args.name.now in
    let found = found_lines {D = g.W.Disk} old s at name c.in-Ok.layer c.entries.result.now c.entries.ensures.entries c.in-Ok.ensures.found in
    asked_here {D = g.W.Disk} s command (lines_asked command name c.requires.asks) old at old.warm (reply.No no.Outside)
    (ask_outside command name c.requires.asks s c.in-Ok.layer.threshold found.segs found.cover found.is.got
    (test_at (λ n. is_place n command) c.head.result.level s.last.level c.has_place.result false
    (ap (λ (h : Head). h.level) c.head.ensures.work ∙ level_is {D = g.W.Disk} old s at) c.has_place.ensures c.if-not-has_place.true))

pub returns-then-not-has_place-clause-keeps : goal.returns-then-not-has_place-clause-keeps
returns-then-not-has_place-clause-keeps g c = keeps_here {D = g.W.Disk} c.args.self.now c.args.self.now.warm

pub returns-else-not-has_place-clause-answer : goal.returns-else-not-has_place-clause-answer
returns-else-not-has_place-clause-answer g c =
    if_ok _ _ c.select_in.result (λ given tells s at.
    let old = c.args.self.now in
    let command = c.args.command.now in
    let name = c.args.name.now in
    let found = found_lines {D = g.W.Disk} old s at name c.in-Ok.layer c.entries.result.now c.entries.ensures.entries c.in-Ok.ensures.found in
    let inside = test_at (λ n. is_place n command) c.head.result.level s.last.level c.has_place.result true
    (ap (λ (h : Head). h.level) c.head.ensures.work ∙ level_is {D = g.W.Disk} old s at) c.has_place.ensures c.if-not-has_place.false in
    let done = ask_done command name c.requires.asks s c.in-Ok.layer.threshold found.segs found.cover found.is.got inside in
    asked_on {D = g.W.Disk} s command (lines_asked command name c.requires.asks) old at c.select_in.new.book old.warm given c.select_in.ensures.still
    (g.met.W.Disk.is_consistent c.select_in.new.book.world)
    (subst (λ (r : answers.Reply). Tells given r) (sym done) (tells found.segs found.cover found.holds))) c.select_in.ensures.reply

pub returns-else-not-has_place-clause-sound : goal.returns-else-not-has_place-clause-sound
returns-else-not-has_place-clause-sound g c =
    if_err _ _ c.select_in.result (λ e p s at.
    let found = found_lines {D = g.W.Disk} c.args.self.now s at c.args.name.now c.in-Ok.layer c.entries.result.now c.entries.ensures.entries
    c.in-Ok.ensures.found in
    p found.segs found.cover found.least found.holds) c.select_in.ensures.sound

pub returns-else-not-has_place-clause-reads : goal.returns-else-not-has_place-clause-reads
returns-else-not-has_place-clause-reads g c =
    if_ok _ _ c.select_in.result (λ given p s at.
    let old = c.args.self.now in
    let command = c.args.command.now in
    let name = c.args.name.now in
    let found = found_lines {D = g.W.Disk} old s at name c.in-Ok.layer c.entries.result.now c.entries.ensures.entries c.in-Ok.ensures.found in
    ask_reads command name c.requires.asks s c.in-Ok.layer.threshold found.segs found.cover found.is.got old.book.work.level given
    (reads_in {D = g.W.Disk} old.book) (reads_in {D = g.W.Disk} c.select_in.new.book)
    (level_is {D = g.W.Disk} old s at) (p found.segs found.cover found.holds)) c.select_in.ensures.reads
