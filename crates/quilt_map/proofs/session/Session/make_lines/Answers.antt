use Rattle.std.proofs.Common.{ℕ, List, [], ◌∷◌, refl, ◌∙◌, ap, subst}
use Rattle.quilt_node.specs.declared.head.Head.{Head}
use Rattle.quilt_record.specs.declared.record.Record.{Record}
use Rattle.quilt_words.specs.declared.command.Command.TheVariants as commands
use Rattle.quilt_replies.specs.Answers.{Refused}
use Rattle.quilt_replies.specs.declared.reply.Reply.TheVariants as given
use Rattle.quilt_map.specs.Copying.{BeginsWithEntry}
use Rattle.quilt_map.specs.Making.{AnsweredBy, layer_placed}
use Rattle.quilt_map.proofs.answers.Answered.{catalog_as, level_is}
use Rattle.quilt_map.proofs.answers.Asked.{if_ok, if_err}
use Rattle.quilt_map.proofs.states.ChangeSteps.{goes_here}
use Rattle.quilt_map.proofs.plans.NewLines.{bare_lines, lines_refused, lines_given, lines_plan}
use Rattle.quilt_map.proofs.answers.Outcomes.{answered_same}
use Rattle.quilt_map.proofs.answers.Placing.{answered_by, placed_none}
use Rattle.quilt_map.proofs.session.Session.make_lines.Goals as goal

pub returns-in-Some-clause-answer : goal.returns-in-Some-clause-answer
returns-in-Some-clause-answer g c = λ s at.
    let old = c.args.self.now in
    let name = c.args.name.now in
    let code = c.in-Some.code in
    let catalog = catalog_as {D = g.W.Disk} old s at c.entries.result.now c.entries.ensures.entries in
    answered_same {D = g.W.Disk} s (commands.Lines name c.args.t) old old (Refused code) (given.No code)
    (lines_refused s name c.args.t code (c.in-Some.ensures.refuses s at.work.numbers catalog)) refl refl refl at at

pub returns-in-Some-clause-goes_on : goal.returns-in-Some-clause-goes_on
returns-in-Some-clause-goes_on g c = goes_here {D = g.W.Disk} c.args.self.now.book

pub returns-clause-answer : goal.returns-clause-answer
returns-clause-answer g c =
    if_ok _ _ c.place.result (λ reply p s at.
    let old = c.args.self.now in
    let name = c.args.name.now in
    let t = c.args.t in
    let e = c.new_entry-entry.ensures in
    let lines = bare_lines s.last.level t in
    let catalog = catalog_as {D = g.W.Disk} old s at c.entries.result.now c.entries.ensures.entries in
    let again = catalog_as {D = g.W.Disk} old s at c.entries-2.result.now c.entries-2.ensures.entries in
    let level = ap (λ (h : Head). h.level) c.head.ensures.work ∙ level_is {D = g.W.Disk} old s at in
    let plan = λ (all : List Record) (listed : BeginsWithEntry c.new_entry-entry.result (c.first_record-first.result ∷ []) all).
    lines_plan {D = g.W.Disk} old s at c.new_entry-entry.result name t c.head.result.level all level
    c.requires.threshold.least c.requires.threshold.most
    c.entries.result.now c.entries.ensures.entries (c.in_default.ensures.few refl) (c.in_default.ensures.new refl) e.name e.named e.kind e.number.0 e.number.1
    (e.unused s.work at.work.numbers again at.work.spelled.numbering) listed.0 c.first_record-first.result
    listed.1 listed.2 c.first_record-first.ensures in
    answered_by {D = g.W.Disk} s (commands.Lines name t) (layer_placed s name lines) old c.place.new.self reply
    (lines_given s name t (c.in_default.ensures.passes refl s at.work.numbers catalog)) (placed_none s name lines) refl
    (subst (λ (b : List ℕ). AnsweredBy {D = g.W.Disk} s (layer_placed s b lines) old c.place.new.self reply) e.name (p s at lines e.kind plan)))
    c.place.ensures.placed

pub returns-clause-sound : goal.returns-clause-sound
returns-clause-sound g c =
    if_err _ _ c.place.result (λ err p s at.
    let old = c.args.self.now in
    let e = c.new_entry-entry.ensures in
    let again = catalog_as {D = g.W.Disk} old s at c.entries-2.result.now c.entries-2.ensures.entries in
    let level = ap (λ (h : Head). h.level) c.head.ensures.work ∙ level_is {D = g.W.Disk} old s at in
    p s at (bare_lines s.last.level c.args.t)
    (λ (all : List Record) (listed : BeginsWithEntry c.new_entry-entry.result (c.first_record-first.result ∷ []) all).
    lines_plan {D = g.W.Disk} old s at c.new_entry-entry.result c.args.name.now c.args.t c.head.result.level all level
    c.requires.threshold.least c.requires.threshold.most
    c.entries.result.now c.entries.ensures.entries (c.in_default.ensures.few refl) (c.in_default.ensures.new refl) e.name e.named e.kind e.number.0 e.number.1
    (e.unused s.work at.work.numbers again at.work.spelled.numbering) listed.0 c.first_record-first.result
    listed.1 listed.2 c.first_record-first.ensures)) c.place.ensures.sound
