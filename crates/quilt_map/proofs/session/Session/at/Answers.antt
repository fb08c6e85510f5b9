use Rattle.quilt_types.specs.declared.code.Code.TheVariants as no
use Rattle.quilt_replies.specs.declared.reply.Reply.TheVariants as reply
use Rattle.std.proofs.Common.{true, false, List, Option, refl, sym, subst, ◌∙◌, ap, Some}
use Rattle.std.proofs.lemmas.Result.{err_from_is_err_and}
use Rattle.std.specs.Map.{keys_of}
use Rattle.quilt_types.specs.Layers.{Map}
use Rattle.quilt_world.specs.Disk.{Pages}
use Rattle.quilt_record.specs.Records.{Numbering}
use Rattle.quilt_record.specs.declared.entry.Entry.{Entry}
use Rattle.quilt_btree.specs.Trees.{IsTree}
use Rattle.quilt_spell.specs.Catalogued.{IsCatalogOf}
use Rattle.quilt_pool.specs.Views.{entries_of}
use Rattle.quilt_map.specs.Asking.{reads_in}
use Rattle.quilt_map.specs.Sessions.{told_of, tree_in}
use Rattle.quilt_map.proofs.questions.Warming.{cold, warm_as, warmed, held_again, reads_same}
use Rattle.quilt_types.specs.Plane.{is_pixel}
use Rattle.quilt_node.specs.declared.head.Head.{Head}
use Rattle.quilt_words.specs.declared.command.Command.TheVariants as commands
use Rattle.quilt_replies.specs.Answers.{answer}
use Rattle.quilt_map.proofs.answers.Answered.{text_tells, at_refused, at_outside, at_body, level_is, test_at, catalog_as, keeps_here, has_region, has_number}
use Rattle.quilt_map.proofs.answers.Asks.{asked_here, asked_on}
use Rattle.quilt_map.proofs.session.Session.at.Goals as goal

pub returns-then-not-has_pixel-clause-answer : goal.returns-then-not-has_pixel-clause-answer
returns-then-not-has_pixel-clause-answer g c = λ s at.
    let old = c.args.self.now in
    let region = c.in-Ok.ensures.found s.work at.work.numbers (catalog_as {D = g.W.Disk} old s at c.entries.result.now c.entries.ensures.entries) in
    asked_here {D = g.W.Disk} s (commands.At c.args.name.now c.args.at) refl old at old.warm (reply.No no.Outside)
    (at_outside s c.args.name.now region.grid region.got c.args.at
    (test_at (λ n. is_pixel n c.args.at) c.head.result.level s.last.level c.has_pixel.result false
    (ap (λ (h : Head). h.level) c.head.ensures.work ∙ level_is {D = g.W.Disk} old s at) c.has_pixel.ensures c.if-not-has_pixel.true))

pub returns-then-not-has_pixel-clause-keeps : goal.returns-then-not-has_pixel-clause-keeps
returns-then-not-has_pixel-clause-keeps g c = keeps_here {D = g.W.Disk} c.args.self.now c.args.self.now.warm

pub returns-in-Err-clause-answer : goal.returns-in-Err-clause-answer
returns-in-Err-clause-answer g c = λ s at.
    asked_here {D = g.W.Disk} s (commands.At c.args.name.now c.args.at) refl c.args.self.now at c.args.self.now.warm (reply.No c.in-Err.code)
    (at_refused s c.args.name.now c.args.at c.in-Err.code
    (c.in-Err.ensures.refused s at.work.numbers (catalog_as {D = g.W.Disk} c.args.self.now s at c.entries.result.now c.entries.ensures.entries)))

pub returns-in-Err-clause-keeps : goal.returns-in-Err-clause-keeps
returns-in-Err-clause-keeps g c = keeps_here {D = g.W.Disk} c.args.self.now c.args.self.now.warm

pub returns-in_err-colour-in-Ok-clause-sound : goal.returns-in_err-colour-in-Ok-clause-sound
returns-in_err-colour-in-Ok-clause-sound g c =
    let p = err_from_is_err_and c.from_residual.result c.from_residual.ensures.1 in
    rw (p.1, p.2) (λ s at.
    let old = c.args.self.now in
    let name = c.args.name.now in
    let region = c.in-Ok.ensures.found s.work at.work.numbers (catalog_as {D = g.W.Disk} old s at c.entries.result.now c.entries.ensures.entries) in
    c.in_err-colour-in-Ok.ensures.sound region.grid (has_number {D = g.W.Disk} old s at name c.in-Ok.number region)
    (has_region {D = g.W.Disk} old s at name c.in-Ok.number region))

pub returns-in-Ok-number_text-clause-answer : goal.returns-in-Ok-number_text-clause-answer
returns-in-Ok-number_text-clause-answer g c = λ s at.
    let old = c.args.self.now in
    let name = c.args.name.now in
    let region = c.in-Ok.ensures.found s.work at.work.numbers (catalog_as {D = g.W.Disk} old s at c.entries.result.now c.entries.ensures.entries) in
    let inside = test_at (λ n. is_pixel n c.args.at) c.head.result.level s.last.level c.has_pixel.result true
    (ap (λ (h : Head). h.level) c.head.ensures.work ∙ level_is {D = g.W.Disk} old s at) c.has_pixel.ensures c.if-not-has_pixel.false in
    asked_on {D = g.W.Disk} s (commands.At name c.args.at) refl old at c.read_colour.new.book old.warm
    (reply.Ok c.in-Ok-number_text.text) c.read_colour.ensures.still (g.met.W.Disk.is_consistent c.read_colour.new.book.world)
    (text_tells ((answer s (commands.At name c.args.at)).reply) c.in-Ok-number_text.text
    (at_body {D = g.W.Disk} old s at name c.in-Ok.number region c.args.at c.in_ok-colour-in-Ok.colour.0 c.from.result inside
    c.in_ok-colour-in-Ok.ensures.colour c.from.ensures c.in-Ok-number_text.text c.in-Ok-number_text.ensures))

pub returns-in-Err-clause-held : goal.returns-in-Err-clause-held
returns-in-Err-clause-held g c = cold _ _ _ _

pub returns-in-Err-clause-again : goal.returns-in-Err-clause-again
returns-in-Err-clause-again g c = λ s at warm asked. reads_same (reads_in {D = g.W.Disk} c.args.self.now.book)

pub returns-then-not-has_pixel-clause-held : goal.returns-then-not-has_pixel-clause-held
returns-then-not-has_pixel-clause-held g c = cold _ _ _ _

pub returns-then-not-has_pixel-clause-again : goal.returns-then-not-has_pixel-clause-again
returns-then-not-has_pixel-clause-again g c = λ s at warm asked. reads_same (reads_in {D = g.W.Disk} c.args.self.now.book)

pub returns-in_err-colour-in-Ok-clause-held : goal.returns-in_err-colour-in-Ok-clause-held
returns-in_err-colour-in-Ok-clause-held g c =
    let p = err_from_is_err_and c.from_residual.result c.from_residual.ensures.1 in
    rw p.1 (cold _ _ _ _)

pub returns-in_err-colour-in-Ok-clause-again : goal.returns-in_err-colour-in-Ok-clause-again
returns-in_err-colour-in-Ok-clause-again g c = λ s at warm asked.
    let old = c.args.self.now in
    let catalog = catalog_as {D = g.W.Disk} old s at old.catalog refl in
    let is = λ (layers : Map) (numbers : Numbering) (k : IsCatalogOf layers numbers old.catalog).
    (c.in-Ok.ensures.found layers numbers (subst (λ (es : List Entry). IsCatalogOf layers numbers es) (sym c.entries.ensures.entries) k)).numbered in
    let tree = subst (λ (o : Option Pages). IsTree o (tree_in old.book.work) at.work.records) (sym at.pages_told) at.work.whole.tree in
    c.read_colour.ensures.again at.work.records tree at.pages at.pages_told
    (held_again old.catalog (told_of {D = g.W.Disk} old.book) old.book.work (keys_of (entries_of old.book.pool)) (c.args.name.now, c.args.at) c.in-Ok.number is
    old.warm warm asked s.work at.work.numbers catalog at.work.records tree at.pages at.pages_told)

pub returns-in-Err-number_text-clause-held : goal.returns-in-Err-number_text-clause-held
returns-in-Err-number_text-clause-held g c = cold _ _ _ _

pub returns-in-Err-number_text-clause-again : goal.returns-in-Err-number_text-clause-again
returns-in-Err-number_text-clause-again g c = λ s at warm asked.
    let old = c.args.self.now in
    let catalog = catalog_as {D = g.W.Disk} old s at old.catalog refl in
    let is = λ (layers : Map) (numbers : Numbering) (k : IsCatalogOf layers numbers old.catalog).
    (c.in-Ok.ensures.found layers numbers (subst (λ (es : List Entry). IsCatalogOf layers numbers es) (sym c.entries.ensures.entries) k)).numbered in
    let tree = subst (λ (o : Option Pages). IsTree o (tree_in old.book.work) at.work.records) (sym at.pages_told) at.work.whole.tree in
    c.read_colour.ensures.again at.work.records tree at.pages at.pages_told
    (held_again old.catalog (told_of {D = g.W.Disk} old.book) old.book.work (keys_of (entries_of old.book.pool)) (c.args.name.now, c.args.at) c.in-Ok.number is
    old.warm warm asked s.work at.work.numbers catalog at.work.records tree at.pages at.pages_told)

pub returns-in-Ok-number_text-clause-held : goal.returns-in-Ok-number_text-clause-held
returns-in-Ok-number_text-clause-held g c =
    let old = c.args.self.now in
    let book = c.read_colour.new.book in
    let still = c.read_colour.ensures.still in
    let is = λ (layers : Map) (numbers : Numbering) (k : IsCatalogOf layers numbers old.catalog).
    (c.in-Ok.ensures.found layers numbers (subst (λ (es : List Entry). IsCatalogOf layers numbers es) (sym c.entries.ensures.entries) k)).numbered in
    warm_as (Some (c.args.name.now, c.args.at)) old.catalog (told_of {D = g.W.Disk} old.book) (told_of {D = g.W.Disk} book) old.book.work book.work
    (keys_of (entries_of book.pool)) (keys_of (entries_of book.pool)) still.told still.later.2.1 refl
    (warmed old.catalog (told_of {D = g.W.Disk} old.book) old.book.work (keys_of (entries_of book.pool)) (c.args.name.now, c.args.at) c.in-Ok.number is
    c.in_ok-colour-in-Ok.ensures.held)

pub returns-in-Ok-number_text-clause-again : goal.returns-in-Ok-number_text-clause-again
returns-in-Ok-number_text-clause-again g c = λ s at warm asked.
    let old = c.args.self.now in
    let catalog = catalog_as {D = g.W.Disk} old s at old.catalog refl in
    let is = λ (layers : Map) (numbers : Numbering) (k : IsCatalogOf layers numbers old.catalog).
    (c.in-Ok.ensures.found layers numbers (subst (λ (es : List Entry). IsCatalogOf layers numbers es) (sym c.entries.ensures.entries) k)).numbered in
    let tree = subst (λ (o : Option Pages). IsTree o (tree_in old.book.work) at.work.records) (sym at.pages_told) at.work.whole.tree in
    c.read_colour.ensures.again at.work.records tree at.pages at.pages_told
    (held_again old.catalog (told_of {D = g.W.Disk} old.book) old.book.work (keys_of (entries_of old.book.pool)) (c.args.name.now, c.args.at) c.in-Ok.number is
    old.warm warm asked s.work at.work.numbers catalog at.work.records tree at.pages at.pages_told)
