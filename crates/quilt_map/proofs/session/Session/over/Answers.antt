use Rattle.std.proofs.Common.{refl, sym, ap, subst, ◌∙◌}
use Rattle.std.proofs.lemmas.Result.{err_from_is_err_and}
use Rattle.quilt_blocks.specs.Raster.{Raster}
use Rattle.quilt_words.specs.declared.command.Command.TheVariants as commands
use Rattle.quilt_replies.specs.Answers as answers
use Rattle.quilt_replies.specs.States.{Tells}
use Rattle.quilt_replies.specs.declared.reply.Reply.TheVariants as reply
use Rattle.quilt_map.specs.Selecting.{selected_over}
use Rattle.quilt_map.proofs.plans.Amends.{mid_at}
use Rattle.quilt_map.proofs.answers.Answered.{catalog_as, keeps_here, has_region, has_number, raster_is}
use Rattle.quilt_map.proofs.answers.Asked.{if_ok, if_err, still_both}
use Rattle.quilt_map.proofs.answers.Asks.{asked_here, asked_on}
use Rattle.quilt_map.proofs.plans.LinePlans.{found_lines}
use Rattle.quilt_map.proofs.states.Moving.{with_book}
use Rattle.quilt_map.proofs.questions.Selects.{over_refused, over_done}
use Rattle.quilt_map.proofs.session.Session.over.Goals as goal

pub returns-in-Err-clause-answer : goal.returns-in-Err-clause-answer
returns-in-Err-clause-answer g c = λ s at.
    let old = c.args.self.now in
    let l = c.args.l.now in
    let a = c.args.a.now in
    asked_here {D = g.W.Disk} s (commands.Over l a) refl old at old.warm (reply.No c.in-Err.code)
    (over_refused s l a c.in-Err.code
    (c.in-Err.ensures.refused s at.work.numbers (catalog_as {D = g.W.Disk} old s at c.entries.result.now c.entries.ensures.entries)))

pub returns-in-Err-clause-keeps : goal.returns-in-Err-clause-keeps
returns-in-Err-clause-keeps g c = keeps_here {D = g.W.Disk} c.args.self.now c.args.self.now.warm

pub returns-in_err-list-in-Ok-clause-sound : goal.returns-in_err-list-in-Ok-clause-sound
returns-in_err-list-in-Ok-clause-sound g c =
    let p = err_from_is_err_and c.from_residual.result c.from_residual.ensures.1 in
    rw (p.1, p.2) (λ s at.
    let old = c.args.self.now in
    let a = c.args.a.now in
    let region = c.in-Ok.ensures.region s.work at.work.numbers (catalog_as {D = g.W.Disk} old s at c.entries.result.now c.entries.ensures.entries) in
    c.in_err-list-in-Ok.ensures.sound region.grid (has_number {D = g.W.Disk} old s at a c.in-Ok.number region)
    (has_region {D = g.W.Disk} old s at a c.in-Ok.number region))

pub returns-in_ok-list-in-Ok-clause-answer : goal.returns-in_ok-list-in-Ok-clause-answer
returns-in_ok-list-in-Ok-clause-answer g c =
    if_ok _ _ c.select_over.result (λ given tells s at.
    let old = c.args.self.now in
    let l = c.args.l.now in
    let a = c.args.a.now in
    let book = c.read_region.new.book in
    let mid = with_book {D = g.W.Disk} old book in
    let there = mid_at {D = g.W.Disk} old s at book c.read_region.ensures.still (g.met.W.Disk.is_consistent book.world) in
    let region = c.in-Ok.ensures.region s.work at.work.numbers (catalog_as {D = g.W.Disk} old s at c.entries.result.now c.entries.ensures.entries) in
    let found = found_lines {D = g.W.Disk} mid s there l c.in-Ok.layer c.entries.result.now c.entries.ensures.entries c.in-Ok.ensures.lines in
    let raster = raster_is {D = g.W.Disk} old s at a c.in-Ok.number region c.in_ok-list-in-Ok.list c.in_ok-list-in-Ok.ensures.list in
    let same = ap (λ (x : Raster). selected_over x.level x.grid found.segs) raster in
    let last = c.select_over.new.book in
    let done = over_done s l a c.in-Ok.layer.threshold found.segs found.cover region.grid found.is.got region.got in
    let then = asked_on {D = g.W.Disk} s (commands.Over l a) refl mid there last old.warm given c.select_over.ensures.still
    (g.met.W.Disk.is_consistent last.world)
    (subst (λ (r : answers.Reply). Tells given r) (same ∙ sym done) (tells found.segs found.cover found.holds)) in
    record { tells = then.tells; at = then.at; count = then.count }) c.select_over.ensures.reply

pub returns-in_ok-list-in-Ok-clause-sound : goal.returns-in_ok-list-in-Ok-clause-sound
returns-in_ok-list-in-Ok-clause-sound g c =
    if_err _ _ c.select_over.result (λ e p s at.
    let old = c.args.self.now in
    let book = c.read_region.new.book in
    let mid = with_book {D = g.W.Disk} old book in
    let there = mid_at {D = g.W.Disk} old s at book c.read_region.ensures.still (g.met.W.Disk.is_consistent book.world) in
    let found = found_lines {D = g.W.Disk} mid s there c.args.l.now c.in-Ok.layer c.entries.result.now c.entries.ensures.entries c.in-Ok.ensures.lines in
    p found.segs found.cover found.least found.holds) c.select_over.ensures.sound

pub returns-in_ok-list-in-Ok-clause-keeps : goal.returns-in_ok-list-in-Ok-clause-keeps
returns-in_ok-list-in-Ok-clause-keeps g c = record {
  book = still_both {D = g.W.Disk} c.args.self.now.book c.read_region.new.book c.select_over.new.book c.read_region.ensures.still c.select_over.ensures.still;
  catalog = refl;
  last = refl;
  changes = refl;
}
