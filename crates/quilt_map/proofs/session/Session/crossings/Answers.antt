use Rattle.std.proofs.Common.{◌≡◌, List, ℕ, true, nat_eq, Some, refl, sym, ap, subst, ◌∙◌}
use Rattle.std.specs.Cmp.Lexicographic.{pointwise}
use Rattle.std.specs.FinMap as finmap
use Rattle.std.proofs.lemmas.Slice.Eq.{bytes_eq-Decides}
use Rattle.std.proofs.lemmas.Result.{err_from_is_err_and}
use Rattle.quilt_types.specs.Layers.{Lines}
use Rattle.quilt_node.specs.declared.head.Head.{Head}
use Rattle.quilt_words.specs.declared.command.Command.TheVariants as commands
use Rattle.quilt_replies.specs.Answers as answers
use Rattle.quilt_replies.specs.States.{Tells}
use Rattle.quilt_replies.specs.declared.reply.Reply.TheVariants as reply
use Rattle.quilt_map.proofs.plans.Amends.{mid_at}
use Rattle.quilt_map.proofs.answers.Answered.{catalog_as, keeps_here}
use Rattle.quilt_map.proofs.answers.Asked.{if_ok, if_err, still_both}
use Rattle.quilt_map.proofs.answers.Asks.{asked_here, asked_on}
use Rattle.quilt_map.proofs.plans.LinePlans.{found_lines}
use Rattle.quilt_map.proofs.states.Moving.{with_book}
use Rattle.quilt_map.proofs.questions.Selects.{crossings_refused, crossings_done}
use Rattle.quilt_map.proofs.questions.ShownLines.{ends_at}
use Rattle.quilt_map.proofs.states.Causes.{cause_then}
use Rattle.quilt_map.proofs.session.Session.crossings.Goals as goal

pub returns-in-Err-clause-answer : goal.returns-in-Err-clause-answer
returns-in-Err-clause-answer g c = λ s at.
    let old = c.args.self.now in
    let l = c.args.l.now in
    let m = c.args.m.now in
    asked_here {D = g.W.Disk} s (commands.Crossings l m) refl old at old.warm (reply.No c.in-Err.code)
    (crossings_refused s l m c.in-Err.code
    (c.in-Err.ensures.refused s at.work.numbers (catalog_as {D = g.W.Disk} old s at c.entries.result.now c.entries.ensures.entries)))

pub returns-in-Err-clause-keeps : goal.returns-in-Err-clause-keeps
returns-in-Err-clause-keeps g c = keeps_here {D = g.W.Disk} c.args.self.now c.args.self.now.warm

pub returns-in_err-a-in-Ok-clause-sound : goal.returns-in_err-a-in-Ok-clause-sound
returns-in_err-a-in-Ok-clause-sound g c =
    let p = err_from_is_err_and c.from_residual.result c.from_residual.ensures.1 in
    rw (p.1, p.2) (λ s at.
    let found = found_lines {D = g.W.Disk} c.args.self.now s at c.args.l.now c.in-Ok.first c.entries.result.now c.entries.ensures.entries
    c.in-Ok.ensures.first in
    c.in_err-a-in-Ok.ensures.sound found.segs found.cover found.least found.holds)

-- both lists are the one that was read

pub crossed-requires-clause-first_ends : goal.crossed-requires-clause-first_ends
crossed-requires-clause-first_ends g c κs within =
    let same = c.head-level.ensures.work ∙ c.read_segments.ensures.still.later.2.1 in
    ends_at c.in_ok-a-in-Ok.a c.items.result.now c.args.self.now.book.work.level c.head-level.result.level c.items.ensures
    (ap (λ (h : Head). h.level) same) c.in_ok-a-in-Ok.ensures.inside

pub crossed-requires-clause-second_ends : goal.crossed-requires-clause-second_ends
crossed-requires-clause-second_ends g c κs within =
    let same = c.head-level.ensures.work ∙ c.read_segments.ensures.still.later.2.1 in
    ends_at c.in_ok-a-in-Ok.a c.items-then-eq.result.now c.args.self.now.book.work.level c.head-level.result.level c.items-then-eq.ensures
    (ap (λ (h : Head). h.level) same) c.in_ok-a-in-Ok.ensures.inside

pub returns-then-eq-clause-answer : goal.returns-then-eq-clause-answer
returns-then-eq-clause-answer g c =
    if_ok _ _ c.crossed.result (λ given tells s at.
    let old = c.args.self.now in
    let l = c.args.l.now in
    let m = c.args.m.now in
    let t = c.in-Ok.first.threshold in
    let one = found_lines {D = g.W.Disk} old s at l c.in-Ok.first c.entries.result.now c.entries.ensures.entries c.in-Ok.ensures.first in
    let same : pointwise nat_eq l m ≡ true = sym (c.if-eq.ensures {u = tt}) in
    let got = subst (λ (x : List ℕ). finmap.get s.work x ≡ Some (Lines t one.segs one.cover)) ((bytes_eq-Decides l m).0 same) one.is.got in
    let listed = c.in_ok-a-in-Ok.ensures.segments one.segs one.cover one.holds in
    let last = c.read_segments.new.book in
    asked_on {D = g.W.Disk} s (commands.Crossings l m) refl old at last old.warm given c.read_segments.ensures.still
    (g.met.W.Disk.is_consistent last.world)
    (subst (λ (r : answers.Reply). Tells given r) (sym (crossings_done s l m t t one.segs one.segs one.cover one.cover one.is.got got))
    (tells one.segs one.segs (sym (c.items.ensures ∙ listed)) (sym (c.items-then-eq.ensures ∙ listed)))))
    c.crossed.ensures.reply

pub crossed_with-requires-clause-ends : goal.crossed_with-requires-clause-ends
crossed_with-requires-clause-ends g c κs within =
    let a = c.in_ok-a-in-Ok.a in
    ends_at a a c.args.self.now.book.work.level c.read_segments.new.book.work.level refl
    (ap (λ (h : Head). h.level) c.read_segments.ensures.still.later.2.1) c.in_ok-a-in-Ok.ensures.inside

pub returns-else-eq-clause-answer : goal.returns-else-eq-clause-answer
returns-else-eq-clause-answer g c =
    if_ok _ _ c.crossed_with.result (λ given tells s at.
    let old = c.args.self.now in
    let l = c.args.l.now in
    let m = c.args.m.now in
    let book = c.read_segments.new.book in
    let mid = with_book {D = g.W.Disk} old book in
    let there = mid_at {D = g.W.Disk} old s at book c.read_segments.ensures.still (g.met.W.Disk.is_consistent book.world) in
    let one = found_lines {D = g.W.Disk} old s at l c.in-Ok.first c.entries.result.now c.entries.ensures.entries c.in-Ok.ensures.first in
    let two = found_lines {D = g.W.Disk} mid s there m c.in-Ok.second c.entries.result.now c.entries.ensures.entries c.in-Ok.ensures.second in
    let first = sym (c.in_ok-a-in-Ok.ensures.segments one.segs one.cover one.holds) in
    let last = c.crossed_with.new.book in
    let done = crossings_done s l m c.in-Ok.first.threshold c.in-Ok.second.threshold one.segs two.segs one.cover two.cover one.is.got two.is.got in
    let then = asked_on {D = g.W.Disk} s (commands.Crossings l m) refl mid there last old.warm given c.crossed_with.ensures.still
    (g.met.W.Disk.is_consistent last.world)
    (subst (λ (r : answers.Reply). Tells given r) (sym done) (tells one.segs two.segs two.cover first two.holds)) in
    record { tells = then.tells; at = then.at; count = then.count }) c.crossed_with.ensures.reply

pub returns-else-eq-clause-sound : goal.returns-else-eq-clause-sound
returns-else-eq-clause-sound g c =
    if_err _ _ c.crossed_with.result (λ e p s at.
    let old = c.args.self.now in
    let book = c.read_segments.new.book in
    let mid = with_book {D = g.W.Disk} old book in
    let there = mid_at {D = g.W.Disk} old s at book c.read_segments.ensures.still (g.met.W.Disk.is_consistent book.world) in
    let found = found_lines {D = g.W.Disk} mid s there c.args.m.now c.in-Ok.second c.entries.result.now c.entries.ensures.entries c.in-Ok.ensures.second in
    p found.segs found.cover found.least found.holds) c.crossed_with.ensures.sound

pub returns-else-eq-clause-keeps : goal.returns-else-eq-clause-keeps
returns-else-eq-clause-keeps g c = record {
  book = still_both {D = g.W.Disk} c.args.self.now.book c.read_segments.new.book c.crossed_with.new.book c.read_segments.ensures.still c.crossed_with.ensures.still;
  catalog = refl;
  last = refl;
  changes = refl;
}

pub returns-else-eq-clause-cause : goal.returns-else-eq-clause-cause
returns-else-eq-clause-cause g c = cause_then c.read_segments.ensures.cause c.crossed_with.ensures.cause
