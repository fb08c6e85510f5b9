use Rattle.std.proofs.Common.{ℕ, ◌+◌, ◌≤◌, List, true, false, refl, ◌∙◌, ap, subst}
use Rattle.quilt_world.specs.Tale.{Goes}
use Rattle.quilt_world.proofs.ReadCounts.{reads_none}
use Rattle.quilt_node.specs.declared.head.Head.{Head}
use Rattle.quilt_types.specs.declared.code.Code.TheVariants as no
use Rattle.quilt_replies.specs.Answers.{Refused, layer, grid_in}
use Rattle.quilt_map.specs.Asking.{reads_in}
use Rattle.quilt_map.specs.Costs.{cut_pages}
use Rattle.quilt_map.specs.Derivation.{window_is_inside}
use Rattle.quilt_replies.specs.declared.reply.Reply.TheVariants as given
use Rattle.quilt_map.proofs.answers.Answered.{catalog_as, level_is, test_at}
use Rattle.quilt_map.proofs.answers.Asked.{if_ok, if_err}
use Rattle.quilt_map.proofs.states.ChangeSteps.{goes_here}
use Rattle.quilt_map.proofs.layers.Derives.{derive_forward, derive_refused, derive_taken, derive_outside, derive_answered, cut_from}
use Rattle.quilt_map.proofs.answers.Outcomes.{answered_same}
use Rattle.quilt_map.proofs.plans.PaintPlans.{region_in}
use Rattle.quilt_map.proofs.questions.Costs.{cut_cost}
use Rattle.quilt_map.proofs.session.Session.derive.Goals as goal

pub returns-in-Err-clause-answer : goal.returns-in-Err-clause-answer
returns-in-Err-clause-answer g c = λ s at fits.
    let old = c.args.self.now in
    let command = c.args.command.now in
    let name = c.args.name.now in
    let into = c.args.into.now in
    let first = c.in-Err.ensures.refused s at.work.numbers (catalog_as {D = g.W.Disk} old s at c.entries.result.now c.entries.ensures.entries) in
    answered_same {D = g.W.Disk} s command old old (Refused c.in-Err.code) (given.No c.in-Err.code)
    (derive_refused s command name into c.requires c.in-Err.code first) (derive_forward command name into c.requires) refl refl at at

pub returns-in-Err-clause-goes_on : goal.returns-in-Err-clause-goes_on
returns-in-Err-clause-goes_on g c = goes_here {D = g.W.Disk} c.args.self.now.book

pub returns-in-Some-clause-answer : goal.returns-in-Some-clause-answer
returns-in-Some-clause-answer g c = λ s at fits.
    let old = c.args.self.now in
    let command = c.args.command.now in
    let name = c.args.name.now in
    let into = c.args.into.now in
    let region = c.in-Ok.ensures.found s.work at.work.numbers (catalog_as {D = g.W.Disk} old s at c.entries.result.now c.entries.ensures.entries) in
    let catalog = catalog_as {D = g.W.Disk} old s at c.entries-in-Ok.result.now c.entries-in-Ok.ensures.entries in
    answered_same {D = g.W.Disk} s command old old (Refused c.in-Some.code) (given.No c.in-Some.code)
    (derive_taken s command name into c.requires region.grid region.got c.in-Some.code (c.in-Some.ensures.refuses s at.work.numbers catalog))
    (derive_forward command name into c.requires) refl refl at at

pub returns-in-Some-clause-goes_on : goal.returns-in-Some-clause-goes_on
returns-in-Some-clause-goes_on g c = goes_here {D = g.W.Disk} c.args.self.now.book

pub returns-then-not-has_its_window-clause-answer : goal.returns-then-not-has_its_window-clause-answer
returns-then-not-has_its_window-clause-answer g c = λ s at fits.
    let old = c.args.self.now in
    let command = c.args.command.now in
    let name = c.args.name.now in
    let into = c.args.into.now in
    let region = c.in-Ok.ensures.found s.work at.work.numbers (catalog_as {D = g.W.Disk} old s at c.entries.result.now c.entries.ensures.entries) in
    let passes =
    c.in_default.ensures.passes refl s at.work.numbers (catalog_as {D = g.W.Disk} old s at c.entries-in-Ok.result.now c.entries-in-Ok.ensures.entries) in
    let out = test_at (λ n. window_is_inside n command) c.head.result.level s.last.level c.has_its_window.result false
    (ap (λ (h : Head). h.level) c.head.ensures.work ∙ level_is {D = g.W.Disk} old s at) c.has_its_window.ensures c.if-not-has_its_window.true in
    answered_same {D = g.W.Disk} s command old old (Refused no.Outside) (given.No no.Outside)
    (derive_outside s command name into c.requires region.grid region.got passes out) (derive_forward command name into c.requires) refl refl at at

pub returns-then-not-has_its_window-clause-goes_on : goal.returns-then-not-has_its_window-clause-goes_on
returns-then-not-has_its_window-clause-goes_on g c = goes_here {D = g.W.Disk} c.args.self.now.book

pub returns-else-not-has_its_window-clause-answer : goal.returns-else-not-has_its_window-clause-answer
returns-else-not-has_its_window-clause-answer g c =
    if_ok _ _ c.make_derived.result (λ reply p s at fits.
    let old = c.args.self.now in
    let command = c.args.command.now in
    let name = c.args.name.now in
    let into = c.args.into.now in
    let region =
    region_in s.work at.work.numbers c.entries.result.now old.catalog name c.in-Ok.number c.entries.ensures.entries at.work.catalog c.in-Ok.ensures.found in
    let passes =
    c.in_default.ensures.passes refl s at.work.numbers (catalog_as {D = g.W.Disk} old s at c.entries-in-Ok.result.now c.entries-in-Ok.ensures.entries) in
    let inside = test_at (λ n. window_is_inside n command) c.head.result.level s.last.level c.has_its_window.result true
    (ap (λ (h : Head). h.level) c.head.ensures.work ∙ level_is {D = g.W.Disk} old s at) c.has_its_window.ensures c.if-not-has_its_window.false in
    derive_answered s command name into c.requires region.0 region.1.got passes {D = g.W.Disk} old c.make_derived.new.self reply inside
    (p s at name region.0 region.1 fits)) c.make_derived.ensures.made

pub returns-else-not-has_its_window-clause-sound : goal.returns-else-not-has_its_window-clause-sound
returns-else-not-has_its_window-clause-sound g c =
    if_err _ _ c.make_derived.result (λ e p s at fits.
    let old = c.args.self.now in
    let name = c.args.name.now in
    let region =
    region_in s.work at.work.numbers c.entries.result.now old.catalog name c.in-Ok.number c.entries.ensures.entries at.work.catalog c.in-Ok.ensures.found in
    p s at name region.0 region.1 fits) c.make_derived.ensures.sound

pub returns-in-Err-clause-reads : goal.returns-in-Err-clause-reads
returns-in-Err-clause-reads g c = λ s at side a b w is over. reads_none (cut_pages s.last.level (grid_in (layer s a)) side w) _

pub returns-in-Some-clause-reads : goal.returns-in-Some-clause-reads
returns-in-Some-clause-reads g c = λ s at side a b w is over. reads_none (cut_pages s.last.level (grid_in (layer s a)) side w) _

pub returns-then-not-has_its_window-clause-reads : goal.returns-then-not-has_its_window-clause-reads
returns-then-not-has_its_window-clause-reads g c = λ s at side a b w is over. reads_none (cut_pages s.last.level (grid_in (layer s a)) side w) _

pub returns-else-not-has_its_window-clause-reads : goal.returns-else-not-has_its_window-clause-reads
returns-else-not-has_its_window-clause-reads g c =
    if_ok _ _ c.make_derived.result (λ reply p s at side a b w is over.
    let old = c.args.self.now in
    let name = c.args.name.now in
    let before = reads_in {D = g.W.Disk} old.book in
    let now = reads_in {D = g.W.Disk} c.make_derived.new.self.book in
    let region =
    region_in s.work at.work.numbers c.entries.result.now old.catalog name c.in-Ok.number c.entries.ensures.entries at.work.catalog c.in-Ok.ensures.found in
    subst (λ (x : List ℕ). Goes {A = ℕ} (λ old new. new ≤ old + cut_pages s.last.level (grid_in (layer s x)) side w) before now)
    (cut_from c.args.command.now name c.args.into.now a b w c.requires is)
    (cut_cost s name s.last.level before now refl region.0 side w region.1.got (p s at name region.0 region.1 side a b w is over))) c.make_derived.ensures.reads
