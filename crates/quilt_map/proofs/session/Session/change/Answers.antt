use Rattle.std.proofs.Common.{ℕ, ◌+◌, nat_lt, refl, sym, ◌∙◌, ap, length}
use Rattle.std.proofs.lemmas.Result.{err_from_is_err_and}
use Rattle.quilt_node.specs.declared.head.Head.{Head}
use Rattle.quilt_map.proofs.states.ChangeSteps.{goes_here, at_whole, there, new, is_full, is_within, has_layer, counted_twice}
use Rattle.quilt_map.proofs.session.Session.change.Goals as goal

pub returns-then-is_over-clause-goes_on : goal.returns-then-is_over-clause-goes_on
returns-then-is_over-clause-goes_on g c = goes_here {D = g.W.Disk} c.args.self.now.book

pub returns-then-is_over-clause-changed : goal.returns-then-is_over-clause-changed
returns-then-is_over-clause-changed g c = λ s at name number layer entries plan catalog.
    let held = c.head-records.result.records in
    is_full {D = g.W.Disk} c.args.self.now s at name number layer c.args.removed.now c.args.added.now plan c.args.self.now.book.journal.pages
    held refl (ap (λ (h : Head). h.records) c.head-records.ensures.work)
    (ap (λ (q : ℕ). nat_lt (q + length c.args.removed.now) (held + length c.args.added.now)) (sym c.quota_of-quota.ensures)
    ∙ sym c.is_over.ensures ∙ c.if-is_over.true)

pub returns-in_err-edit_records-clause-sound : goal.returns-in_err-edit_records-clause-sound
returns-in_err-edit_records-clause-sound g c =
    let p = err_from_is_err_and c.from_residual.result c.from_residual.ensures.1 in
    rw (p.1, p.2) (λ s at name number layer plan.
    c.in_err-edit_records.ensures.sound at.work.records (at_whole {D = g.W.Disk} c.args.self.now s at) plan.removed_ascend plan.added_ascend
    (there {D = g.W.Disk} c.args.self.now s at name number layer c.args.removed.now c.args.added.now plan)
    (new {D = g.W.Disk} c.args.self.now s at name number layer c.args.removed.now c.args.added.now plan))

pub returns-clause-changed : goal.returns-clause-changed
returns-clause-changed g c = λ s at name number layer entries plan catalog.
    let old = c.args.self.now in
    let removed = c.args.removed.now in
    let added = c.args.added.now in
    let book = c.edit_records.new.book in
    let whole = c.in_ok-edit_records.ensures.edited at.work.records (at_whole {D = g.W.Disk} old s at) in
    let held = c.head-records.result.records in
    let within = is_within {D = g.W.Disk} old s at name number layer removed added plan old.book.journal.pages held refl
    (ap (λ (h : Head). h.records) c.head-records.ensures.work)
    (ap (λ (q : ℕ). nat_lt (q + length removed) (held + length added)) (sym c.quota_of-quota.ensures) ∙ sym c.is_over.ensures ∙ c.if-is_over.false) in
    has_layer {D = g.W.Disk} old s at name number layer removed added plan book c.saturating_add-self.result entries catalog
    c.edit_records.ensures.goes_on c.edit_records.ensures.used
    (g.met.W.Disk.is_consistent book.world) whole c.in_ok-edit_records.ensures.head c.edit_records.ensures.changed
    (counted_twice old.changes (length removed) (length added) _ _ c.saturating_add-count.ensures c.saturating_add-self.ensures) within
