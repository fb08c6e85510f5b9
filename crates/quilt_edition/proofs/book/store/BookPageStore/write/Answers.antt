use Rattle.std.proofs.Common.{◌+◌, ◌*◌, ◌≤◌, ap, subst, arith, refl, sym, ◌∙◌}
use Rattle.quilt_world.proofs.Told.{goes_weaker}
use Rattle.quilt_pool.specs.Entries.{AreBelow}
use Rattle.quilt_edition.specs.Keeping.{marked_count, KeepsPublished}
use Rattle.quilt_edition.specs.Laws.{later_same}
use Rattle.quilt_edition.proofs.Counts.{marked_kept, marked_more}
use Rattle.quilt_edition.proofs.Steps.{work_idle, of_keeps, of_changes, either, later_moves, kept_moves, told_set}
use Rattle.quilt_edition.proofs.Tallying.{tally_at, left_tally_at}
use Rattle.quilt_node.specs.Pages.{IsHead}
use Rattle.quilt_edition.proofs.book.store.BookPageStore.write.Goals as goal

pub returns-in_default-clause-later : goal.returns-in_default-clause-later
returns-in_default-clause-later g c = (refl, refl, (refl, refl, refl), refl, later_same c.args.self.now.journal.pages (g.W.Disk.told c.args.self.now.world))

pub write-requires-clause-kept : goal.write-requires-clause-kept
write-requires-clause-kept g c =
    let s = c.args.self.now in
    work_idle s.journal s.pool.table.entries s.last _ (sym c.state.ensures ∙ c.in-Idle.is) s.kept

pub invariant_of-self : goal.invariant_of-self
invariant_of-self g c =
    let s = c.args.self.now in
    let j = c.write.new.journal in
    let pages = c.write.ensures.journal.0 in
    record {
      least = subst (λ n. 16 ≤ n) (sym pages) s.least;
      most = subst (λ n. n ≤ 30000) (sym pages) s.most;
      bits = c.write.ensures.journal.2 ∙ s.bits ∙ sym pages;
      size = c.write.ensures.device.size ∙ s.size ∙ ap (λ n. 3 + 2 * n) (sym pages);
      below = subst (λ n. AreBelow n c.write.new.self.table.entries) (sym pages) c.write.ensures.below;
      kept = kept_moves s.journal j s.pool.table.entries c.write.new.self.table.entries s.last (sym c.state.ensures ∙ c.in-Idle.is)
          pages c.write.ensures.journal.1 _ _ s.kept (either c.write.result _ _ _ c.write.ensures.changes c.write.ensures.kept
          (λ changes. goes_weaker _ (KeepsPublished s.journal.pages c.write.new.self.table.entries c.write.new.journal.changed) _ _ changes
          (of_changes s.journal.pages c.args.page c.args.bytes.now s.pool.table.entries c.write.new.self.table.entries s.journal.changed
          c.write.new.journal.changed))
          (λ keeps. goes_weaker _ (KeepsPublished s.journal.pages c.write.new.self.table.entries c.write.new.journal.changed) _ _ keeps
          (of_keeps s.journal.pages s.pool.table.entries c.write.new.self.table.entries s.journal.changed c.write.new.journal.changed)));
      published = subst (λ n. IsHead n s.last) (sym pages) s.published;
      next = subst (λ n. IsHead n s.work) (sym pages) s.next;
      edition = s.edition;
      level = s.level;
      counted = tally_at c.write.new.journal.pages s.journal.pages s.free s.tally pages s.counted;
      last_counted = left_tally_at c.write.new.journal.pages s.journal.pages s.used s.last_tally pages s.last_counted;
    }

pub returns-in_err-write-clause-later : goal.returns-in_err-write-clause-later
returns-in_err-write-clause-later g c =
    let s = c.args.self.now in (
      c.write.ensures.journal.0,
      c.write.ensures.journal.1,
      (refl, refl, refl),
      c.write.ensures.device.door,
      later_moves s.journal c.write.new.journal s.pool.table.entries c.write.new.self.table.entries s.last (sym c.state.ensures ∙ c.in-Idle.is)
          c.write.ensures.journal.0 c.write.ensures.journal.1 _ _ _ _ (g.met.W.Disk.is_consistent s.world)
          (g.met.W.Disk.is_consistent c.write.new.disk) s.kept
          (goes_weaker _ (KeepsPublished s.journal.pages c.write.new.self.table.entries c.write.new.journal.changed) _ _ c.in_err-write.ensures.kept
          (of_keeps s.journal.pages s.pool.table.entries c.write.new.self.table.entries s.journal.changed c.write.new.journal.changed)),
    )

pub returns-clause-later : goal.returns-clause-later
returns-clause-later g c =
    let s = c.args.self.now in (
      c.write.ensures.journal.0,
      c.write.ensures.journal.1,
      (refl, refl, refl),
      c.write.ensures.device.door,
      later_moves s.journal c.write.new.journal s.pool.table.entries c.write.new.self.table.entries s.last (sym c.state.ensures ∙ c.in-Idle.is)
          c.write.ensures.journal.0 c.write.ensures.journal.1 _ _ _ _ (g.met.W.Disk.is_consistent s.world)
          (g.met.W.Disk.is_consistent c.write.new.disk) s.kept
          (goes_weaker _ (KeepsPublished s.journal.pages c.write.new.self.table.entries c.write.new.journal.changed) _ _ c.in_ok-write.ensures.changes
          (of_changes s.journal.pages c.args.page c.args.bytes.now s.pool.table.entries c.write.new.self.table.entries s.journal.changed
          c.write.new.journal.changed)),
    )

pub returns-clause-told : goal.returns-clause-told
returns-clause-told g c =
    let s = c.args.self.now in
    told_set s.journal c.write.new.journal s.pool.table.entries c.write.new.self.table.entries s.last (sym c.state.ensures ∙ c.in-Idle.is)
    c.write.ensures.journal.0 c.write.ensures.journal.1 c.args.page c.args.bytes.now _ _ c.requires.page.1 c.in_ok-write.ensures.changes

pub returns-in_err-write-clause-changed : goal.returns-in_err-write-clause-changed
returns-in_err-write-clause-changed g c =
    let s = c.args.self.now in
    let kept = marked_kept s.journal.pages s.pool.table.entries c.write.new.self.table.entries s.journal.changed c.write.new.journal.changed
    c.in_err-write.ensures.unmarked in
    subst (λ n. marked_count n c.write.new.self.table.entries c.write.new.journal.changed
    ≤ marked_count s.journal.pages s.pool.table.entries s.journal.changed + 1) (sym c.write.ensures.journal.0) (omega (arith, kept))

pub returns-clause-changed : goal.returns-clause-changed
returns-clause-changed g c =
    let s = c.args.self.now in
    subst (λ n. marked_count n c.write.new.self.table.entries c.write.new.journal.changed
    ≤ marked_count s.journal.pages s.pool.table.entries s.journal.changed + 1) (sym c.write.ensures.journal.0)
    (marked_more s.journal.pages s.pool.table.entries c.write.new.self.table.entries s.journal.changed c.write.new.journal.changed c.args.page
    c.in_ok-write.ensures.marked)
