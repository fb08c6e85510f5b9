use Rattle.std.proofs.Common.{◌+◌, ◌*◌, ◌≤◌, ap, subst, refl, sym, ◌∙◌}
use Rattle.quilt_world.proofs.Told.{goes_weaker}
use Rattle.quilt_pool.specs.Entries.{AreBelow}
use Rattle.quilt_edition.specs.Keeping.{marked_count, KeepsPublished}
use Rattle.quilt_edition.specs.Laws.{later_same}
use Rattle.quilt_edition.proofs.Counts.{marked_kept}
use Rattle.quilt_edition.proofs.Steps.{work_idle, of_keeps, later_moves, kept_moves, told_same, told_bytes, key_found, tells_reads}
use Rattle.quilt_edition.proofs.Tallying.{tally_at, left_tally_at}
use Rattle.quilt_node.specs.Pages.{IsHead}
use Rattle.quilt_edition.proofs.book.store.BookPageStore.read.Goals as goal

pub returns-in_default-clause-later : goal.returns-in_default-clause-later
returns-in_default-clause-later g c = (refl, refl, (refl, refl, refl), refl, later_same c.args.self.now.journal.pages (g.W.Disk.told c.args.self.now.world))

pub read-requires-clause-kept : goal.read-requires-clause-kept
read-requires-clause-kept g c =
    let s = c.args.self.now in
    work_idle s.journal s.pool.table.entries s.last _ (sym c.state.ensures ∙ c.in-Idle.is) s.kept

pub invariant_of-self : goal.invariant_of-self
invariant_of-self g c =
    let s = c.args.self.now in
    let j = c.read.new.journal in
    let pages = c.read.ensures.journal.0 in
    record {
      least = subst (λ n. 16 ≤ n) (sym pages) s.least;
      most = subst (λ n. n ≤ 30000) (sym pages) s.most;
      bits = c.read.ensures.journal.2 ∙ s.bits ∙ sym pages;
      size = c.read.ensures.device.size ∙ s.size ∙ ap (λ n. 3 + 2 * n) (sym pages);
      below = subst (λ n. AreBelow n c.read.new.self.table.entries) (sym pages) c.read.ensures.below;
      kept = kept_moves s.journal j s.pool.table.entries c.read.new.self.table.entries s.last (sym c.state.ensures ∙ c.in-Idle.is)
          pages c.read.ensures.journal.1 _ _ s.kept
          (goes_weaker _ (KeepsPublished s.journal.pages c.read.new.self.table.entries c.read.new.journal.changed) _ _ c.read.ensures.kept
          (of_keeps s.journal.pages s.pool.table.entries c.read.new.self.table.entries s.journal.changed c.read.new.journal.changed));
      published = subst (λ n. IsHead n s.last) (sym pages) s.published;
      next = subst (λ n. IsHead n s.work) (sym pages) s.next;
      edition = s.edition;
      level = s.level;
      counted = tally_at c.read.new.journal.pages s.journal.pages s.free s.tally pages s.counted;
      last_counted = left_tally_at c.read.new.journal.pages s.journal.pages s.used s.last_tally pages s.last_counted;
    }

pub returns-in_err-read-clause-later : goal.returns-in_err-read-clause-later
returns-in_err-read-clause-later g c =
    let s = c.args.self.now in (
      c.read.ensures.journal.0,
      c.read.ensures.journal.1,
      (refl, refl, refl),
      c.read.ensures.device.door,
      later_moves s.journal c.read.new.journal s.pool.table.entries c.read.new.self.table.entries s.last (sym c.state.ensures ∙ c.in-Idle.is)
          c.read.ensures.journal.0 c.read.ensures.journal.1 _ _ _ _ (g.met.W.Disk.is_consistent s.world) (g.met.W.Disk.is_consistent c.read.new.disk)
          s.kept (goes_weaker _ (KeepsPublished s.journal.pages c.read.new.self.table.entries c.read.new.journal.changed) _ _ c.read.ensures.kept
          (of_keeps s.journal.pages s.pool.table.entries c.read.new.self.table.entries s.journal.changed c.read.new.journal.changed)),
    )

pub returns-clause-later : goal.returns-clause-later
returns-clause-later g c =
    let s = c.args.self.now in (
      c.read.ensures.journal.0,
      c.read.ensures.journal.1,
      (refl, refl, refl),
      c.read.ensures.device.door,
      later_moves s.journal c.read.new.journal s.pool.table.entries c.read.new.self.table.entries s.last (sym c.state.ensures ∙ c.in-Idle.is)
          c.read.ensures.journal.0 c.read.ensures.journal.1 _ _ _ _ (g.met.W.Disk.is_consistent s.world) (g.met.W.Disk.is_consistent c.read.new.disk)
          s.kept (goes_weaker _ (KeepsPublished s.journal.pages c.read.new.self.table.entries c.read.new.journal.changed) _ _ c.read.ensures.kept
          (of_keeps s.journal.pages s.pool.table.entries c.read.new.self.table.entries s.journal.changed c.read.new.journal.changed)),
    )

pub returns-in_err-read-clause-told : goal.returns-in_err-read-clause-told
returns-in_err-read-clause-told g c =
    let s = c.args.self.now in
    told_same s.journal c.read.new.journal s.pool.table.entries c.read.new.self.table.entries s.last (sym c.state.ensures ∙ c.in-Idle.is)
    c.read.ensures.journal.0 c.read.ensures.journal.1 _ _ c.read.ensures.kept

pub returns-in_err-read-clause-held_is_free : goal.returns-in_err-read-clause-held_is_free
returns-in_err-read-clause-held_is_free g c = λ held. tells_reads _ _ (c.read.ensures.held (key_found c.args.page c.args.self.now.pool.table.entries held))

pub returns-in_err-read-clause-changed : goal.returns-in_err-read-clause-changed
returns-in_err-read-clause-changed g c =
    let s = c.args.self.now in
    subst (λ n. marked_count n c.read.new.self.table.entries c.read.new.journal.changed
    ≤ marked_count s.journal.pages s.pool.table.entries s.journal.changed) (sym c.read.ensures.journal.0)
    (marked_kept s.journal.pages s.pool.table.entries c.read.new.self.table.entries s.journal.changed c.read.new.journal.changed c.read.ensures.marked)

pub returns-clause-told : goal.returns-clause-told
returns-clause-told g c =
    let s = c.args.self.now in
    told_same s.journal c.read.new.journal s.pool.table.entries c.read.new.self.table.entries s.last (sym c.state.ensures ∙ c.in-Idle.is)
    c.read.ensures.journal.0 c.read.ensures.journal.1 _ _ c.read.ensures.kept

pub returns-clause-held_is_free : goal.returns-clause-held_is_free
returns-clause-held_is_free g c = λ held. tells_reads _ _ (c.read.ensures.held (key_found c.args.page c.args.self.now.pool.table.entries held))

pub returns-clause-changed : goal.returns-clause-changed
returns-clause-changed g c =
    let s = c.args.self.now in
    subst (λ n. marked_count n c.read.new.self.table.entries c.read.new.journal.changed
    ≤ marked_count s.journal.pages s.pool.table.entries s.journal.changed) (sym c.read.ensures.journal.0)
    (marked_kept s.journal.pages s.pool.table.entries c.read.new.self.table.entries s.journal.changed c.read.new.journal.changed c.read.ensures.marked)

pub returns-clause-bytes : goal.returns-clause-bytes
returns-clause-bytes g c =
    let s = c.args.self.now in
    told_bytes s.journal s.pool.table.entries c.args.page c.read.new.into _ (sym c.state.ensures ∙ c.in-Idle.is) c.requires.1 c.in_ok-read.ensures.bytes
