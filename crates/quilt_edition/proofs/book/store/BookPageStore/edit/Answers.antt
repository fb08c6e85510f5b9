use Rattle.std.proofs.Common.{◌+◌, ◌*◌, ◌<◌, ◌≤◌, cond, nat_eq, true, Ok, Err, List, ℕ, ap, subst, arith, refl, sym, ◌∙◌}
use Rattle.std.proofs.lemmas.Result.{err_from_is_err_and}
use Rattle.quilt_world.proofs.Told.{goes_weaker}
use Rattle.quilt_pool.specs.Entries.{AreBelow, entry_edited}
use Rattle.quilt_pool.proofs.Lent.{kept_bytes, there_marked, below_marked, goes_marked, bytes_marked, below_edited, goes_edited, marked_edited, keys_edited}
use Rattle.quilt_store.specs.Store.{HasStoreCause, Touches, first_eight}
use Rattle.quilt_edition.specs.Keeping.{marked_count, KeepsPublished, is_free}
use Rattle.quilt_edition.specs.Laws.{later_same}
use Rattle.quilt_edition.proofs.Counts.{marked_kept, marked_more}
use Rattle.quilt_edition.proofs.Lent.{memory_cause, cause_err, cause_ok, reads_same, reads_same_more, reads_more}
use Rattle.quilt_edition.proofs.Steps.{work_idle, of_keeps, of_changes, later_moves, kept_moves, told_same, told_set, told_bytes, key_found, tells_reads}
use Rattle.quilt_edition.proofs.Tallying.{tally_at, left_tally_at}
use Rattle.quilt_node.specs.Pages.{IsHead}
use Rattle.quilt_edition.proofs.book.store.BookPageStore.edit.Goals as goal

pub bring-requires-clause-kept : goal.bring-requires-clause-kept
bring-requires-clause-kept g c =
    let s = c.args.self.now in
    work_idle s.journal s.pool.table.entries s.last _ (sym c.state.ensures ∙ c.in-Idle.is) s.kept

pub invariant_of-self : goal.invariant_of-self
invariant_of-self g c =
    let s = c.args.self.now in
    let j = c.bring.new.journal in
    let pages = c.bring.ensures.journal.0 in
    record {
      least = subst (λ n. 16 ≤ n) (sym pages) s.least;
      most = subst (λ n. n ≤ 30000) (sym pages) s.most;
      bits = c.bring.ensures.journal.2 ∙ s.bits ∙ sym pages;
      size = c.bring.ensures.device.size ∙ s.size ∙ ap (λ n. 3 + 2 * n) (sym pages);
      below = subst (λ n. AreBelow n c.bring.new.self.table.entries) (sym pages) c.bring.ensures.below;
      kept = kept_moves s.journal j s.pool.table.entries c.bring.new.self.table.entries s.last (sym c.state.ensures ∙ c.in-Idle.is)
          pages c.bring.ensures.journal.1 _ _ s.kept
          (goes_weaker _ (KeepsPublished s.journal.pages c.bring.new.self.table.entries c.bring.new.journal.changed) _ _ c.bring.ensures.kept
          (of_keeps s.journal.pages s.pool.table.entries c.bring.new.self.table.entries s.journal.changed c.bring.new.journal.changed));
      published = subst (λ n. IsHead n s.last) (sym pages) s.published;
      next = subst (λ n. IsHead n s.work) (sym pages) s.next;
      edition = s.edition;
      level = s.level;
      counted = tally_at c.bring.new.journal.pages s.journal.pages s.free s.tally pages s.counted;
      last_counted = left_tally_at c.bring.new.journal.pages s.journal.pages s.used s.last_tally pages s.last_counted;
    }

pub invariant_of-self-2 : goal.invariant_of-self-2
invariant_of-self-2 g c =
    let s = c.args.self.now in
    let j = c.bring.new.journal in
    let t = c.bring.new.self.table in
    let u = c.mark.new.self.table in
    let there = c.in_ok-bring.ensures.there in
    let marked = c.mark.ensures.marked in
    let bytes = kept_bytes t u c.args.page there marked in
    let pages = c.bring.ensures.journal.0 in
    record {
      least = subst (λ n. 16 ≤ n) (sym pages) s.least;
      most = subst (λ n. n ≤ 30000) (sym pages) s.most;
      bits = c.bring.ensures.journal.2 ∙ s.bits ∙ sym pages;
      size = c.bring.ensures.device.size ∙ s.size ∙ ap (λ n. 3 + 2 * n) (sym pages);
      below = below_marked t u c.args.page there marked j.pages (c.requires.page.0, subst (λ n. c.args.page < n) (sym pages) c.requires.page.1)
          (subst (λ n. AreBelow n t.entries) (sym pages) c.bring.ensures.below);
      kept = kept_moves s.journal j s.pool.table.entries u.entries s.last (sym c.state.ensures ∙ c.in-Idle.is)
          pages c.bring.ensures.journal.1 _ _ s.kept
          (goes_weaker _ (KeepsPublished s.journal.pages u.entries j.changed) _ _
          (goes_marked t u c.args.page there marked s.journal.pages s.pool.table.entries s.journal.changed j.changed _ _ c.bring.ensures.kept)
          (of_changes s.journal.pages c.args.page bytes s.pool.table.entries u.entries s.journal.changed j.changed));
      published = subst (λ n. IsHead n s.last) (sym pages) s.published;
      next = subst (λ n. IsHead n s.work) (sym pages) s.next;
      edition = s.edition;
      level = s.level;
      counted = tally_at j.pages s.journal.pages s.free s.tally pages s.counted;
      last_counted = left_tally_at j.pages s.journal.pages s.used s.last_tally pages s.last_counted;
    }

pub lend-requires : goal.lend-requires
lend-requires g c = record {
  there = there_marked c.bring.new.self.table c.mark.new.self.table c.args.page c.in_ok-bring.ensures.there c.mark.ensures.marked;
}

pub returns-in_default : goal.returns-in_default
returns-in_default g c =
    let s = c.args.self.now in (
      (
        refl,
        (λ w ok. absurd cc),
        (
          memory_cause _,
          (refl, refl, (refl, refl, refl), refl, later_same s.journal.pages (g.W.Disk.told s.world)),
          refl,
          refl,
          refl,
          omega arith,
        ),
      ),
      record { bytes = tt; writes_back = tt },
    )

pub returns-in_err-bring : goal.returns-in_err-bring
returns-in_err-bring g c =
    let p = err_from_is_err_and c.from_residual.result c.from_residual.ensures.1 in
    rw (p.1, p.2) (let s = c.args.self.now in
    let j = c.bring.new.journal in
    let idle = sym c.state.ensures ∙ c.in-Idle.is in (
      (
        refl,
        (λ w ok. absurd cc),
        (
          cause_err _ _ _ _ c.in_err-bring.was c.bring.ensures.cause,
          (
            c.bring.ensures.journal.0,
            c.bring.ensures.journal.1,
            (refl, refl, refl),
            c.bring.ensures.device.door,
            later_moves s.journal j s.pool.table.entries c.bring.new.self.table.entries s.last idle c.bring.ensures.journal.0
                c.bring.ensures.journal.1 _ _ _ _ (g.met.W.Disk.is_consistent s.world) (g.met.W.Disk.is_consistent c.bring.new.disk) s.kept
                (goes_weaker _ (KeepsPublished s.journal.pages c.bring.new.self.table.entries j.changed) _ _ c.bring.ensures.kept
                (of_keeps s.journal.pages s.pool.table.entries c.bring.new.self.table.entries s.journal.changed j.changed)),
          ),
          c.bring.ensures.journal.0,
          ap (λ n. is_free n s.free) c.bring.ensures.journal.0,
          told_same s.journal j s.pool.table.entries c.bring.new.self.table.entries s.last idle c.bring.ensures.journal.0 c.bring.ensures.journal.1 _ _
              c.bring.ensures.kept,
          subst (λ n. marked_count n c.bring.new.self.table.entries j.changed ≤ marked_count s.journal.pages s.pool.table.entries s.journal.changed)
              (sym c.bring.ensures.journal.0)
              (marked_kept s.journal.pages s.pool.table.entries c.bring.new.self.table.entries s.journal.changed j.changed c.bring.ensures.marked),
        ),
      ),
      record { bytes = tt; writes_back = tt },
    ))

pub returns : goal.returns
returns g c =
    let s = c.args.self.now in
    let j = c.bring.new.journal in
    let idle = sym c.state.ensures ∙ c.in-Idle.is in
    let es = c.bring.new.self.table.entries in
    let ms = c.mark.new.self.table.entries in (
      (
        refl,
        (λ w ok. (
          c.bring.ensures.cause.later,
          (
            c.bring.ensures.journal.0,
            c.bring.ensures.journal.1,
            (refl, refl, refl),
            c.bring.ensures.device.door,
            later_moves s.journal j s.pool.table.entries c.bring.new.self.table.entries s.last idle c.bring.ensures.journal.0
                c.bring.ensures.journal.1 _ _ _ _ (g.met.W.Disk.is_consistent s.world) (g.met.W.Disk.is_consistent c.bring.new.disk) s.kept
                (goes_weaker _ (KeepsPublished s.journal.pages c.bring.new.self.table.entries j.changed) _ _ c.bring.ensures.kept
                (of_keeps s.journal.pages s.pool.table.entries c.bring.new.self.table.entries s.journal.changed j.changed)),
          ),
          c.bring.ensures.journal.0,
          ap (λ n. is_free n s.free) c.bring.ensures.journal.0,
          told_set s.journal j s.pool.table.entries (entry_edited ms c.args.page w) s.last idle c.bring.ensures.journal.0 c.bring.ensures.journal.1
              c.args.page w _ _ c.requires.page.1
              (goes_edited c.bring.new.self.table c.mark.new.self.table c.args.page c.in_ok-bring.ensures.there c.mark.ensures.marked w s.journal.pages s.pool.table.entries s.journal.changed j.changed _ _ c.bring.ensures.kept),
          ap first_eight (keys_edited c.bring.new.self.table c.mark.new.self.table c.args.page c.in_ok-bring.ensures.there c.mark.ensures.marked w) ∙ c.in_ok-bring.ensures.touched,
          reads_more _ _ c.bring.ensures.reads,
          subst (λ n. marked_count n (entry_edited ms c.args.page w) j.changed ≤ marked_count s.journal.pages s.pool.table.entries s.journal.changed + 1)
              (sym c.bring.ensures.journal.0)
              (marked_more s.journal.pages s.pool.table.entries (entry_edited ms c.args.page w) s.journal.changed j.changed c.args.page
              (λ i. marked_edited c.bring.new.self.table c.mark.new.self.table c.args.page c.in_ok-bring.ensures.there c.mark.ensures.marked w j.changed i
              ∙ ap (λ b. cond (nat_eq i c.args.page) true b) (c.bring.ensures.marked i))),
        )),
        tt,
      ),
      record {
        bytes = rw (
          c.lend.ensures.bytes,
          bytes_marked c.bring.new.self.table c.mark.new.self.table c.args.page c.in_ok-bring.ensures.there c.mark.ensures.marked,
        ) (told_bytes s.journal s.pool.table.entries c.args.page _ _ idle c.requires.page.1 c.in_ok-bring.ensures.bytes);
        writes_back = tt;
      },
    )

pub invariant_of-self-lent : goal.invariant_of-self-lent
invariant_of-self-lent g c = λ w.
    let s = c.args.self.now in
    let j = c.bring.new.journal in
    let idle = sym c.state.ensures ∙ c.in-Idle.is in
    let pages = c.bring.ensures.journal.0 in
    let es = c.bring.new.self.table.entries in
    let ms = c.mark.new.self.table.entries in (
      subst (λ n. 16 ≤ n) (sym pages) s.least,
      (
        subst (λ n. n ≤ 30000) (sym pages) s.most,
        (
          c.bring.ensures.journal.2 ∙ s.bits ∙ sym pages,
          (
            c.bring.ensures.device.size ∙ s.size ∙ ap (λ n. 3 + 2 * n) (sym pages),
            (
              below_edited c.bring.new.self.table c.mark.new.self.table c.args.page c.in_ok-bring.ensures.there c.mark.ensures.marked w j.pages
                  (c.requires.page.0, subst (λ n. c.args.page < n) (sym pages) c.requires.page.1)
                  (subst (λ n. AreBelow n es) (sym pages) c.bring.ensures.below),
              (
                kept_moves s.journal j s.pool.table.entries (entry_edited ms c.args.page w) s.last idle pages c.bring.ensures.journal.1 _ _ s.kept
                    (goes_weaker _ (KeepsPublished s.journal.pages (entry_edited ms c.args.page w) j.changed) _ _
                    (goes_edited c.bring.new.self.table c.mark.new.self.table c.args.page c.in_ok-bring.ensures.there c.mark.ensures.marked w s.journal.pages s.pool.table.entries s.journal.changed j.changed _ _ c.bring.ensures.kept)
                    (of_changes s.journal.pages c.args.page w s.pool.table.entries (entry_edited ms c.args.page w) s.journal.changed j.changed)),
                (
                  subst (λ n. IsHead n s.last) (sym pages) s.published,
                  (
                    subst (λ n. IsHead n s.work) (sym pages) s.next,
                    (
                      s.edition,
                      (
                        s.level,
                        (
                          tally_at j.pages s.journal.pages s.free s.tally pages s.counted,
                          (left_tally_at j.pages s.journal.pages s.used s.last_tally pages s.last_counted, tt),
                        ),
                      ),
                    ),
                  ),
                ),
              ),
            ),
          ),
        ),
      ),
    )
