use Rattle.std.proofs.Common.{◌+◌, ◌*◌, ◌≤◌, false, true, inr, length, refl, sym, ◌∙◌, ap, subst, arith}
use Rattle.std.proofs.Math.ListN.{length-set}
use Rattle.quilt_pool.proofs.Touching.{keys_removed}
use Rattle.quilt_edition.specs.Laws.{later_same}
use Rattle.quilt_store.specs.Store.{FreesOnly}
use Rattle.quilt_edition.specs.Keeping.{is_free}
use Rattle.quilt_edition.proofs.Giving.{kept_busy, told_busy, below_gone, kept_given, told_given, marked_given, marked_dropped}
use Rattle.quilt_edition.proofs.Tallying.{tally_at, left_tally_at}
use Rattle.quilt_node.specs.Pages.{IsHead}
use Rattle.quilt_edition.proofs.book.store.BookPageStore.give_page.Goals as goal

pub invariant_of-self : goal.invariant_of-self
invariant_of-self g c =
    let s = c.args.self.now in
    let es = s.pool.table.entries in
    record {
      least = s.least;
      most = s.most;
      bits = s.bits;
      size = s.size;
      below = rw c.discard.ensures.table (below_gone es c.args.page s.pool.distinct s.journal.pages s.below);
      kept = kept_busy s.journal s.journal es c.discard.new.self.table.entries s.last (λ is. c.in_default.not-Idle (c.state.ensures ∙ is)) refl
          (g.W.Disk.told s.world);
      published = s.published;
      next = s.next;
      edition = s.edition;
      level = s.level;
      counted = tally_at s.journal.pages c.pages-pages.result c.give_free.new.free c.give_free.new.tally (sym c.pages-pages.ensures.pages) c.give_free.ensures.tally;
      last_counted = s.last_counted;
    }

pub returns-in_default-clause-later : goal.returns-in_default-clause-later
returns-in_default-clause-later g c = (refl, refl, (refl, refl, refl), refl, later_same c.args.self.now.journal.pages (g.W.Disk.told c.args.self.now.world))

pub give_free-requires-clause-tally : goal.give_free-requires-clause-tally
give_free-requires-clause-tally g c =
    let s = c.args.self.now in
    tally_at c.pages-pages.result s.journal.pages s.free s.tally c.pages-pages.ensures.pages s.counted

pub give_free-requires-clause-taken : goal.give_free-requires-clause-taken
give_free-requires-clause-taken g c = ap (λ n. is_free n c.args.self.now.free c.args.page) c.pages-pages.ensures.pages ∙ c.requires.taken

pub returns-in_default-clause-free : goal.returns-in_default-clause-free
returns-in_default-clause-free g c =
    subst (λ n. FreesOnly c.args.page true (is_free n c.args.self.now.free) (is_free n c.give_free.new.free)) c.pages-pages.ensures.pages c.give_free.ensures.free

pub returns-clause-free : goal.returns-clause-free
returns-clause-free g c =
    let s = c.args.self.now in
    let only =
    subst (λ n. FreesOnly c.args.page true (is_free n s.free) (is_free n c.give_free.new.free)) c.pages-pages.ensures.pages c.give_free.ensures.free in
    subst (λ n. FreesOnly c.args.page true (is_free s.journal.pages s.free) (is_free n c.give_free.new.free)) (sym c.clear.ensures.same.0) only

pub returns-in_default-clause-told : goal.returns-in_default-clause-told
returns-in_default-clause-told g c =
    let s = c.args.self.now in
    told_busy s.journal s.journal s.pool.table.entries c.discard.new.self.table.entries s.last (λ is. c.in_default.not-Idle (c.state.ensures ∙ is))
    refl _ (g.W.Disk.told s.world)

pub returns-in_default-clause-held : goal.returns-in_default-clause-held
returns-in_default-clause-held g c =
    rw c.discard.ensures.table (inr (keys_removed c.args.page c.args.self.now.pool.table.entries c.args.self.now.pool.distinct))

pub returns-in_default-clause-changed : goal.returns-in_default-clause-changed
returns-in_default-clause-changed g c = rw c.discard.ensures.table
    (marked_dropped c.args.self.now.pool.table.entries c.args.page c.args.self.now.pool.distinct c.args.self.now.journal.pages c.args.self.now.journal.changed)

pub invariant_of-self-2 : goal.invariant_of-self-2
invariant_of-self-2 g c =
    let s = c.args.self.now in
    let es = s.pool.table.entries in
    let pages = c.clear.ensures.same.0 in
    record {
      least = subst (λ n. 16 ≤ n) (sym pages) s.least;
      most = subst (λ n. n ≤ 30000) (sym pages) s.most;
      bits = ap length c.clear.ensures.changed ∙ length-set s.journal.changed c.args.page false ∙ s.bits ∙ sym pages;
      size = s.size ∙ ap (λ n. 3 + 2 * n) (sym pages);
      below = rw (c.discard.ensures.table, pages) (below_gone es c.args.page s.pool.distinct s.journal.pages s.below);
      kept =
          rw c.discard.ensures.table
          (kept_given s.journal c.clear.new.self es s.last c.args.page (sym c.state.ensures ∙ c.in-Idle.is)
          pages c.clear.ensures.same.1 c.clear.ensures.changed s.pool.distinct c.clear.ensures.kept (g.W.Disk.told s.world) s.kept);
      published = subst (λ n. IsHead n s.last) (sym pages) s.published;
      next = subst (λ n. IsHead n s.work) (sym pages) s.next;
      edition = s.edition;
      level = s.level;
      counted =
          tally_at c.clear.new.self.pages c.pages-pages.result c.give_free.new.free c.give_free.new.tally (pages ∙ sym c.pages-pages.ensures.pages)
          c.give_free.ensures.tally;
      last_counted = left_tally_at c.clear.new.self.pages s.journal.pages s.used s.last_tally pages s.last_counted;
    }

pub returns-clause-later : goal.returns-clause-later
returns-clause-later g c =
    (c.clear.ensures.same.0, c.clear.ensures.same.1, (refl, refl, refl), refl, later_same c.args.self.now.journal.pages (g.W.Disk.told c.args.self.now.world))

pub returns-clause-told : goal.returns-clause-told
returns-clause-told g c =
    let s = c.args.self.now in
    rw c.discard.ensures.table
    (told_given s.journal c.clear.new.self s.pool.table.entries s.last c.args.page (sym c.state.ensures ∙ c.in-Idle.is)
    c.clear.ensures.same.0 c.clear.ensures.same.1 c.clear.ensures.changed s.pool.distinct c.clear.ensures.kept (g.W.Disk.told s.world) s.kept)

pub returns-clause-held : goal.returns-clause-held
returns-clause-held g c = rw c.discard.ensures.table (inr (keys_removed c.args.page c.args.self.now.pool.table.entries c.args.self.now.pool.distinct))

pub returns-clause-changed : goal.returns-clause-changed
returns-clause-changed g c =
    let s = c.args.self.now in
    rw c.discard.ensures.table
    (marked_given s.journal c.clear.new.self s.pool.table.entries s.last c.args.page (sym c.state.ensures ∙ c.in-Idle.is)
    c.clear.ensures.same.0 c.clear.ensures.same.1 c.clear.ensures.changed s.pool.distinct c.clear.ensures.kept (omega (arith, s.bits, c.requires.page)))
