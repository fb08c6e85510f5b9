use Rattle.std.proofs.Common.{ℕ, refl, ◌∙◌, ap}
use Rattle.quilt_edition.specs.Keeping.{is_free, is_left_out}
use Rattle.quilt_edition.specs.Laws.{later_same}
use Rattle.lru.specs.LruCache.{LruCache}
use Rattle.quilt_pool.specs.declared.frame.Frame.{Frame}
use Rattle.quilt_pool.specs.Entries.{is_dirty}
use Rattle.quilt_edition.proofs.Tallying.{tally_at, left_tally_at, tally_same, free_complement}
use Rattle.quilt_edition.proofs.Publishing.{none_marked, told_reverted}
use Rattle.quilt_edition.proofs.book.Book.revert.Goals as goal

pub returns-clause-changed : goal.returns-clause-changed
returns-clause-changed g c = none_marked c.args.self.now.journal.pages c.give_up_pages.new.journal.pages c.give_up_pages.new.pool.table.entries
    c.give_up_pages.new.journal.changed c.give_up_pages.ensures.changed (λ i. ap (λ (x : LruCache ℕ Frame). is_dirty x.entries i) c.give_up_pages.ensures.table)

pub returns-clause-told : goal.returns-clause-told
returns-clause-told g c =
    let s = c.args.self.now in
    told_reverted s.journal c.give_up_pages.new.journal s.pool.table.entries c.give_up_pages.new.pool.table.entries s.last
    (g.W.Disk.told s.world) c.requires.ready c.give_up_pages.ensures.same.0 c.give_up_pages.ensures.same.1
    (ap (λ (x : LruCache ℕ Frame). x.entries) c.give_up_pages.ensures.table) s.kept c.give_up_pages.ensures.kept

pub returns-clause-free : goal.returns-clause-free
returns-clause-free g c =
    let s = c.args.self.now in
    let others = c.complement_of-self.result in
    λ page. ap (λ k. is_free k others page) c.give_up_pages.ensures.same.0
    ∙ free_complement s.journal.pages s.most s.used others c.complement_of-self.ensures page

pub invariant_of-self-clause-counted : goal.invariant_of-self-clause-counted
invariant_of-self-clause-counted g c =
    let s = c.args.self.now in
    let n = s.journal.pages in
    let others = c.complement_of-self.result in
    tally_at c.give_up_pages.new.journal.pages n others s.last_tally c.give_up_pages.ensures.same.0
    (tally_same n (is_left_out n s.used) (is_free n others) s.last_tally (free_complement n s.most s.used others c.complement_of-self.ensures) s.last_counted)

pub invariant_of-self-clause-last_counted : goal.invariant_of-self-clause-last_counted
invariant_of-self-clause-last_counted g c =
    let s = c.args.self.now in
    left_tally_at c.give_up_pages.new.journal.pages s.journal.pages s.used s.last_tally c.give_up_pages.ensures.same.0 s.last_counted

pub returns-clause-goes_on : goal.returns-clause-goes_on
returns-clause-goes_on g c =
    (c.give_up_pages.ensures.same.0, c.give_up_pages.ensures.same.1, refl, refl, later_same c.args.self.now.journal.pages (g.W.Disk.told c.args.self.now.world))
