use Rattle.std.proofs.Common.{refl, sym, ◌∙◌, ap}
use Rattle.quilt_store.specs.Store.{count_free}
use Rattle.quilt_edition.specs.Keeping.{is_free, is_left_out}
use Rattle.quilt_edition.specs.Laws.{later_same}
use Rattle.quilt_edition.proofs.Tallying.{tally_counted, tally_same, free_complement}
use Rattle.quilt_edition.proofs.book.Book.set_used.Goals as goal

pub returns-clause-goes_on : goal.returns-clause-goes_on
returns-clause-goes_on g c = (refl, refl, refl, refl, later_same c.args.self.now.journal.pages (g.W.Disk.told c.args.self.now.world))

pub returns-clause-free : goal.returns-clause-free
returns-clause-free g c =
    let s = c.args.self.now in
    free_complement s.journal.pages s.most c.args.used.now c.complement_of-free.result c.complement_of-free.ensures

pub invariant_of-self-clause-counted : goal.invariant_of-self-clause-counted
invariant_of-self-clause-counted g c =
    let n = c.args.self.now.journal.pages in
    let free = c.complement_of-free.result in
    tally_counted n (is_free n free) _ (c.count_free_pages.ensures ∙ ap (λ k. count_free (is_free k free) k) c.pages.ensures.pages) refl refl

pub invariant_of-self-clause-last_counted : goal.invariant_of-self-clause-last_counted
invariant_of-self-clause-last_counted g c =
    let s = c.args.self.now in
    let n = s.journal.pages in
    let free = c.complement_of-free.result in
    tally_same n (is_free n free) (is_left_out n c.args.used.now) _
    (λ i. sym (free_complement n s.most c.args.used.now free c.complement_of-free.ensures i))
    (tally_counted n (is_free n free) _ (c.count_free_pages.ensures ∙ ap (λ k. count_free (is_free k free) k) c.pages.ensures.pages) refl refl)
