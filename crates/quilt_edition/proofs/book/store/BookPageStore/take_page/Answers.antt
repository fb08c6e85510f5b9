use Rattle.std.proofs.Common.{false, ap, refl, sym, ◌∙◌, subst}
use Rattle.quilt_store.specs.Store.{FreesOnly}
use Rattle.quilt_edition.specs.Keeping.{is_free}
use Rattle.quilt_edition.specs.Laws.{later_same}
use Rattle.quilt_edition.proofs.Tallying.{tally_at}
use Rattle.quilt_edition.proofs.book.store.BookPageStore.take_page.Goals as goal

pub take_free-requires-clause-tally : goal.take_free-requires-clause-tally
take_free-requires-clause-tally g c =
    let s = c.args.self.now in
    tally_at c.pages-pages.result s.journal.pages s.free s.tally c.pages-pages.ensures.pages s.counted

pub invariant_of-self-clause-counted : goal.invariant_of-self-clause-counted
invariant_of-self-clause-counted g c =
    tally_at c.args.self.now.journal.pages c.pages-pages.result c.take_free.new.free c.take_free.new.tally (sym c.pages-pages.ensures.pages) c.take_free.ensures.tally

pub returns-clause-page : goal.returns-clause-page
returns-clause-page g c = ap (λ n. is_free n c.args.self.now.free c.take_free.result) (sym c.pages-pages.ensures.pages) ∙ c.take_free.ensures.page

pub returns-clause-free : goal.returns-clause-free
returns-clause-free g c =
    subst (λ n. FreesOnly c.take_free.result false (is_free n c.args.self.now.free) (is_free n c.take_free.new.free)) c.pages-pages.ensures.pages
    c.take_free.ensures.free

pub returns-clause-later : goal.returns-clause-later
returns-clause-later g c = (refl, refl, (refl, refl, refl), refl, later_same c.args.self.now.journal.pages (g.W.Disk.told c.args.self.now.world))
