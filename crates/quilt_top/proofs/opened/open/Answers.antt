use Rattle.std.proofs.Common.{◌≡◌, ℕ, Option, Some, sym, ap, subst}
use Rattle.lru.specs.LruCache.{LruCache}
use Rattle.quilt_world.specs.Tale.{Tale}
use Rattle.quilt_journal.specs.Kept.{published}
use Rattle.quilt_pool.specs.declared.frame.Frame.{Frame}
use Rattle.quilt_pool.specs.Entries.{is_dirty}
use Rattle.quilt_pool.specs.Views.{entries_of}
use Rattle.quilt_edition.specs.Keeping.{IsKeptBy, told_pages}
use Rattle.quilt_edition.proofs.Publishing.{none_marked}
use Rattle.quilt_top.proofs.openings.Surveys.{told_fresh}
use Rattle.quilt_top.proofs.openings.Found.{none_free, goes_begun, stop_found, not_map_found, book_keeps, book_finds}
use Rattle.quilt_top.proofs.opened.open.Goals as goal

pub begin_on_heap-requires-clause-whole : goal.begin_on_heap-requires-clause-whole
begin_on_heap-requires-clause-whole g c = none_free _ c.requires.new

pub survey_book-requires-clause-unchanged : goal.survey_book-requires-clause-unchanged
survey_book-requires-clause-unchanged g c =
    let book = c.in-Ready.book.value in
    none_marked book.journal.pages book.journal.pages (entries_of book.pool) book.journal.changed c.in-Ready.ensures.fresh.2
    (λ i. ap (λ (x : LruCache ℕ Frame). is_dirty x.entries i) c.in-Ready.ensures.fresh.4)

pub survey_book-requires-clause-pages : goal.survey_book-requires-clause-pages
survey_book-requires-clause-pages g c = λ t is.
    let book = c.in-Ready.book.value in
    let kept = subst (λ (o : Option Tale). IsKeptBy book.journal (entries_of book.pool) book.last o) is book.kept in
    subst (λ (o : Option Tale). told_pages book.journal (entries_of book.pool) o ≡ Some (published t book.journal.pages)) (sym is)
    (told_fresh book.journal (entries_of book.pool) book.last t c.in-Ready.ensures.fresh.0
    (ap (λ (x : LruCache ℕ Frame). x.entries) c.in-Ready.ensures.fresh.4) c.in-Ready.ensures.fresh.2 kept)

pub returns-in-Ready-clause-keeps : goal.returns-in-Ready-clause-keeps
returns-in-Ready-clause-keeps g c =
    let book = c.in-Ready.book.value in
    book_keeps book.journal (entries_of book.pool) book.last c.in-Ready.ensures.fresh.0 _ _ _ _ _ c.requires.new
    (g.met.W.Disk.is_consistent c.args.world) (g.met.W.Disk.is_consistent book.world) book.kept
    c.in-Ready.ensures.crash c.in-Ready.ensures.cause c.survey_book.ensures.tale

pub returns-in-Ready-clause-finds : goal.returns-in-Ready-clause-finds
returns-in-Ready-clause-finds g c =
    let book = c.in-Ready.book.value in
    book_finds book.journal (entries_of book.pool) book.last c.in-Ready.ensures.fresh.0 c.survey_book.result _ _ _ c.requires.new
    (g.met.W.Disk.is_consistent c.args.world) c.in-Ready.ensures.cause c.survey_book.ensures.holds

pub returns-in-NotMap-clause-keeps : goal.returns-in-NotMap-clause-keeps
returns-in-NotMap-clause-keeps g c = goes_begun _ _ _ c.requires.new (g.met.W.Disk.is_consistent c.args.world) c.in-NotMap.ensures.crash

pub returns-in-NotMap-clause-finds : goal.returns-in-NotMap-clause-finds
returns-in-NotMap-clause-finds g c = not_map_found _ _ _ c.requires.new (g.met.W.Disk.is_consistent c.args.world) c.in-NotMap.ensures.cause

pub returns-in-Stopped-clause-keeps : goal.returns-in-Stopped-clause-keeps
returns-in-Stopped-clause-keeps g c = goes_begun _ _ _ c.requires.new (g.met.W.Disk.is_consistent c.args.world) c.in-Stopped.ensures.crash

pub returns-in-Stopped-clause-finds : goal.returns-in-Stopped-clause-finds
returns-in-Stopped-clause-finds g c = stop_found c.in-Stopped.stop _ _ _ _ _ c.requires.new (g.met.W.Disk.is_consistent c.args.world) c.in-Stopped.ensures.cause
