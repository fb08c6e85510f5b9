use Rattle.std.proofs.Common.{ℕ, ap}
use Rattle.lru.specs.LruCache.{LruCache}
use Rattle.quilt_pool.specs.declared.frame.Frame.{Frame}
use Rattle.quilt_pool.specs.Entries.{is_dirty}
use Rattle.quilt_pool.specs.Views.{entries_of}
use Rattle.quilt_edition.proofs.Publishing.{none_marked}
use Rattle.quilt_session_tests.proofs.opening.begun.Goals as goal

pub surveyed-requires-clause-unchanged : goal.surveyed-requires-clause-unchanged
surveyed-requires-clause-unchanged c =
    let book = c.in-Ready.book in
    none_marked book.journal.pages book.journal.pages (entries_of book.pool) book.journal.changed c.in-Ready.ensures.fresh.2
    (λ i. ap (λ (x : LruCache ℕ Frame). is_dirty x.entries i) c.in-Ready.ensures.fresh.4)
