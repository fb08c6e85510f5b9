-- What a book keeps where its world tells its tale, and what lasts over its calls.
use Rattle.std.proofs.Common.{◌≡◌, ℕ, List, Option, Some, sym, ◌∙◌, ap, subst, arith}
use Rattle.quilt_types.specs.Layers.{Edition}
use Rattle.quilt_world.specs.Disk.{Pages}
use Rattle.quilt_world.specs.Home.{home, page_of}
use Rattle.quilt_world.specs.Stops.{LeavesNow}
use Rattle.quilt_world.specs.Tale.{Tale, IsConsistent}
use Rattle.quilt_world.specs.declared.disk.Disk as disk
use Rattle.quilt_world.proofs.PageLaws.{seen_left}
use Rattle.quilt_journal.specs.Kept.{HasHome, published}
use Rattle.quilt_journal.proofs.Homes.{published_at}
use Rattle.quilt_journal.proofs.Leaving.{idle_leaves}
use Rattle.quilt_record.specs.declared.entry.Entry.{Entry}
use Rattle.quilt_node.specs.Pages.{IsHeader}
use Rattle.quilt_pool.specs.Views.{entries_of}
use Rattle.quilt_edition.specs.declared.book.Book.{Book}
use Rattle.quilt_edition.specs.Books as books
use Rattle.quilt_edition.specs.Keeping.{IsBook, IsKeptBy, IsLater}
use Rattle.quilt_edition.specs.Stands.{Stands}
use Rattle.quilt_edition.proofs.Steps.{kept_idle, seen_home}
use Rattle.quilt_map.specs.Sessions.{IsPublishedAs}
use Rattle.quilt_map.proofs.states.Holding.{stands_with}

module _ {W : Type 0} {D : disk.Ghosts W} where
  module _ (b : Book W D) (t : Tale) (told : D.told b.world ≡ Some t) (ready : books.IsReady b) where
    pub book_idle : IsBook b.journal (entries_of b.pool) b.last t
    book_idle =
        kept_idle b.journal (entries_of b.pool) b.last (Some t) ready (subst (λ (o : Option Tale). IsKeptBy b.journal (entries_of b.pool) b.last o) told b.kept)

    -- each image that a stop may leave has the published pages
    pub book_leaves : LeavesNow t (HasHome b.journal.pages (published t b.journal.pages))
    book_leaves = idle_leaves b.journal.pages b.journal.changed t book_idle.work.idle

    -- and so does the file as it reads
    pub book_seen : IsConsistent t → HasHome b.journal.pages (published t b.journal.pages) t.seen
    book_seen law = book_leaves t.seen (seen_left t.start t.log t.seen law.size (λ i bytes lt e. law.last i bytes lt e))

    pub book_header : IsHeader b.journal.pages (page_of (published t b.journal.pages) 0) b.last
    book_header =
        subst (λ (bytes : List ℕ). IsHeader b.journal.pages bytes b.last) (sym (published_at t b.journal.pages 0 (omega (arith, b.least)))) book_idle.header

    -- an image with the published pages stands for the edition that they hold
    pub book_stands : (entries : List Entry) (e : Edition) (image : Pages) → IsPublishedAs b t entries e
        → HasHome b.journal.pages (published t b.journal.pages) image → Stands image e
    book_stands entries e image holds has =
        stands_with b.journal.pages (published t b.journal.pages) image (books.published_free b) b.last entries e book_header holds.head holds.spelled has

  -- the published pages are the same as a book goes on
  pub published_on : (a b : Book W D) (t u : Tale) → D.told a.world ≡ Some t → D.told b.world ≡ Some u → books.IsReady a → books.IsReady b
      → IsConsistent t → IsConsistent u
      → b.journal.pages ≡ a.journal.pages → IsLater a.journal.pages t u → published u b.journal.pages ≡ published t a.journal.pages
  published_on a b t u ta tb ra rb lt lu size later =
      let before = seen_home a.journal.pages a.journal.changed t lt (book_idle a t ta ra).work.idle in
      let after = seen_home b.journal.pages b.journal.changed u lu (book_idle b u tb rb).work.idle in
      sym after ∙ ap (λ n. home u.seen n) size ∙ later.same ∙ before
