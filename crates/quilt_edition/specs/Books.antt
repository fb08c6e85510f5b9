-- What contracts see of a book.
use Rattle.std.specs.Prelude.{◌≡◌, ℕ, ◌+◌, Bool}
use Rattle.quilt_world.specs.Tale.{Tale, Goes}
use Rattle.quilt_world.specs.declared.disk.Disk as disk
use Rattle.quilt_journal.specs.declared.journal.State.TheVariants.{Idle}
use Rattle.quilt_node.specs.declared.head.Head.{Head}
use Rattle.quilt_node.specs.Pages.{header_bytes}
use Rattle.quilt_edition.specs.Keeping.{is_left_out, IsLater}
use Rattle.quilt_edition.specs.Publishing.{Publishing, IsPublished}
use Rattle.quilt_edition.specs.declared.book.Book.{Book}

module _ {W : Type 0} {D : disk.Ghosts W} where
  -- the world whose disk holds the book's file
  abbrev pub world_of : Book W D → W
  world_of b = b.world

  -- the number of home pages
  abbrev pub pages_of : Book W D → ℕ
  pages_of b = b.journal.pages

  -- what the header of the last edition says
  abbrev pub last_of : Book W D → Head
  last_of b = b.last

  -- the header of the work: its format, level, root, height and number of records, under the number of the last edition
  abbrev pub work_of : Book W D → Head
  work_of b = b.work

  -- the header of the next edition
  abbrev pub next_of : Book W D → Head
  next_of b = record b.work { edition = b.last.edition + 1 }

  -- which pages are free in the last edition
  abbrev pub published_free : Book W D → ℕ → Bool
  published_free b = is_left_out b.journal.pages b.used

  -- no publish has failed behind its first write
  abbrev pub IsReady : Book W D → Type 0
  IsReady b = b.journal.state ≡ Idle

  -- It goes on over the same edition: its size, the journal's state, the last edition's header and the door are the same, and the log goes on with
  -- writes that leave the published pages.
  abbrev pub GoesOn : Book W D → Book W D → Type 0
  GoesOn a b = (b.journal.pages ≡ a.journal.pages) × (b.journal.state ≡ a.journal.state) × (b.last ≡ a.last) × (D.door b.world ≡ D.door a.world)
      × Goes (IsLater a.journal.pages) (D.told a.world) (D.told b.world)

  -- a stop leaves the published pages, or the work's under the next header
  abbrev pub Publishes : Book W D → Tale → Tale → Type 0
  Publishes b = Publishing b.journal.pages b.pool.table.entries b.journal.changed (header_bytes (record b.work { edition = b.last.edition + 1 }))

  -- the latter, which are the published pages of the new book
  abbrev pub HasPublished : Book W D → Book W D → Tale → Tale → Type 0
  HasPublished b c =
      IsPublished b.journal.pages b.pool.table.entries b.journal.changed (header_bytes (record b.work { edition = b.last.edition + 1 })) c.pool.table.entries

  -- all but the world is as before
  pub record SameBut (old new : Book W D) : Type 0 where
    pub journal : new.journal ≡ old.journal
    pub pool : new.pool ≡ old.pool
    pub last : new.last ≡ old.last
    pub work : new.work ≡ old.work
    pub used : new.used ≡ old.used
    pub free : new.free ≡ old.free
    pub tally : new.tally ≡ old.tally
    pub last_tally : new.last_tally ≡ old.last_tally
