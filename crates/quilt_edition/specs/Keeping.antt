-- What a book keeps of its disk, and what it tells of it.
use Rattle.std.specs.Prelude.{◌≡◌, ℕ, Bool, List, map, length, Option, Some, None, ◌&&◌, nat_le, nat_lt, filter, not}
use Rattle.quilt_types.specs.Plane.{below}
use Rattle.quilt_world.specs.Disk.{Pages}
use Rattle.quilt_world.specs.Home.{home}
use Rattle.quilt_world.specs.Stops.{Since, LeavesNow}
use Rattle.quilt_world.specs.Tale.{Tale}
use Rattle.quilt_journal.specs.Changed.{View, has_bit}
use Rattle.quilt_journal.specs.Kept.{HasHome, work, home_page, published}
use Rattle.quilt_journal.specs.declared.journal.State.{State}
use Rattle.quilt_journal.specs.declared.journal.State.TheVariants.{Idle, Sealed, Carried}
use Rattle.quilt_node.specs.declared.head.Head.{Head}
use Rattle.quilt_node.specs.Pages.{IsHeader}
use Rattle.quilt_pool.specs.Entries.{Entries, page_over, is_marked}
use Rattle.quilt_pool.specs.Keeping.{IsWork, Tries}

-- ---- what is kept

-- The gate is closed, each entry that is not dirty has the bytes of the work, and the published header has these numbers.
pub record IsBook (j : View) (es : Entries) (last : Head) (t : Tale) : Type 0 where
  pub work : IsWork j.pages es j.changed t
  pub header : IsHeader j.pages (home_page t 0) last

-- a book whose publish failed behind its first write keeps nothing
abbrev pub WhileIdle : State → Type 0 → Type 0
WhileIdle Idle P = P
WhileIdle Sealed P = Unit {0}
WhileIdle Carried P = Unit {0}

-- what an idle book keeps of a world that tells; nothing where it does not tell, or a publish failed behind its first write
abbrev pub IsKeptBy : View → Entries → Head → Option Tale → Type 0
IsKeptBy j es last (Some t) = WhileIdle j.state (IsBook j es last t)
IsKeptBy j es last None = Unit {0}

-- ---- what is told

-- the pages of the work: the pool's entries over the changed pages over the published ones
unfoldable pub work_pages : View → Entries → Tale → Pages
work_pages j es t = map (page_over es (work t j.pages j.changed)) (below j.pages)

-- the pages of the work, where the journal is idle; none behind a publish that failed
abbrev pub told_in : State → Pages → Option Pages
told_in Idle pages = Some pages
told_in Sealed pages = None
told_in Carried pages = None

-- the pages that a book tells as a store: those of the work, where the world tells and the journal is idle
abbrev pub told_pages : View → Entries → Option Tale → Option Pages
told_pages j es (Some t) = told_in j.state (work_pages j es t)
told_pages j es None = None

-- how many pages a world has read, where it tells
abbrev pub tale_reads : Option Tale → Option ℕ
tale_reads (Some t) = Some t.reads
tale_reads None = None

-- which pages are free
abbrev pub is_free : ℕ → List ℕ → ℕ → Bool
is_free n bits page = (nat_le 1 page && nat_lt page n) && has_bit bits page

-- which pages from 1 on these bits leave out
abbrev pub is_left_out : ℕ → List ℕ → ℕ → Bool
is_left_out n bits page = (nat_le 1 page && nat_lt page n) && not (has_bit bits page)

-- how many pages are dirty in the pool or changed in the journal
unfoldable pub marked_count : ℕ → Entries → List Bool → ℕ
marked_count n es changed = length (filter (is_marked es changed) (below n))

-- ---- how the disk goes on

-- Writes alone are added, the file reads as it did, and where a stop leaves its home pages before, it does so at each event since.
pub record IsLater (n : ℕ) (old new : Tale) : Type 0 where
  pub tries : Tries old new
  pub same : home new.seen n ≡ home old.seen n
  pub stays : LeavesNow old (HasHome n (home old.seen n)) → Since old new (HasHome n (home old.seen n))

-- The journal and the entries stand as they have to, the published pages are the same, and a stop leaves them at each event.
pub record KeepsPublished (n : ℕ) (es : Entries) (changed : List Bool) (old new : Tale) : Type 0 where
  pub is : IsWork n es changed new
  pub home : published new n ≡ published old n
  pub tries : Tries old new
  pub since : Since old new (HasHome n (published old n))
