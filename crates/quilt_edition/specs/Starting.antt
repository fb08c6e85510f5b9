-- What opening a file as a book finds and leaves.
use Rattle.std.specs.Prelude.{◌≡◌, ℕ, false, List, [], Option, slice_index_or, replicate}
use Rattle.quilt_types.specs.declared.stop.Stop.{Stop}
use Rattle.quilt_types.specs.declared.stop.Stop.TheVariants as stops
use Rattle.quilt_world.specs.Causes.{Rose}
use Rattle.quilt_world.specs.Disk.{Pages}
use Rattle.quilt_world.specs.Home.{home, IsMapFile}
use Rattle.quilt_world.specs.Tale.{Tale, Goes}
use Rattle.quilt_world.specs.declared.disk.Disk as disk
use Rattle.quilt_journal.specs.Kept.{published}
use Rattle.quilt_node.specs.declared.head.Head.{Head}
use Rattle.quilt_node.specs.Pages.{IsHeader}
use Rattle.lru.specs.LruCache.{lru_cache}
use Rattle.quilt_edition.specs.Books.{IsReady, published_free}
use Rattle.quilt_edition.specs.declared.start.Started.{Started}
use Rattle.quilt_edition.specs.declared.start.Started.TheVariants.{Ready, NotMap, Stopped}

-- home page 0 of a file
abbrev pub header_page : ℕ → Pages → List ℕ
header_page pages image = slice_index_or (home image pages) 0 []

-- The file is a map file with a well formed header, and the home pages are as they were.
pub record Opened (pages : ℕ) (last : Head) (old new : Tale) : Type 0 where
  pub file : IsMapFile old.seen pages
  pub same : published new pages ≡ home old.seen pages
  pub header : IsHeader pages (header_page pages old.seen) last

-- The file is a map file, and its header is not well formed.
pub record HasNoHeader (old new : Tale) : Type 0 where
  pub pages : ℕ
  pub file : IsMapFile old.seen pages
  pub none : (h : Head) → IsHeader pages (header_page pages old.seen) h → ⊥

-- The file is no map file: for no number of home pages has it the size and the label of one.
pub record IsNoMapFile (old new : Tale) : Type 0 where
  pub none : (pages : ℕ) → IsMapFile old.seen pages → ⊥

-- when each stop comes
abbrev pub StopCause : Stop → ℕ → ℕ → Option Tale → Option Tale → Type 0
StopCause stops.Device before now old new = Rose before now
StopCause stops.Memory before now old new = Unit {0}
StopCause (stops.Damaged page) before now old new = (page ≡ 0) × Goes HasNoHeader old new

module _ {W : Type 0} {D : disk.Ghosts W} where
  -- the world that each answer holds
  abbrev pub started_world : Started W D → W
  started_world (Ready book) = book.world
  started_world (NotMap world) = world
  started_world (Stopped world stop) = world

  -- when each answer comes, by the faults and the tales before and after
  abbrev pub AnswersBy : ℕ → ℕ → Option Tale → Option Tale → Started W D → Type 0
  AnswersBy before now old new (Ready book) = Goes (Opened book.journal.pages book.last) old new
  AnswersBy before now old new (NotMap world) = Goes IsNoMapFile old new
  AnswersBy before now old new (Stopped world stop) = StopCause stop before now old new

  -- where memory was wanted, no call of the device was made: the world is the one that was handed in
  abbrev pub WantsFirst : W → Started W D → Type 0
  WantsFirst before (Ready book) = Unit {0}
  WantsFirst before (NotMap world) = Unit {0}
  WantsFirst before (Stopped world stop) = stop ≡ stops.Memory → world ≡ before

  -- a book that was just opened: nothing is changed, the work is the last edition, no page is free, and the pool is empty
  abbrev pub Fresh : ℕ → Started W D → Type 0
  Fresh pool (Ready book) = IsReady book × (book.work ≡ book.last) × (book.journal.changed ≡ replicate book.journal.pages false)
      × ((page : ℕ) → published_free book page ≡ false) × (book.pool.table ≡ lru_cache [] pool)
  Fresh pool (NotMap world) = Unit {0}
  Fresh pool (Stopped world stop) = Unit {0}
