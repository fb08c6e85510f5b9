-- What contracts see of a session.
use Rattle.std.specs.Prelude.{◌≡◌, ◌⊎◌, ℕ, ◌-◌, ◌*◌, ◌^◌, ◌≤◌, Bool, List, Option, Some, map, All, nat_eq}
use Rattle.std.specs.List.{IsDistinct}
use Rattle.std.specs.Map.{keys_of}
use Rattle.quilt_types.specs.declared.plane.Kind.{Kind}
use Rattle.quilt_types.specs.declared.plane.Kind.TheVariants as kinds
use Rattle.quilt_types.specs.declared.plane.Pixel.{Pixel}
use Rattle.quilt_types.specs.Facts.{quota}
use Rattle.quilt_types.specs.Layers.{Map, Edition}
use Rattle.quilt_world.specs.Disk.{Pages}
use Rattle.quilt_world.specs.Tale.{Tale, IsConsistent, Goes}
use Rattle.quilt_world.specs.declared.disk.Disk as disk
use Rattle.quilt_journal.specs.Kept.{published}
use Rattle.quilt_record.specs.declared.entry.Entry.{Entry}
use Rattle.quilt_record.specs.declared.record.Record.{Record}
use Rattle.quilt_record.specs.Records.{Numbering}
use Rattle.quilt_node.specs.declared.head.Head.{Head}
use Rattle.quilt_btree.specs.declared.tree.Tree.{Tree}
use Rattle.quilt_btree.specs.Edits.{IsWhole}
use Rattle.quilt_btree.specs.Floors.{floor_pages, AreAmongFirst}
use Rattle.quilt_btree.specs.Trees.{IsTree}
use Rattle.quilt_region.specs.Regions.{pixel_key}
use Rattle.quilt_spell.specs.Written.{number_of}
use Rattle.quilt_spell.specs.Spelled.{SpellsUnder}
use Rattle.quilt_spell.specs.Catalogued.{IsCatalogOf}
use Rattle.quilt_edition.specs.declared.book.Book.{Book}
use Rattle.quilt_edition.specs.Books as books
use Rattle.quilt_edition.specs.Keeping.{told_pages, is_free, marked_count, IsLater}
use Rattle.quilt_edition.specs.Keeping.{tale_reads as disk_reads}
use Rattle.quilt_pool.specs.Views.{entries_of}
use Rattle.quilt_replies.specs.Answers.{State}
use Rattle.quilt_map.specs.declared.session.Session.{Session}

-- a capacity is 1 to 16, and a threshold is 1 to 32
abbrev pub KindInRange : Kind → Type 0
KindInRange kinds.Region = Unit {0}
KindInRange (kinds.Points bucket) = (1 ≤ bucket) × (bucket ≤ 16)
KindInRange (kinds.Lines threshold) = (1 ≤ threshold) × (threshold ≤ 32)

-- The numbers of a catalog's entries are from 1 to 255 and differ, each capacity is 1 to 16, and each threshold 1 to 32.
pub record IsNumbered (entries : List Entry) : Type 0 where
  pub least : All (λ e. 1 ≤ e.number) entries
  pub differ : IsDistinct nat_eq (map (λ (e : Entry). e.number) entries)
  pub kinds : All (λ e. KindInRange e.kind) entries

-- the tree of a header
abbrev pub tree_in : Head → Tree
tree_in h = record { root = h.root; height = h.height; records = h.records }

-- The tree of a header, in these pages, is whole and spells the map, whose layers have these entries.
pub record IsSpelled (told : Option Pages) (free : ℕ → Bool) (n : ℕ) (h : Head) (entries : List Entry) (layers : Map) : Type 0 where
  pub numbers : Numbering
  pub records : List Record
  pub whole : IsWhole told free n (tree_in h) records
  pub spelled : SpellsUnder h.format h.level numbers records layers
  pub catalog : IsCatalogOf layers numbers entries

-- what the header of an edition says
pub record IsHeadOf (h : Head) (e : Edition) : Type 0 where
  pub format : e.format ≡ h.format
  pub number : e.number ≡ h.edition
  pub level : e.level ≡ h.level

-- the pages that are read for the colour of a pixel of the layer with this number, in the tree of this header
abbrev pub pages_asked : ℕ → Pixel → Head → List (List ℕ) → List ℕ
pages_asked number at h pages = floor_pages pages (pixel_key number at) h.height h.root

-- The pages that are read for the colour of the pixel that was asked for last are among the first of these.
pub record IsHeldWarm (warm : Option (List ℕ × Pixel)) (entries : List Entry) (told : Option Pages) (h : Head) (held : List ℕ) : Type 0 where
  pub are_first : (w : List ℕ × Pixel) → warm ≡ Some w → (layers : Map) (numbers : Numbering) → IsCatalogOf layers numbers entries → (rs : List Record)
      → IsTree told (tree_in h) rs → (pages : Pages) → told ≡ Some pages → AreAmongFirst (pages_asked (number_of numbers w.0) w.1 h pages) held

-- the last value of a count of changes
abbrev pub last_count : ℕ
last_count = 2 ^ 64 - 1

module _ {W : Type 0} {D : disk.Ghosts W} where
  -- what a book tells and keeps as a store
  abbrev pub told_of : Book W D → Option Pages
  told_of b = told_pages b.journal (entries_of b.pool) (D.told b.world)

  -- which pages are free in the work
  abbrev pub free_of : Book W D → ℕ → Bool
  free_of b = is_free b.journal.pages b.free

  -- how many pages are dirty in the pool or changed in the journal
  abbrev pub changed_of : Book W D → ℕ
  changed_of b = marked_count b.journal.pages (entries_of b.pool) b.journal.changed

  -- a book as a store goes on: it is later, and the heads and the pages of the published tree are the same
  abbrev pub IsLaterBook : Book W D → Book W D → Type 0
  IsLaterBook a b = (b.journal.pages ≡ a.journal.pages) × (b.journal.state ≡ a.journal.state) × ((b.last ≡ a.last) × (b.work ≡ a.work) × (b.used ≡ a.used))
      × (D.door b.world ≡ D.door a.world) × Goes (IsLater a.journal.pages) (D.told a.world) (D.told b.world)

  -- The published pages of a book hold the edition, with this catalog.
  pub record IsPublishedAs (b : Book W D) (t : Tale) (entries : List Entry) (e : Edition) : Type 0 where
    pub head : IsHeadOf (books.last_of b) e
    pub spelled : IsSpelled (Some (published t (books.pages_of b))) (books.published_free b) (books.pages_of b) (books.last_of b) entries e.layers

  -- A book that was just opened, over a file that stands for the edition: its work is the edition.
  pub record IsOpened (b : Book W D) (entries : List Entry) (e : Edition) : Type 0 where
    pub tale : Tale
    pub told : D.told b.world ≡ Some tale
    pub lawful : IsConsistent tale
    pub pages : told_of b ≡ Some (published tale (books.pages_of b))
    pub holds : IsPublishedAs b tale entries e

-- the state over an edition that was just opened, in a file of so many home pages
abbrev pub first_state : ℕ → Edition → State
first_state pages e = record { quota = quota pages; last = e; work = e.layers }

module _ {W : Type 0} {D : disk.Ghosts W} where
  -- the world that its file is in
  unfoldable pub session_world : Session W D → W
  session_world s = s.book.world

  -- the format of the last edition
  unfoldable pub format_of : Session W D → ℕ
  format_of s = s.book.work.format

  -- the level of the map, whose square has 2^level pixels a side
  unfoldable pub level_of : Session W D → ℕ
  level_of s = s.book.last.level

  -- what the last edition's header says, with the tree of the work
  unfoldable pub head_of : Session W D → Head
  head_of s = s.book.work

  -- no publish has failed behind its first write
  unfoldable pub IsSessionReady : Session W D → Type 0
  IsSessionReady s = books.IsReady s.book

  -- how many records were removed and added since the file was opened or since the last edition or revert
  unfoldable pub changes_of : Session W D → ℕ
  changes_of s = s.changes

  -- how often its disk was read, where that is told
  unfoldable pub reads_of : Session W D → Option ℕ
  reads_of s = disk_reads (D.told s.book.world)

  -- the layer and the pixel that were asked for last, where they were answered
  unfoldable pub warm_of : Session W D → Option (List ℕ × Pixel)
  warm_of s = s.warm

  -- The work's tree spells the work with this catalog, and the published pages hold the last edition. As many pages at most are
  -- changed as the count of changes allows.
  pub record IsAtWith (session : Session W D) (entries : List Entry) (s : State) : Type 0 where
    pub tale : Tale
    pub told : D.told session.book.world ≡ Some tale
    pub lawful : IsConsistent tale
    pub ready : books.IsReady session.book
    pub last : IsPublishedAs session.book tale session.last s.last
    pub pages : Pages
    pub pages_told : told_of session.book ≡ Some pages
    pub work : IsSpelled (Some pages) (free_of session.book) (books.pages_of session.book) (books.work_of session.book) entries s.work
    pub format : (books.work_of session.book).format ≡ (books.last_of session.book).format
    pub level : (books.work_of session.book).level ≡ (books.last_of session.book).level
    pub quota : s.quota ≡ quota (books.pages_of session.book)
    pub few : (changed_of session.book ≤ 9 * session.changes) ⊎ (session.changes ≡ last_count)
    pub bounded : session.changes ≤ last_count

  -- with the catalog that the session keeps
  abbrev pub IsAtState : Session W D → State → Type 0
  IsAtState session s = IsAtWith session session.catalog s

  -- the pages of the last pixel are among the first that are held
  abbrev pub IsWarm : Session W D → Type 0
  IsWarm session = IsHeldWarm session.warm session.catalog (told_of session.book) session.book.work (keys_of (entries_of session.book.pool))

  -- the session stands for the state, and holds the pages of its last pixel
  pub record IsAtWarm (session : Session W D) (s : State) : Type 0 where
    pub at : IsAtState session s
    pub warm : IsWarm session

  -- The session stands for this state: its work, its last edition and its quota, and it holds the pages of its last pixel. Above this
  -- crate nothing else is known of a session.
  unfoldable pub IsAt : Session W D → State → Type 0
  IsAt session s = IsAtWarm session s
