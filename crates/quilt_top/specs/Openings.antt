-- What opening a file finds and leaves, and how a run over it goes on.
use Rattle.std.specs.Prelude.{◌≡◌, ◌⊎◌, ℕ, Bool, true, false, Result, Ok, Err, List, [], ◌∷◌}
use Rattle.quilt_types.specs.Layers.{Edition}
use Rattle.quilt_types.specs.declared.stop.Stop.{Stop}
use Rattle.quilt_types.specs.declared.stop.Stop.TheVariants as stops
use Rattle.quilt_world.specs.Added.{AddsOnly, is_of_pages}
use Rattle.quilt_world.specs.Causes.{Rose}
use Rattle.quilt_world.specs.Disk.{Pages}
use Rattle.quilt_world.specs.Home.{IsMapFile, home}
use Rattle.quilt_world.specs.Stops.{Since}
use Rattle.quilt_world.specs.Tale.{Tale}
use Rattle.quilt_world.specs.declared.disk.Disk as disk
use Rattle.quilt_journal.specs.Kept.{HasHome}
use Rattle.quilt_node.specs.declared.head.Head.{Head}
use Rattle.quilt_edition.specs.Stands.{HoldsEdition, Stands, IsDamagePage}
use Rattle.quilt_audit.specs.Surveys.{IsDamage}
use Rattle.quilt_words.specs.Items.{items_of}
use Rattle.quilt_replies.specs.Answers.{State}
use Rattle.quilt_record.specs.declared.entry.Entry.{Entry}
use Rattle.quilt_edition.specs.declared.book.Book.{Book}
use Rattle.quilt_edition.specs.declared.start.Started.{Started}
use Rattle.quilt_edition.specs.declared.start.Started.TheVariants as started
use Rattle.quilt_edition.specs.Books as books
use Rattle.quilt_map.specs.Sessions.{IsNumbered, IsOpened, changed_of, free_of, first_state}
use Rattle.quilt_top.specs.declared.halt.Halt.{Halt}
use Rattle.quilt_top.specs.declared.halt.Halt.TheVariants as halts
use Rattle.quilt_top.specs.declared.opened.Opened.{Opened}
use Rattle.quilt_top.specs.declared.opened.Opened.TheVariants as opened
use Rattle.quilt_top.specs.declared.opened.Begun.{Begun}
use Rattle.quilt_top.specs.declared.opened.Begun.TheVariants as begun
use Rattle.quilt_top.specs.declared.run.End.{End}
use Rattle.quilt_top.specs.declared.run.End.TheVariants as ends
use Rattle.quilt_top.specs.Headline.{IsOneOf, IsNoMap, StandsForNothing}
use Rattle.quilt_top.specs.TextRun.{run_in, RunsFrom, RunsWhole, Overruns, EndsBetween}

-- nothing was done yet
pub record HasNoEvents (t : Tale) : Type 0 where
  pub log : t.log ≡ []

-- Pages alone are written: at each event a map file keeps its home pages, and another file is left alone.
pub record Keeps (old new : Tale) : Type 0 where
  pub input : new.input ≡ old.input
  pub pages : AddsOnly is_of_pages old new
  pub homes : (n : ℕ) → IsMapFile old.start n → Since old new (HasHome n (home old.start n))
  pub other : IsNoMap old.start → new.log ≡ old.log

module _ {W : Type 0} {D : disk.Ghosts W} where
  -- what a book on the heap was opened as
  abbrev pub started_of : Begun W D → Started W D
  started_of (begun.Ready book) = started.Ready book.value
  started_of (begun.NotMap world) = started.NotMap world
  started_of (begun.Stopped world stop) = started.Stopped world stop

  -- a book that was just opened, with the catalog that was found in it: nothing is changed yet
  pub record IsBegun (book : Book W D) (catalog : List Entry) : Type 0 where
    pub ready : books.IsReady book
    pub numbered : IsNumbered catalog
    pub unchanged : changed_of book ≡ 0
    pub heads : books.work_of book ≡ books.last_of book
    pub free : (page : ℕ) → free_of book page ≡ books.published_free book page

  -- the state over the edition that the file of such a book stands for
  pub record IsFirstState (book : Book W D) (catalog : List Entry) (s : State) : Type 0 where
    pub edition : Edition
    pub opened : IsOpened book catalog edition
    pub state : s ≡ first_state (books.pages_of book) edition

  -- the world that each answer holds
  abbrev pub opened_world : Opened W D → W
  opened_world (opened.Map book catalog) = books.world_of book.value
  opened_world (opened.NotMap world) = world
  opened_world (opened.Stopped world stop) = world

  -- nothing is changed yet
  abbrev pub IsUnchanged : Opened W D → Type 0
  IsUnchanged (opened.Map book catalog) = IsBegun book.value catalog
  IsUnchanged (opened.NotMap world) = Unit {0}
  IsUnchanged (opened.Stopped world stop) = Unit {0}

  -- a device fault comes only where faults rose
  abbrev pub HasCauseOf : ℕ → ℕ → Opened W D → Type 0
  HasCauseOf before now (opened.Map book catalog) = Unit {0}
  HasCauseOf before now (opened.NotMap world) = Unit {0}
  HasCauseOf before now (opened.Stopped world stop) = stop ≡ stops.Device → Rose before now

  -- what the home pages of a book with this header are found to hold
  abbrev pub HoldsAs : ℕ → Head → Pages → Opened W D → Type 0
  HoldsAs n last pages (opened.Map book catalog) =
      (e : Edition) × HoldsEdition pages e × IsFirstState book.value catalog (first_state n e)
  HoldsAs n last pages (opened.NotMap world) = ⊥
  HoldsAs n last pages (opened.Stopped world stop) = (page : ℕ) → stop ≡ stops.Damaged page → IsDamage pages last page

  -- what a file is found to be
  abbrev pub FindsAt : Pages → Opened W D → Type 0
  FindsAt start (opened.Map book catalog) =
      (n : ℕ) × IsMapFile start n × (e : Edition) × Stands start e × IsFirstState book.value catalog (first_state n e)
  FindsAt start (opened.NotMap world) = IsNoMap start
  FindsAt start (opened.Stopped world stop) =
      (page : ℕ) → stop ≡ stops.Damaged page → (n : ℕ) × IsMapFile start n × IsDamagePage (home start n) page × StandsForNothing start

-- it stops for want of memory, or for more input than a run may take: no device failed, and no page is damaged
abbrev pub IsNoFault : Halt → Type 0
IsNoFault e = (e ≡ halts.TooMuch) ⊎ (e ≡ halts.Stopped stops.Memory)

-- how a run from this state ends; but for a fault or a damaged page it ends between two replies
pub record RunsTo (n : ℕ) (s : State) (end : End) (old new : Tale) : Type 0 where
  pub runs : RunsFrom n s old new
  pub done : end ≡ ends.Done → RunsWhole n true s old new
  pub refused : end ≡ ends.Refused → RunsWhole n false s old new
  pub too_much : end ≡ ends.TooMuch → Overruns new
  pub between : IsOneOf end (ends.Done ∷ ends.Refused ∷ ends.Memory ∷ ends.TooMuch ∷ []) → EndsBetween (run_in s (items_of n old.input)) new

-- how a run ends where a call gave up
abbrev pub end_of_stop : Stop → End
end_of_stop stops.Device = ends.Device
end_of_stop stops.Memory = ends.Memory
end_of_stop (stops.Damaged page) = ends.Damaged page

-- how a run ends that answered whether none of its replies was a refusal, or that stopped
abbrev pub end_of : Result Bool Halt → End
end_of (Ok true) = ends.Done
end_of (Ok false) = ends.Refused
end_of (Err (halts.Stopped stop)) = end_of_stop stop
end_of (Err halts.TooMuch) = ends.TooMuch

-- the ends of a run of a text
abbrev pub run_ends : List End
run_ends = ends.Done ∷ ends.Refused ∷ ends.Device ∷ ends.Memory ∷ ends.TooMuch ∷ []

-- the same, and that a page is damaged
abbrev pub is_run_end : End → Bool
is_run_end ends.Done = true
is_run_end ends.Refused = true
is_run_end ends.Device = true
is_run_end ends.Memory = true
is_run_end ends.TooMuch = true
is_run_end (ends.Damaged page) = true
is_run_end end = false
