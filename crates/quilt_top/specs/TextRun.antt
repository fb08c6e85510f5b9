-- What a run of a text does, by the tales before it and after it.
use Rattle.std.specs.Prelude.{◌≡◌, ℕ, ◌+◌, ◌<◌, ◌≤◌, ◌^◌, Bool, true, List, [], ◌∷◌, ◌++◌, take, length, All, if◌then◌else◌}
use Rattle.std.specs.List.{list_all}
use Rattle.quilt_world.specs.Added.{Only, AtEachTook, is_of_pages}
use Rattle.quilt_world.specs.Disk.{Pages, Log, CanLeave}
use Rattle.quilt_world.specs.Stops.{LeavesNow}
use Rattle.quilt_world.specs.Tale.{Tale, IsSameFile, put_bytes, taken_bytes, Begins}
use Rattle.quilt_world.specs.declared.event.Event.{Event}
use Rattle.quilt_world.specs.declared.event.Event.TheVariants.{Took}
use Rattle.quilt_words.specs.Items.{Group, items_of, whole_items}
use Rattle.quilt_replies.specs.Answers.{State}
use Rattle.quilt_replies.specs.Runs.{Run, Published, run_of, replies_of, is_done, output, told_within, publishes_of}
use Rattle.quilt_top.specs.Headline.{IsEdition, WritesFew}
use Rattle.quilt_top.specs.Stronger.{gives_next, PutsWhole, touches_page}

-- the run of these items from a state
abbrev pub run_in : State → List Group → Run
run_in s items = run_of s.quota s.last s.work items

-- the publishes among these items
abbrev pub publishes_in : State → List Group → List Published
publishes_in s items = publishes_of s.quota s.last s.work (record { before = 0; changed = 0 }) items

-- the replies to the whole items taken so far have been put, and no more
abbrev pub PromptAt : ℕ → State → List ℕ → Log → Type 0
PromptAt n s input so_far =
    put_bytes so_far ≡ output (take (length (whole_items n (taken_bytes so_far))) (replies_of (run_in s (items_of n input))))

-- no bytes were taken or put yet
abbrev pub IsUntold : Tale → Type 0
IsUntold t = Only is_of_pages t.log

-- the most bytes that a run may take
abbrev pub text_limit : ℕ
text_limit = 2 ^ 30

-- An image that a stop leaves where these bytes were put: one edition of the run, the last that they tell, or the one behind it where the
-- reply that comes next gives it.
pub record IsFine (r : Run) (put : List ℕ) (image : Pages) : Type 0 where
  pub place : ℕ
  pub least : told_within r.steps put 0 ≤ place
  pub most : place ≤ told_within r.steps put 0 + (if gives_next r put then 1 else 0)
  pub edition : IsEdition r place image

-- each image that a stop leaves behind a prefix of the events since
abbrev pub AreFine : Run → Pages → Log → Log → Type 0
AreFine r start before events =
    (so_far : Log) (image : Pages) → Begins events so_far → CanLeave start (before ++ so_far) image → IsFine r (put_bytes so_far) image

-- before each page that is written among these events whole replies were put, and no part of one
abbrev pub WritesBetween : Run → Log → Type 0
WritesBetween r events = (so_far rest : Log) (e : Event) → events ≡ so_far ++ e ∷ rest → touches_page e ≡ true → PutsWhole r so_far

-- whole replies were put and no part of one, and a stop leaves the last edition that they tell
pub record EndsBetween (r : Run) (new : Tale) : Type 0 where
  pub whole : PutsWhole r new.log
  pub left : LeavesNow new (IsEdition r (told_within r.steps (put_bytes new.log) 0))

-- What a run from this state does, at every exit: it puts a prefix of the replies to all items, each before more is taken, takes at most
-- one piece past the limit, leaves one of two editions at each event, and writes pages between replies alone, and few for each publish.
pub record RunsFrom (n : ℕ) (s : State) (old new : Tale) : Type 0 where
  pub file : IsSameFile old new
  pub events : Log
  pub log : new.log ≡ old.log ++ events
  pub input : old.input ≡ taken_bytes new.log ++ new.input
  pub front : Begins (output (replies_of (run_in s (items_of n old.input)))) (put_bytes new.log)
  pub prompt : AtEachTook (PromptAt n s old.input) new.log
  pub bounded : length (taken_bytes new.log) ≤ text_limit + 4096
  pub stops : AreFine (run_in s (items_of n old.input)) old.start old.log events
  pub between : WritesBetween (run_in s (items_of n old.input)) events
  pub writes : All (WritesFew (run_in s (items_of n old.input)) new.log) (publishes_in s (items_of n old.input))

-- and at the end of the input it has put them all, says whether none was a refusal, and the file reads as the last edition, which a stop leaves
pub record RunsWhole (n : ℕ) (flag : Bool) (s : State) (old new : Tale) : Type 0 where
  pub whole : put_bytes new.log ≡ output (replies_of (run_in s (items_of n old.input)))
  pub taken : new.input ≡ []
  pub few : length (taken_bytes new.log) ≤ text_limit
  pub done : flag ≡ list_all is_done (replies_of (run_in s (items_of n old.input)))
  pub last : (k : ℕ) × (k + 1 ≡ length (run_in s (items_of n old.input)).editions) × IsEdition (run_in s (items_of n old.input)) k new.seen
  pub ends : EndsBetween (run_in s (items_of n old.input)) new

-- More than the limit was taken, and nothing was done since: of the last piece no item is answered.
pub record Overruns (new : Tale) : Type 0 where
  pub past : text_limit < length (taken_bytes new.log)
  pub so_far : Log
  pub piece : List ℕ
  pub last : new.log ≡ so_far ++ Took piece ∷ []
