-- What running the commands of the text of a trial does.
use Rattle.std.specs.Prelude.{◌≡◌, ℕ, ◌+◌, Bool, true, false, List, [], ◌∷◌, ◌++◌, length, count_by, decimal, codes, Result}
use Rattle.quilt_world.specs.Added.{AddsOnly, is_of_pages, is_of_text}
use Rattle.quilt_world.specs.Disk.{Pages}
use Rattle.quilt_world.specs.Stops.{Since, LeavesNow}
use Rattle.quilt_world.specs.Tale.{Tale, Begins}
use Rattle.quilt_types.specs.declared.code.Code.{Code}
use Rattle.quilt_words.specs.declared.command.Command.{Command}
use Rattle.quilt_words.specs.declared.item.Item.{Item}
use Rattle.quilt_words.specs.Forms.{form}
use Rattle.quilt_words.specs.Items.{Group, held, items_of}
use Rattle.quilt_lang.specs.Reading.{Same}
use Rattle.quilt_lang.specs.Trials.{line, trial_text}
use Rattle.quilt_replies.specs.Answers.{State}
use Rattle.quilt_replies.specs.Runs.{Run, is_done}
use Rattle.quilt_top.specs.declared.run.End.{End}
use Rattle.quilt_top.specs.declared.run.End.TheVariants as ends
use Rattle.quilt_top.specs.declared.trial_items.TrialItems.{TrialItems}
use Rattle.quilt_top.specs.declared.trial_run.Tally.{Tally}
use Rattle.quilt_top.specs.Headline.{IsEdition, all_done, summary}
use Rattle.quilt_top.specs.Replies.{state_after, replies_from}
use Rattle.quilt_top.specs.Saying.{Says}
use Rattle.quilt_top.specs.TextRun.{run_in}

-- ---- the items of the text

-- what of the text is still to be given
abbrev pub text_left : TrialItems → List ℕ
text_left t = t.lines.rest ++ t.trial

-- the items of the old text are this one, as some lines hold it in the format, and those of the new one
pub record IsNextItem (n f : ℕ) (item : Item) (old new : List ℕ) : Type 0 where
  pub group : Group
  pub is : item ≡ held f n group
  pub rest : Same n (items_of n old) (group ∷ items_of n new)

-- the first of the old items is given as what it spells in the format
pub record IsNextCommand (n f : ℕ) (spelled : Result Command Code) (old new : List ℕ) : Type 0 where
  pub item : Item
  pub next : IsNextItem n f item old new
  pub is : form f item ≡ spelled

-- ---- the commands

-- the image stands for some edition of the run
abbrev pub StandsForOne : Run → Pages → Type 0
StandsForOne r image = (k : ℕ) × IsEdition r k image

-- the image stands for the last edition of the run
abbrev pub StandsForLast : Run → Pages → Type 0
StandsForLast r image = (k : ℕ) × (k + 1 ≡ length r.editions) × IsEdition r k image

-- commands of the run are applied: pages alone are written, and at each event a stop leaves some edition of the run
pub record TriesCommands (r : Run) (old new : Tale) : Type 0 where
  pub pages : AddsOnly is_of_pages old new
  pub stops : Since old new (StandsForOne r)

-- items of a text were answered, these are left, and the tally has how many replies were done
pub record Tried (n : ℕ) (text : List ℕ) (left : List Group) (s now : State) (tally : Tally) : Type 0 where
  pub items : List Group
  pub all : Same n (items_of n text) (items ++ left)
  pub state : now ≡ state_after s items
  pub done : tally.done ≡ count_by is_done (replies_from s items)

-- ---- the whole trial

-- the run of the text of a trial from a state
abbrev pub trial_run : ℕ → State → ℕ → ℕ → Run
trial_run n s seed count = run_in s (items_of n (trial_text seed count n))

-- the four lines, by the numbers that they tell
abbrev pub summary_of : ℕ → ℕ → ℕ → ℕ → List ℕ
summary_of done refused records edition =
    line (codes "ok" ∷ decimal done ∷ []) ++ line (codes "no" ∷ decimal refused ∷ []) ++ line (codes "records" ∷ decimal records ∷ [])
    ++ line (codes "edition" ∷ decimal edition ∷ [])

-- The commands of the run are applied, and then these bytes are put. Where they are some, a stop leaves the last edition.
pub record Concludes (r : Run) (said : List ℕ) (old new : Tale) : Type 0 where
  pub middle : Tale
  pub tries : TriesCommands r old middle
  pub left : (said ≡ [] → ⊥) → LeavesNow middle (StandsForLast r)
  pub says : Says said middle new
  pub text : AddsOnly is_of_text middle new

-- of the summary a front is put
pub record TriesPrefix (n : ℕ) (r : Run) (old new : Tale) : Type 0 where
  pub said : List ℕ
  pub front : Begins (summary n r) said
  pub concludes : Concludes r said old new

-- the whole summary is put, the file reads as the last edition, and the flag says whether no reply was a refusal
pub record TriesWhole (n : ℕ) (r : Run) (flag : Bool) (old new : Tale) : Type 0 where
  pub concludes : Concludes r (summary n r) old new
  pub last : StandsForLast r new.seen
  pub done : flag ≡ all_done r

-- how a trial over a session ends; where memory was wanted it has put nothing
pub record TriesTo (n : ℕ) (r : Run) (end : End) (old new : Tale) : Type 0 where
  pub front : TriesPrefix n r old new
  pub done : end ≡ ends.Done → TriesWhole n r true old new
  pub refused : end ≡ ends.Refused → TriesWhole n r false old new
  pub unsaid : end ≡ ends.Memory → AddsOnly is_of_pages old new
