-- What answering items does to the file and to the output, by the tales before it and after it.
use Rattle.std.specs.Prelude.{◌≡◌, ◌⊎◌, ℕ, ◌+◌, ◌*◌, true, List, [], ◌∷◌, Result, Ok, Err, is_some}
use Rattle.quilt_types.specs.declared.code.Code.{Code}
use Rattle.quilt_world.specs.Added.{AddsOnly, is_of_pages, is_of_text}
use Rattle.quilt_world.specs.Disk.{Pages}
use Rattle.quilt_world.specs.Stops.{Since, LeavesNow}
use Rattle.quilt_world.specs.Tale.{Tale, Adds, Begins}
use Rattle.quilt_journal.specs.Writing.{Writing}
use Rattle.quilt_edition.specs.Stands.{Stands}
use Rattle.quilt_words.specs.declared.command.Command.{Command}
use Rattle.quilt_words.specs.declared.item.Item.{Item}
use Rattle.quilt_words.specs.Items.{Group}
use Rattle.quilt_words.specs.Forms.{form}
use Rattle.quilt_replies.specs.Answers.{State}
use Rattle.quilt_replies.specs.Runs.{text_of}
use Rattle.quilt_map.specs.Steps.{StandsForNew, changes_after}
use Rattle.quilt_top.specs.Replies.{held_at, outcome, reply_to, state_then, state_after}
use Rattle.quilt_top.specs.Saying.{is_took, Says}

-- the file stands for the last edition, or for the one that the item gives
abbrev pub StandsForItem : State → Item → Pages → Type 0
StandsForItem s item image = Stands image s.last ⊎ StandsForNew (outcome s item).published image

-- An item that gives an edition writes at most 18 pages for each record that was changed, and 8 more.
abbrev pub WritesFewFor : State → Item → ℕ → Tale → Tale → Type 0
WritesFewFor s item changed old new = is_some (outcome s item).published ≡ true → Writing (18 * changed + 8) old new

-- the item's command is applied: pages alone are written, and at each event a stop leaves the last edition or the new one
pub record Applies (s : State) (item : Item) (changed : ℕ) (old new : Tale) : Type 0 where
  pub pages : AddsOnly is_of_pages old new
  pub stops : Since old new (StandsForItem s item)
  pub few : WritesFewFor s item changed old new

-- The item's command is applied, and then these bytes are put. Where they are some, a stop leaves the last edition that comes of it.
pub record Answers (s : State) (item : Item) (changed : ℕ) (said : List ℕ) (old new : Tale) : Type 0 where
  pub middle : Tale
  pub applies : Applies s item changed old middle
  pub left : (said ≡ [] → ⊥) → LeavesNow middle (λ image. Stands image (state_then s item).last)
  pub says : Says said middle new
  pub text : AddsOnly is_of_text middle new

-- of the reply a front is put
pub record AnswersPrefix (s : State) (item : Item) (changed : ℕ) (old new : Tale) : Type 0 where
  pub said : List ℕ
  pub front : Begins (text_of (reply_to s item)) said
  pub answers : Answers s item changed said old new

-- no reply is put, and a stop leaves the last edition
pub record PutsNone (s : State) (old new : Tale) : Type 0 where
  pub says : Says [] old new
  pub left : LeavesNow new (λ image. Stands image s.last)

-- how many records were changed since the last edition or revert, after what an item spells
abbrev pub changes_by : State → Result Command Code → ℕ → ℕ
changes_by s (Ok command) changed = changes_after s command changed
changes_by s (Err code) changed = changed

-- how many records were changed since the last edition or revert, after one item
unfoldable pub changes_then : State → Item → ℕ → ℕ
changes_then s item changed = changes_by s (form s.last.format item) changed

-- how many records were changed since the last edition or revert, after these items
abbrev pub changes_all : State → ℕ → List Group → ℕ
changes_all s changed [] = changed
changes_all s changed (g ∷ gs) = changes_all (state_then s (held_at s g)) (changes_then s (held_at s g) changed) gs

-- input is taken, and then an item is answered and its reply is put whole
pub record Step (s : State) (item : Item) (changed : ℕ) (old new : Tale) : Type 0 where
  pub first : Tale
  pub takes : AddsOnly is_took old first
  pub answers : Answers s item changed (text_of (reply_to s item)) first new

-- These items are answered, one after another. Input may be taken before each, and behind the last.
abbrev pub Steps : State → ℕ → List Group → Tale → Tale → Type 0
Steps s changed [] old new = AddsOnly is_took old new
Steps s changed (g ∷ gs) old new =
    (next : Tale) × Step s (held_at s g) changed old next × Steps (state_then s (held_at s g)) (changes_then s (held_at s g) changed) gs next new

-- of the first of these items, if there is one, a prefix of the reply is put
abbrev pub PartStep : State → ℕ → List Group → Tale → Tale → Type 0
PartStep s changed [] old new = Adds [] old new
PartStep s changed (g ∷ gs) old new = AnswersPrefix s (held_at s g) changed old new

-- These items are answered, and of what follows the first may be in part.
pub record StepsPrefix (s : State) (changed : ℕ) (items next : List Group) (old new : Tale) : Type 0 where
  pub middle : Tale
  pub steps : Steps s changed items old middle
  pub part : PartStep (state_after s items) (changes_all s changed items) next middle new
