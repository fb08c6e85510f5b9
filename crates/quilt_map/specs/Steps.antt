-- What a command does to the file, by the tales before it and after it.
use Rattle.std.specs.Prelude.{◌≡◌, ◌⊎◌, ℕ, ◌+◌, ◌*◌, Bool, true, false, min, Option, Some, None, is_some, ◌||◌, if◌then◌else◌}
use Rattle.quilt_types.specs.Facts.{changes}
use Rattle.quilt_types.specs.Layers.{Edition}
use Rattle.quilt_world.specs.Disk.{Pages}
use Rattle.quilt_world.specs.Stops.{Since}
use Rattle.quilt_world.specs.Tale.{Tale}
use Rattle.quilt_words.specs.declared.command.Command.{Command}
use Rattle.quilt_words.specs.declared.command.Command.TheVariants as commands
use Rattle.quilt_journal.specs.Writing.{Writing}
use Rattle.quilt_edition.specs.Stands.{Stands}
use Rattle.quilt_replies.specs.Answers.{State, answer}
use Rattle.quilt_map.specs.Sessions.{last_count}

-- the file stands for the edition, where there is one
abbrev pub StandsForNew : Option Edition → Pages → Type 0
StandsForNew None image = ⊥
StandsForNew (Some e) image = Stands image e

-- the file stands for the last edition, or for the one that the command gives
abbrev pub StandsFor : State → Command → Pages → Type 0
StandsFor s command image = Stands image s.last ⊎ StandsForNew (answer s command).published image

-- At each event since, a stop leaves the last edition, or the one that the command gives.
pub record LeavesEdition (s : State) (command : Command) (old new : Tale) : Type 0 where
  pub since : Since old new (StandsFor s command)

-- A command that gives an edition writes at most 18 pages for each record that was changed, and 8 more.
abbrev pub CommandWritesFew : State → Command → ℕ → Tale → Tale → Type 0
CommandWritesFew s command changed old new = is_some (answer s command).published ≡ true → Writing (18 * changed + 8) old new

-- the commands that give an edition
abbrev pub gives_edition : Command → Bool
gives_edition commands.Publish = true
gives_edition commands.Upgrade = true
gives_edition command = false

-- the command makes the work the last edition again
abbrev pub goes_back : Command → Bool
goes_back commands.Revert = true
goes_back command = false

-- the commands that ask, and leave the work as it is: all but those that change it and those that give an edition or go back to one
abbrev pub asks : Command → Bool
asks (commands.Region a c) = false
asks (commands.Points p bucket) = false
asks (commands.Lines l t) = false
asks (commands.Drop a) = false
asks (commands.Copy a b) = false
asks (commands.Set a at c) = false
asks (commands.Rect a w c) = false
asks (commands.Raster a rows) = false
asks (commands.Union a b c) = false
asks (commands.Inter a b c) = false
asks (commands.Diff a b c) = false
asks (commands.Recolour a c pairs) = false
asks (commands.Window a w c) = false
asks (commands.Shift a dx dy c) = false
asks (commands.Buffer a r c) = false
asks (commands.Put p at label) = false
asks (commands.Del p at) = false
asks (commands.Scatter p points) = false
asks (commands.Line l id seg) = false
asks (commands.Unline l id) = false
asks (commands.Polygon c colour rings) = false
asks commands.Publish = false
asks commands.Upgrade = false
asks commands.Revert = false
asks command = true

-- how many records were changed since the last edition or revert, after a command
abbrev pub changes_after : State → Command → ℕ → ℕ
changes_after s command changed =
    if is_some (answer s command).published || goes_back command then 0
    else min (changed + changes s.last.level s.work (answer s command).work) last_count
