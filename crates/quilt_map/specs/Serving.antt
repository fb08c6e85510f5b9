-- What is promised of the call that a command is for, before it is known which pixel was asked for last.
use Rattle.std.specs.Prelude.{◌≡◌, ℕ, List, Option, Some, Result}
use Rattle.std.specs.Map.{keys_of}
use Rattle.quilt_types.specs.declared.plane.Pixel.{Pixel}
use Rattle.quilt_types.specs.declared.stop.Stop.{Stop}
use Rattle.quilt_world.specs.declared.disk.Disk as disk
use Rattle.quilt_words.specs.declared.command.Command.{Command}
use Rattle.quilt_words.specs.declared.command.Command.TheVariants as commands
use Rattle.quilt_pool.specs.Views.{entries_of}
use Rattle.quilt_replies.specs.Answers.{State}
use Rattle.quilt_replies.specs.declared.reply.Reply.{Reply}
use Rattle.quilt_map.specs.Asking.{ReadsNothing}
use Rattle.quilt_map.specs.Commanding.{IsAppliedBy}
use Rattle.quilt_map.specs.Reading.{warm_left}
use Rattle.quilt_map.specs.Sessions.{IsAtState, IsHeldWarm, IsWarm, told_of}
use Rattle.quilt_map.specs.declared.session.Session.{Session}

module _ {W : Type 0} {D : disk.Ghosts W} where
  -- the pages of this pixel are among the first that are held
  abbrev pub IsLastPixelIn : Option (List ℕ × Pixel) → Session W D → Type 0
  IsLastPixelIn warm s = IsHeldWarm warm s.catalog (told_of s.book) s.book.work (keys_of (entries_of s.book.pool))

  -- an `at` of the pixel that was asked for last reads no page
  abbrev pub ReadsNoneAgain : Command → Session W D → Session W D → Type 0
  ReadsNoneAgain (commands.At name p) old new =
      (s : State) → IsAtState old s → IsWarm old → old.warm ≡ Some (name, p) → ReadsNothing old.book new.book
  ReadsNoneAgain command old new = Unit {0}

  -- all that is promised of the answer, and what is held behind it for the next `at`
  pub record IsServed (command : Command) (old new : Session W D) (r : Result Reply Stop) : Type 0 where
    pub applied : IsAppliedBy IsAtState command old new r
    pub held : IsLastPixelIn (warm_left command r) new
    pub again : ReadsNoneAgain command old new
