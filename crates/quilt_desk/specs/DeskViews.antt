-- What a desk shows beside its tale.
use Rattle.std.specs.Prelude.{◌≡◌, ◌<◌, ℕ, List, length, Option, Some, None, Contains}
use Rattle.std.specs.Vec.{vec_capacity}
use Rattle.quilt_world.specs.Causes.{next_count}
use Rattle.quilt_world.specs.Disk.{Pages}
use Rattle.quilt_desk.specs.declared.desk.Desk.{Desk}
use Rattle.quilt_desk.specs.declared.copies.Copies.{Copies}
use Rattle.quilt_world.specs.declared.disk.Door.{Door}
use Rattle.quilt_world.specs.declared.disk.Door.TheVariants.{Shut, Ready, Made, Missing, Taken, Failed}

-- a file that waits to be opened reads as it was given
abbrev pub copied : Option Copies → Option Pages
copied None = None
copied (Some c) = Some c.current

-- the file of an open door, else the one that waits
abbrev pub file_at : Door → Option Copies → Pages → Option Pages
file_at Ready shelf current = Some current
file_at Made shelf current = Some current
file_at Shut shelf current = copied shelf
file_at Missing shelf current = copied shelf
file_at Taken shelf current = copied shelf
file_at Failed shelf current = copied shelf

-- the file as it reads, if there is one
abbrev pub file_of : Desk → Option Pages
file_of d = file_at d.door d.shelf d.current

-- how many calls there were, the last value that the count takes included
abbrev pub calls_of : Desk → ℕ
calls_of d = d.calls.count

-- the numbers of the calls that fail
abbrev pub failing_of : Desk → List ℕ
failing_of d = d.calls.failing.items

-- how many bytes a call takes or puts at most
abbrev pub most_of : Desk → ℕ
most_of d = d.most

-- the next call is one that fails
abbrev pub FailsNext : Desk → Type 0
FailsNext d = Contains (failing_of d) (next_count (calls_of d))

-- the log has room for one event more
abbrev pub LogHasRoom : Desk → Type 0
LogHasRoom d = length d.log.items < vec_capacity d.log

-- one call more is counted, and what fails and how much a call handles are as before
pub record CountsCall (old new : Desk) : Type 0 where
  pub calls : calls_of new ≡ next_count (calls_of old)
  pub failing : failing_of new ≡ failing_of old
  pub most : most_of new ≡ most_of old
