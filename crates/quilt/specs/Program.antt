-- What a run of the program comes to, by the stories that a system tells before it and after it.
use Rattle.std.specs.Prelude.{◌≡◌, ℕ, ◌++◌, List, [], drop, Option, Some, None, Result, OnOk, OnErr, codes, decimal}
use Rattle.quilt_world.specs.Causes.{Rose}
use Rattle.quilt_world.specs.Tale.{Begins}
use Rattle.quilt_world.specs.declared.disk.Door.{Door}
use Rattle.quilt_world.specs.declared.disk.Door.TheVariants as doors
use Rattle.quilt_top.specs.declared.run.End.{End}
use Rattle.quilt_top.specs.declared.run.End.TheVariants.{Done, Refused, Usage, Device, Memory, NotMap, Missing, Taken, TooMuch, Damaged}
use Rattle.quilt_top.specs.Words.{Order, asked_for}
use Rattle.quilt_top.specs.Headline.{KeepsPromises, IsUsage, HasEndCause}
use Rattle.quilt_top.specs.Stronger.{KeepsMore}
use Rattle.quilt_host.specs.Story.{Story}
use Rattle.quilt_host.specs.Worlds.{tale_of, IsFileKept}

-- the line of each end on standard error, without its end; none where the input was read to its end
abbrev pub line_of : End → List ℕ
line_of Done = []
line_of Refused = []
line_of Usage = codes "quilt: usage"
line_of Device = codes "quilt: device fault"
line_of Memory = codes "quilt: out of memory"
line_of NotMap = codes "quilt: not a map file"
line_of Missing = codes "quilt: no such file"
line_of Taken = codes "quilt: file exists"
line_of TooMuch = codes "quilt: input too long"
line_of (Damaged page) = codes "quilt: damaged page " ++ decimal page

-- how many lines an end has
abbrev pub lines_of_end : End → ℕ
lines_of_end Done = 0
lines_of_end Refused = 0
lines_of_end Usage = 1
lines_of_end Device = 1
lines_of_end Memory = 1
lines_of_end NotMap = 1
lines_of_end Missing = 1
lines_of_end Taken = 1
lines_of_end TooMuch = 1
lines_of_end (Damaged page) = 1

-- what the words of a call ask for: those behind the program's name, and nothing where a word is no text
abbrev pub order_of_call : Option (List (List ℕ)) → Option Order
order_of_call None = None
order_of_call (Some words) = asked_for (drop 1 words)

-- a system that tells goes on telling, and its story goes on so
abbrev pub IfTold : (Story → Story → Type 0) → Option Story → Option Story → Type 0
IfTold step (Some before) (Some after) = step before after
IfTold step (Some before) None = ⊥
IfTold step None after = Unit {0}

-- What is done of an order: all that is promised of the tale of a world that begins with no fault and a shut door, for some door, counts of calls and
-- count of faults at its end.
pub record Does (order : Option Order) (end : End) (before after : Story) : Type 0 where
  pub door : Door
  pub pages : ℕ
  pub reads : ℕ
  pub writes : ℕ
  pub faults : ℕ
  pub usage : IsUsage order end
  pub untouched : order ≡ None → after ≡ before
  pub cause : HasEndCause order 0 faults door end
  pub promises : KeepsPromises order (Rose 0 faults) door end (tale_of doors.Shut 0 0 0 before) (tale_of door pages reads writes after)
  pub more : KeepsMore order door end (tale_of doors.Shut 0 0 0 before) (tale_of door pages reads writes after)
  pub kept : IsFileKept door after

-- the story as if nothing had been written to standard error
abbrev pub unsaid : Story → Story
unsaid s = record s { said = []; says = 0 }

-- What a run of the program does: what the words of the call ask for, and then the one line of the end, whole or, where it cannot be written, a front of it.
pub record Runs {T E : Type 0} (end : End) (said : Result T E) (before after : Story) : Type 0 where
  pub does : Does (order_of_call before.words) end before (unsaid after)
  pub line : OnOk said (after.said ≡ line_of end)
  pub front : OnErr said (Begins (line_of end) after.said)
  pub once : after.says ≡ lines_of_end end
