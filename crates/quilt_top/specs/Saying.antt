-- What is put by a run of calls.
use Rattle.std.specs.Prelude.{◌≡◌, ℕ, Bool, true, false, not, List, ◌++◌}
use Rattle.quilt_world.specs.Disk.{Log}
use Rattle.quilt_world.specs.Tale.{Tale, IsSameFile, put_bytes, Begins}
use Rattle.quilt_world.specs.Added.{Only}
use Rattle.quilt_world.specs.declared.event.Event.{Event}
use Rattle.quilt_world.specs.declared.event.Event.TheVariants.{Took}

-- input is taken
abbrev pub is_took : Event → Bool
is_took (Took bytes) = true
is_took e = false

-- the event takes no input
abbrev pub takes_none : Event → Bool
takes_none e = not (is_took e)

-- these bytes are put, and no input is taken; pages may be written
pub record Says (bytes : List ℕ) (old new : Tale) : Type 0 where
  pub file : IsSameFile old new
  pub input : new.input ≡ old.input
  pub events : Log
  pub log : new.log ≡ old.log ++ events
  pub untaken : Only takes_none events
  pub put : put_bytes events ≡ bytes

-- a prefix of these bytes is put
pub record SaysPrefix (bytes : List ℕ) (old new : Tale) : Type 0 where
  pub said : List ℕ
  pub front : Begins bytes said
  pub says : Says said old new
