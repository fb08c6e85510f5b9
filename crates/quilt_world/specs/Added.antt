-- Which events a call adds to a log, by what they are of.
use Rattle.std.specs.Prelude.{◌≡◌, ℕ, Bool, true, false, List, ◌∷◌, ◌++◌}
use Rattle.std.specs.List.{list_all}
use Rattle.quilt_world.specs.Disk.{Log}
use Rattle.quilt_world.specs.Tale.{Tale, IsSameFile}
use Rattle.quilt_world.specs.declared.event.Event.{Event}
use Rattle.quilt_world.specs.declared.event.Event.TheVariants.{Took, Put, Wrote, Tore, Synced}

-- of the disk's pages: a write, whole or torn, or a sync
abbrev pub is_of_pages : Event → Bool
is_of_pages (Took bytes) = false
is_of_pages (Put bytes) = false
is_of_pages (Wrote page bytes) = true
is_of_pages (Tore page) = true
is_of_pages Synced = true

-- a write, whole or torn
abbrev pub is_write : Event → Bool
is_write (Took bytes) = false
is_write (Put bytes) = false
is_write (Wrote page bytes) = true
is_write (Tore page) = true
is_write Synced = false

-- of the text: bytes that are taken or put
abbrev pub is_of_text : Event → Bool
is_of_text (Took bytes) = true
is_of_text (Put bytes) = true
is_of_text (Wrote page bytes) = false
is_of_text (Tore page) = false
is_of_text Synced = false

-- bytes that are put
abbrev pub is_put : Event → Bool
is_put (Took bytes) = false
is_put (Put bytes) = true
is_put (Wrote page bytes) = false
is_put (Tore page) = false
is_put Synced = false

-- all events are of this sort
abbrev pub Only : (Event → Bool) → Log → Type 0
Only sort log = list_all sort log ≡ true

-- Events of this sort alone are added. Of the input no more is said.
pub record AddsOnly (sort : Event → Bool) (old new : Tale) : Type 0 where
  pub file : IsSameFile old new
  pub events : Log
  pub log : new.log ≡ old.log ++ events
  pub only : Only sort events

-- P holds of the log before each take of input
abbrev pub AtEachTook : (Log → Type 0) → Log → Type 0
AtEachTook P log = (so_far rest : Log) (bytes : List ℕ) → log ≡ so_far ++ Took bytes ∷ rest → P so_far
