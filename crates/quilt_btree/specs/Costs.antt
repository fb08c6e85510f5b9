-- What a call that edits leaves of a store, and what it costs at most.
use Rattle.std.specs.Prelude.{◌≡◌, ℕ, ◌+◌, ◌≤◌, OnOk, Result}
use Rattle.quilt_types.specs.declared.stop.Stop.{Stop}
use Rattle.quilt_store.specs.declared.store.PageStore.{Ghosts}
use Rattle.quilt_store.specs.Stops.{HasStopCause}
use Rattle.quilt_world.specs.Tale.{Goes}

-- A store of as many pages that comes later, of which at most so many pages were changed and so many read; `Device` is answered only where the count of
-- faults rose.
pub record EditsWithin {S T : Type 0} (g : Ghosts S) (changes looks : ℕ) (old new : S) (result : Result T Stop) : Type 0 where
  pub cause : HasStopCause (g.faults old) (g.faults new) result
  pub size : g.size new ≡ g.size old
  pub later : g.later old new
  pub changed : g.changed new ≤ g.changed old + changes
  pub reads : Goes (λ before now. now ≤ before + looks) (g.reads old) (g.reads new)

-- the same, where the pages that were read are bounded only for a call that answers
pub record EditsWithinOnOk {S T : Type 0} (g : Ghosts S) (changes looks : ℕ) (old new : S) (result : Result T Stop) : Type 0 where
  pub cause : HasStopCause (g.faults old) (g.faults new) result
  pub size : g.size new ≡ g.size old
  pub later : g.later old new
  pub changed : g.changed new ≤ g.changed old + changes
  pub reads : OnOk result (Goes (λ before now. now ≤ before + looks) (g.reads old) (g.reads new))

-- nothing was written: the pages and which of them are free are as they were, and no page was changed
pub record IsUntouched {S : Type 0} (g : Ghosts S) (old new : S) : Type 0 where
  pub told : g.told new ≡ g.told old
  pub free : g.free new ≡ g.free old
  pub unchanged : g.changed new ≤ g.changed old
