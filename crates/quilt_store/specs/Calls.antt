-- What the calls of the layers above leave of a store, and why they stop. The store's views are taken as one value.
use Rattle.std.specs.Prelude.{◌≡◌, ◌≤◌, Result, Ok, IfErr}
use Rattle.quilt_types.specs.declared.stop.Stop.{Stop}
use Rattle.quilt_types.specs.declared.stop.Stop.TheVariants.{Device}
use Rattle.quilt_world.specs.Causes.{Rose}
use Rattle.quilt_store.specs.declared.store.PageStore.{Ghosts}

-- What a call that only reads leaves: its pages and which of them are free are as they were, no page was changed, the store
-- comes later, and `Device` is answered only where the count of faults rose.
pub record OnlyReads {S T : Type 0} (g : Ghosts S) (old new : S) (result : Result T Stop) : Type 0 where
  pub size : g.size new ≡ g.size old
  pub told : g.told new ≡ g.told old
  pub free : g.free new ≡ g.free old
  pub later : g.later old new
  pub changed : g.changed new ≤ g.changed old
  pub faults : g.faults old ≤ g.faults new
  pub device : IfErr result (λ e. e ≡ Device → Rose (g.faults old) (g.faults new))

-- what such calls have left so far, as a loop goes on
abbrev pub IsOnlyRead : {S : Type 0} → Ghosts S → S → S → Type 0
IsOnlyRead g old new = OnlyReads {T = Unit {0}} g old new (Ok tt)

-- What a call that edits leaves: a store of as many pages that comes later, and `Device` is answered only where the count of
-- faults rose.
pub record Edits {S T : Type 0} (g : Ghosts S) (old new : S) (result : Result T Stop) : Type 0 where
  pub size : g.size new ≡ g.size old
  pub later : g.later old new
  pub faults : g.faults old ≤ g.faults new
  pub device : IfErr result (λ e. e ≡ Device → Rose (g.faults old) (g.faults new))
