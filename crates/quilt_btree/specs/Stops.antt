-- Why a call of the tree stops.
use Rattle.std.specs.Prelude.{ℕ, ◌<◌}
use Rattle.quilt_types.specs.declared.stop.Stop.{Stop}
use Rattle.quilt_types.specs.declared.stop.Stop.TheVariants.{Device, Memory, Damaged}
use Rattle.quilt_store.specs.declared.store.StoreErr.{StoreErr}
use Rattle.quilt_store.specs.declared.store.StoreErr.TheVariants as store

-- the store's reason as the tree's
abbrev pub store_stop : StoreErr → Stop
store_stop store.Device = Device
store_stop store.Memory = Memory

-- a page that is said to be damaged is one of so many
abbrev pub NamesPage : ℕ → Stop → Type 0
NamesPage size Device = Unit {0}
NamesPage size Memory = Unit {0}
NamesPage size (Damaged page) = page < size

-- the reason that names page 0 in place of a page
abbrev pub unnamed : Stop → Stop
unnamed Device = Device
unnamed Memory = Memory
unnamed (Damaged page) = Damaged 0
