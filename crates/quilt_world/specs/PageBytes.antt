-- What each page of a disk holds after a log.
use Rattle.std.specs.Prelude.{◌≢◌, ℕ, List, [], ◌∷◌, slice_index_or, if◌then◌else◌, Option, Some, None}
use Rattle.quilt_world.specs.Disk.{Pages, Log, Mark, Untouched, Written, Torn, mark_of, is_unsynced}
use Rattle.quilt_world.specs.declared.event.Event.{Event}
use Rattle.quilt_world.specs.declared.event.Event.TheVariants.{Took, Put, Wrote, Tore, Synced}

-- the bytes that a page's last event left there
abbrev pub bytes_by : Mark → List ℕ → Option (List ℕ)
bytes_by Untouched first = Some first
bytes_by (Written bytes) first = Some bytes
bytes_by Torn first = None

-- the page's last bytes, synced or not; none where it is torn
unfoldable pub last_bytes : Pages → Log → ℕ → Option (List ℕ)
last_bytes start log i = bytes_by (mark_of i log) (slice_index_or start i [])

-- the page's bytes in each image that a stop may leave; none where the page is free
unfoldable pub fixed_bytes : Pages → Log → ℕ → Option (List ℕ)
fixed_bytes start log i = if is_unsynced i log then None else last_bytes start log i

-- the event is no write of the page
abbrev pub Spares : ℕ → Event → Type 0
Spares i (Wrote at bytes) = at ≢ i
Spares i (Tore at) = at ≢ i
Spares i Synced = Unit {0}
Spares i (Took bytes) = Unit {0}
Spares i (Put bytes) = Unit {0}

-- none of the events is a write of the page
abbrev pub SparesAll : ℕ → Log → Type 0
SparesAll i [] = Unit {0}
SparesAll i (e ∷ log) = Spares i e × SparesAll i log
