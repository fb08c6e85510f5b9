-- What a crash leaves of each page, by a byte of choice.
use Rattle.std.specs.Prelude.{◌≡◌, ℕ, ◌<◌, Bool, true, false, List, [], ◌∷◌, length, fold, Option, Some, None, unwrap_or, replicate, slice_index}
use Rattle.std.specs.Prelude.{slice_index_or, if◌then◌else◌, ◌==◌}
use Rattle.std.specs.List.{list_any}
use Rattle.quilt_world.specs.Disk.{Pages, Log}
use Rattle.quilt_world.specs.PageBytes.{last_bytes, fixed_bytes}
use Rattle.quilt_world.specs.declared.event.Event.{Event}
use Rattle.quilt_world.specs.declared.event.Event.TheVariants.{Took, Put, Wrote, Tore, Synced}

-- a page whose bytes are all the same
unfoldable pub page_filled : ℕ → List ℕ
page_filled byte = replicate 4096 byte

-- ---- the last sync

-- the event is a sync of the disk
abbrev pub is_sync : Event → Bool
is_sync (Took bytes) = false
is_sync (Put bytes) = false
is_sync (Wrote page bytes) = false
is_sync (Tore page) = false
is_sync Synced = true

-- the events up to the last sync, and with it
abbrev pub until_sync : Log → Log
until_sync [] = []
until_sync (event ∷ log) = if list_any is_sync log then event ∷ until_sync log else (if is_sync event then event ∷ [] else [])

-- the events after the last sync
abbrev pub since_sync : Log → Log
since_sync [] = []
since_sync (event ∷ log) = if list_any is_sync log then since_sync log else (if is_sync event then log else event ∷ log)

-- ---- a free page

-- the bytes of the page's last whole write, if it has one
abbrev pub written_after : ℕ → Option (List ℕ) → Event → Option (List ℕ)
written_after page before (Wrote at bytes) = if at == page then Some bytes else before
written_after page before (Tore at) = before
written_after page before Synced = before
written_after page before (Took bytes) = before
written_after page before (Put bytes) = before

-- the bytes of the page's last whole write in a log, if it has one
abbrev pub last_written : ℕ → Log → Option (List ℕ)
last_written page log = fold (written_after page) None log

-- the page's last bytes up to the last sync, or zeros where it was torn then
abbrev pub bytes_at_sync : Pages → Log → ℕ → List ℕ
bytes_at_sync start log page = unwrap_or (last_bytes start (until_sync log) page) (page_filled 0)

-- what a free page holds: by 0 its bytes at the last sync, by 1 those of its last whole write since, by another byte that byte
abbrev pub chosen : Pages → Log → ℕ → ℕ → List ℕ
chosen start log page choice =
    if choice == 0 then bytes_at_sync start log page
    else (if choice == 1 then unwrap_or (last_written page (since_sync log)) (bytes_at_sync start log page) else page_filled choice)

-- ---- each page

-- its bytes in each image that a stop may leave, or what its byte of choice says where it is free
abbrev pub left_by : Pages → Log → ℕ → ℕ → List ℕ
left_by start log page choice = unwrap_or (fixed_bytes start log page) (chosen start log page choice)

-- the image has of each page what its byte of choice leaves
pub record IsLeftBy (start : Pages) (log : Log) (choice : List ℕ) (image : Pages) : Type 0 where
  pub size : length image ≡ length start
  pub each : (i : ℕ) → i < length start → slice_index_or image i [] ≡ left_by start log i (slice_index choice i)
