-- What is known of a page as the events go by: how a desk works out what a crash leaves.
use Rattle.std.specs.Prelude.{ℕ, true, false, List, fold, Option, Some, None, unwrap_or, if◌then◌else◌, ◌==◌}
use Rattle.quilt_world.specs.Disk.{Log}
use Rattle.quilt_world.specs.declared.event.Event.{Event}
use Rattle.quilt_world.specs.declared.event.Event.TheVariants.{Took, Put, Wrote, Tore, Synced}
use Rattle.quilt_desk.specs.Crash.{page_filled}
use Rattle.quilt_desk.specs.declared.page_state.PageState.{PageState}

-- before any event a page has the bytes that the file began with
abbrev pub first_page_state : List ℕ → PageState
first_page_state bytes = record { last = Some bytes; synced = Some bytes; written = None; is_unsynced = false }

-- after one more event: the last bytes, those at the last sync, those of the last whole write since, and whether one was tried since
abbrev pub page_state_after : ℕ → PageState → Event → PageState
page_state_after page s (Wrote at bytes) = if at == page then record { last = Some bytes; synced = s.synced; written = Some bytes; is_unsynced = true } else s
page_state_after page s (Tore at) = if at == page then record { last = None; synced = s.synced; written = s.written; is_unsynced = true } else s
page_state_after page s Synced = record { last = s.last; synced = s.last; written = None; is_unsynced = false }
page_state_after page s (Took bytes) = s
page_state_after page s (Put bytes) = s

-- what is known of a page after the log
unfoldable pub state_of : ℕ → List ℕ → Log → PageState
state_of page first log = fold (page_state_after page) (first_page_state first) log

-- the bytes at the last sync, or zeros where the page was torn then
abbrev pub at_sync : PageState → List ℕ
at_sync s = unwrap_or s.synced (page_filled 0)

-- what a free page holds: by 0 its bytes at the last sync, by 1 those of its last whole write since, by another byte that byte
abbrev pub chosen_of : PageState → ℕ → List ℕ
chosen_of s choice = if choice == 0 then at_sync s else (if choice == 1 then unwrap_or s.written (at_sync s) else page_filled choice)

-- the bytes of a page that is not free
abbrev pub kept_of : PageState → Option (List ℕ)
kept_of s = if s.is_unsynced then None else s.last

-- the bytes that a crash leaves of a page
abbrev pub left_of : PageState → ℕ → List ℕ
left_of s choice = unwrap_or (kept_of s) (chosen_of s choice)
