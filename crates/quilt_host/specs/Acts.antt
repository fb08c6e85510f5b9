-- Which events of pages the acts of a system are.
use Rattle.std.specs.Prelude.{◌≡◌, ℕ, ◌+◌, ◌*◌, ◌/◌, ◌%◌, nat_lt, nat_le, ◌==◌, Bool, true, false, ◌&&◌, if◌then◌else◌, List, [], ◌∷◌, ◌++◌, length, map}
use Rattle.quilt_types.specs.Plane.{below}
use Rattle.quilt_world.specs.Disk.{Log}
use Rattle.quilt_world.specs.declared.event.Event.{Event}
use Rattle.quilt_world.specs.declared.event.Event.TheVariants as events
use Rattle.quilt_host.specs.declared.act.Act.{Act}
use Rattle.quilt_host.specs.declared.act.Act.TheVariants.{Opened, Created, Wrote, Lost, Synced, Linked, Took, Ended, Put}

-- The events so far, and the front of a page whose write has begun.
pub record Draft : Type 0 where
  pub log : Log
  pub page : ℕ
  pub front : List ℕ

-- these events, and no page begun
abbrev pub drafted : Log → Draft
drafted log = record { log = log; page = 0; front = [] }

-- the events, where a page that is begun counts as torn
unfoldable pub closed : Draft → Log
closed d = if length d.front == 0 then d.log else d.log ++ events.Tore d.page ∷ []

-- the front of a page was written: it is whole, or begun
unfoldable pub fronted : ℕ → List ℕ → Log → Draft
fronted page front log = if length front == 4096 then drafted (log ++ events.Wrote page front ∷ []) else record { log = log; page = page; front = front }

-- so many bytes at an offset begin a page
abbrev pub begins : ℕ → ℕ → Bool
begins at n = (at % 4096 == 0) && nat_le n 4096

-- so many bytes at an offset go on with the page that is begun
abbrev pub goes_on : Draft → ℕ → ℕ → Bool
goes_on d at n = nat_lt 0 (at % 4096) && (at == d.page * 4096 + length d.front) && nat_le (length d.front + n) 4096

-- each page in which so many bytes at an offset lie is torn
unfoldable pub tears : ℕ → ℕ → Log
tears at n = map (λ k. events.Tore (at / 4096 + k)) (below ((at % 4096 + n + 4095) / 4096))

-- A page that is written from its first byte on, piece behind piece, is one write. Any other write tears its pages, and so does
-- one that fails. What is done to the file before it is opened, or before its folder is synced, is no event.
unfoldable pub drafted_after : Draft → Act → Draft
drafted_after d Opened = drafted []
drafted_after d Created = drafted []
drafted_after d (Wrote at bytes) =
    if begins at (length bytes) then fronted (at / 4096) bytes (closed d)
    else (if goes_on d at (length bytes) then fronted d.page (d.front ++ bytes) d.log else drafted (closed d ++ tears at (length bytes)))
drafted_after d (Lost at n) = drafted ((if goes_on d at n then d.log else closed d) ++ tears at n)
drafted_after d Synced = drafted (closed d ++ events.Synced ∷ [])
drafted_after d Linked = drafted []
drafted_after d (Took bytes) = drafted (closed d ++ events.Took bytes ∷ [])
drafted_after d Ended = d
drafted_after d (Put bytes) = drafted (closed d ++ events.Put bytes ∷ [])

-- the draft after all acts, of which the last stands first
abbrev pub draft_of : List Act → Draft
draft_of [] = drafted []
draft_of (act ∷ earlier) = drafted_after (draft_of earlier) act

-- the events of pages and streams since the file was opened, or since its folder was synced
abbrev pub log_of : List Act → Log
log_of acts = closed (draft_of acts)

-- all that was written to the file is on the disk
abbrev pub is_settled : List Act → Bool
is_settled [] = false
is_settled (Opened ∷ earlier) = true
is_settled (Created ∷ earlier) = false
is_settled (Wrote at bytes ∷ earlier) = false
is_settled (Lost at n ∷ earlier) = false
is_settled (Synced ∷ earlier) = true
is_settled (Linked ∷ earlier) = is_settled earlier
is_settled (Took bytes ∷ earlier) = is_settled earlier
is_settled (Ended ∷ earlier) = is_settled earlier
is_settled (Put bytes ∷ earlier) = is_settled earlier
