-- What a world over a system tells.
use Rattle.std.specs.Prelude.{◌≡◌, ◌≢◌, ◌⊎◌, ℕ, ◌*◌, ◌<◌, ◌≤◌, Bool, true, false, List, [], length, slice_index_or, Option, Some, if◌then◌else◌}
use Rattle.quilt_world.specs.Tale.{Tale}
use Rattle.quilt_world.specs.PageBytes.{last_bytes}
use Rattle.quilt_world.specs.declared.disk.Door.{Door}
use Rattle.quilt_world.specs.declared.disk.Door.TheVariants as doors
use Rattle.quilt_host.specs.Story.{Story}
use Rattle.quilt_host.specs.Acts.{log_of}
use Rattle.quilt_host.specs.Bytes.{page_at, file_pages}

-- a file is open behind the door
abbrev pub is_open_door : Door → Bool
is_open_door doors.Shut = false
is_open_door doors.Ready = true
is_open_door doors.Made = true
is_open_door doors.Missing = false
is_open_door doors.Taken = false
is_open_door doors.Failed = false

-- The tale of a world with so many pages, which were read and written so often: the pages that the system tells of, and the
-- events that its acts are.
abbrev pub tale_of : Door → ℕ → ℕ → ℕ → Story → Tale
tale_of door pages reads writes s = record {
  start = file_pages s.settled pages;
  log = if is_open_door door then log_of s.acts else [];
  seen = file_pages s.bytes pages;
  reads = reads;
  writes = writes;
  input = s.input;
  path = s.path;
  was_there = s.was_there;
}

-- the story of a system that was asked for nothing yet but its words
pub record IsUnasked (s : Story) : Type 0 where
  pub file : s.is_there ≡ s.was_there
  pub owes : s.owes ≡ false
  pub said : s.said ≡ []
  pub says : s.says ≡ 0

-- A file that was there is there still, the removal of one that was made in vain was asked for, and nothing was written to standard error.
pub record IsFileKept (door : Door) (s : Story) : Type 0 where
  pub there : s.was_there ≡ true → s.is_there ≡ true
  pub owes : door ≢ doors.Made → s.owes ≡ false
  pub said : s.said ≡ []
  pub says : s.says ≡ 0

-- What holds of each story behind a door: before the call that opens or makes the file, a file is there just where one was; and
-- an open file has its pages, each of which reads as its last bytes unless it is torn.
pub record IsSoundStory (door : Door) (pages : ℕ) (s : Story) : Type 0 where
  pub first : door ≡ doors.Shut → s.is_there ≡ s.was_there
  pub within : pages * 4096 ≤ length s.bytes
  pub reads : is_open_door door ≡ true → (i : ℕ) (bytes : List ℕ) → i < pages → last_bytes (file_pages s.settled pages) (log_of s.acts) i ≡ Some bytes
      → page_at s.bytes i ≡ bytes
  pub kept : IsFileKept door s
