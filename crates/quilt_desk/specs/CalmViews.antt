-- What a calm world holds, though it tells nothing.
use Rattle.std.specs.Prelude.{◌≡◌, ℕ, List, Option, length, string_bytes}
use Rattle.quilt_world.specs.Disk.{Pages}
use Rattle.quilt_desk.specs.declared.calm.Calm.{Calm}
use Rattle.quilt_desk.specs.declared.source.Source.{Source}

-- the path that it knows
abbrev pub path_of : Calm → List ℕ
path_of c = string_bytes c.path

-- the file that was given, until it is opened
abbrev pub shelf_of : Calm → Option Pages
shelf_of c = c.shelf

-- the pages of the file, and the room for one before the door is open
abbrev pub disk_of : Calm → Pages
disk_of c = c.disk

-- the greatest number of pages that a file is made with
abbrev pub room_of : Calm → ℕ
room_of c = length c.disk

-- the input that it gives
abbrev pub source_of : Calm → Source
source_of c = c.source

-- how many bytes were put
abbrev pub written_by : Calm → ℕ
written_by c = c.written

-- the file and its place are as they were
pub record KeepsFile (old new : Calm) : Type 0 where
  pub path : path_of new ≡ path_of old
  pub shelf : shelf_of new ≡ shelf_of old
  pub disk : disk_of new ≡ disk_of old

-- the input and the count of the output are as they were
pub record KeepsStreams (old new : Calm) : Type 0 where
  pub source : source_of new ≡ source_of old
  pub written : written_by new ≡ written_by old
