-- An image in memory reads as a log says.
use Rattle.std.specs.Prelude.{◌≡◌, ℕ, ◌<◌, length, slice_index_or, Some, List, []}
use Rattle.quilt_world.specs.Disk.{Pages, Log}
use Rattle.quilt_world.specs.PageBytes.{last_bytes}

-- each page that is not torn reads as its last bytes
pub record Reads (start : Pages) (log : Log) (seen : Pages) : Type 0 where
  pub size : length seen ≡ length start
  pub last : (i : ℕ) (bytes : List ℕ) → i < length start → last_bytes start log i ≡ Some bytes → slice_index_or seen i [] ≡ bytes
