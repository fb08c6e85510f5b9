-- How a file of the empty edition is made.
use Rattle.std.specs.Prelude.{◌≡◌, ℕ, ◌+◌, ◌*◌, ◌<◌, ◌≤◌, Bool, true, false, ◌++◌, length, replicate, Some}
use Rattle.std.specs.List.{list_all}
use Rattle.std.specs.FinMap as finmap
use Rattle.quilt_types.specs.Layers.{Edition}
use Rattle.quilt_node.specs.declared.head.Head.{Head}
use Rattle.quilt_world.specs.Disk.{Pages, Log}
use Rattle.quilt_world.specs.Stops.{fixed, Since, LeavesNow}
use Rattle.quilt_world.specs.Tale.{Tale}
use Rattle.quilt_world.specs.declared.event.Event.{Event}
use Rattle.quilt_world.specs.declared.event.Event.TheVariants.{Took, Put, Wrote, Tore, Synced}
use Rattle.quilt_edition.specs.Stands.{Stands}
use Rattle.quilt_world.specs.Added.{is_of_pages}

-- a file of so many pages has home pages in the range of a map file
pub record HasMapSize (size : ℕ) : Type 0 where
  pub pages : ℕ
  pub is : size ≡ 3 + 2 * pages
  pub least : 16 ≤ pages
  pub most : pages ≤ 30000

-- each page is zeros, in each image that a stop may leave
pub record IsBlank (t : Tale) : Type 0 where
  pub each : (i : ℕ) → i < length t.start → fixed t i ≡ Some (replicate 4096 0)

-- edition 0 of the level in format 1, with no layer
abbrev pub empty_edition : ℕ → Edition
empty_edition n = record { format = 1; number = 0; level = n; layers = finmap.empty }

-- what the header of that edition says
abbrev pub empty_head : ℕ → Head
empty_head n = record { format = 1; edition = 0; level = n; root = 0; height = 0; records = 0 }

-- only events of the disk's pages are added
pub record AddsPageEvents (old new : Tale) : Type 0 where
  pub events : Log
  pub log : new.log ≡ old.log ++ events
  pub only : list_all is_of_pages events ≡ true

-- the file stands for nothing, or for the empty edition
abbrev pub IsNoneOrEmpty : ℕ → Pages → Type 0
IsNoneOrEmpty n image = (E : Edition) → Stands image E → E ≡ empty_edition n

-- At each event a stop leaves a file that stands for nothing or for the empty edition. No input is taken, and no output put.
pub record Creates (n : ℕ) (old new : Tale) : Type 0 where
  pub since : Since old new (IsNoneOrEmpty n)
  pub added : AddsPageEvents old new

-- a stop leaves a file that stands for the empty edition, and so the file reads
pub record IsCreated (n : ℕ) (t : Tale) : Type 0 where
  pub left : LeavesNow t (λ image. Stands image (empty_edition n))
  pub read : Stands t.seen (empty_edition n)
