-- What the pool's calls keep of the pages of the work.
use Rattle.std.specs.Prelude.{◌≡◌, ℕ, ◌==◌, Bool, List, [], ◌++◌, Some, slice_index_or, length, if◌then◌else◌}
use Rattle.lru.specs.LruCache.{LruCache, last_entry}
use Rattle.quilt_world.specs.Added.{is_write, Only}
use Rattle.quilt_world.specs.Disk.{Log}
use Rattle.quilt_world.specs.Tale.{Tale, IsSameFile}
use Rattle.quilt_world.specs.Stops.{Since}
use Rattle.quilt_journal.specs.Kept.{IsIdle, HasHome, published, work}
use Rattle.quilt_pool.specs.declared.frame.Frame.{Frame}
use Rattle.quilt_pool.specs.Entries.{Entries, page_over, IsClean}

-- writes alone, whole or torn, are added
pub record Tries (old new : Tale) : Type 0 where
  pub file : IsSameFile old new
  pub input : new.input ≡ old.input
  pub added : Log
  pub log : new.log ≡ old.log ++ added
  pub only : Only is_write added

-- The journal and the entries stand as they have to before each call.
pub record IsWork (n : ℕ) (es : Entries) (changed : List Bool) (t : Tale) : Type 0 where
  pub idle : IsIdle n changed t
  pub clean : IsClean es (work t n changed)

-- They stand so again, and each page of the work is as it was.
pub record KeepsWork (n : ℕ) (oes nes : Entries) (oc nc : List Bool) (old new : Tale) : Type 0 where
  pub is : IsWork n nes nc new
  pub home : published new n ≡ published old n
  pub pages : (i : ℕ) → page_over nes (work new n nc) i ≡ page_over oes (work old n oc) i
  pub tries : Tries old new
  pub since : Since old new (HasHome n (published old n))

-- They stand so again; the page has these bytes, and each other page of the work is as it was.
pub record Changes (n : ℕ) (page : ℕ) (bytes : List ℕ) (oes nes : Entries) (oc nc : List Bool) (old new : Tale) : Type 0 where
  pub is : IsWork n nes nc new
  pub home : published new n ≡ published old n
  pub pages : (i : ℕ) → page_over nes (work new n nc) i ≡ (if i == page then bytes else page_over oes (work old n oc) i)
  pub tries : Tries old new
  pub since : Since old new (HasHome n (published old n))

-- where the pool is full, its last entry has the bytes of these pages
abbrev pub IsSaved : LruCache ℕ Frame → List (List ℕ) → Type 0
IsSaved table pages = length table.entries ≡ table.cap → (page : ℕ) (f : Frame) → last_entry table.entries ≡ Some (page, f)
    → f.bytes ≡ slice_index_or pages page []
