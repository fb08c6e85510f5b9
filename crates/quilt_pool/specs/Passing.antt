-- What stands before an entry wants memory.
use Rattle.std.specs.Prelude.{◌≡◌, ℕ, Bool, true, List, Some, length}
use Rattle.lru.specs.LruCache.{LruCache, last_entry}
use Rattle.quilt_journal.specs.Changed.{is_changed}
use Rattle.quilt_pool.specs.declared.frame.Frame.{Frame}

-- where the pool is full and its last entry is dirty, that page is among the changed ones: its slot was written
abbrev pub IsPassedOn : LruCache ℕ Frame → List Bool → Type 0
IsPassedOn table changed = length table.entries ≡ table.cap → (page : ℕ) (f : Frame) → last_entry table.entries ≡ Some (page, f) → f.is_dirty ≡ true
    → is_changed changed page ≡ true
