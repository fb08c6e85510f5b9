-- A pool as it is seen: a capacity, and a list of entries.
use Rattle.std.specs.Prelude.{ℕ, List}
use Rattle.lru.specs.LruCache.{LruCache}
use Rattle.quilt_pool.specs.Entries.{Entries}
use Rattle.quilt_pool.specs.declared.frame.Frame.{Frame}
use Rattle.quilt_pool.specs.declared.pool.Pool.{Pool}

-- the entries, the last used first, and how many there may be
abbrev pub seen : Pool → LruCache ℕ Frame
seen p = p.table

-- the pages that the pool holds with their bytes, the last used first
abbrev pub entries_of : Pool → Entries
entries_of p = p.table.entries

-- how many pages the pool holds at most
abbrev pub pool_capacity : Pool → ℕ
pool_capacity p = p.table.cap

-- the bits of the pages that may be dirty: each dirty page has its bit
abbrev pub dirty_bits : Pool → List ℕ
dirty_bits p = p.dirty

-- the bytes of the page that was read last to be brought
abbrev pub fetched_of : Pool → List ℕ
fetched_of p = p.fetched
