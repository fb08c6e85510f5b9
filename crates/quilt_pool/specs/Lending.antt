-- What a pool is, once a page that it lent to be changed has come back.
use Rattle.std.proofs.Common.{ℕ, ◌≤◌, List, nat_eq, sym, ◌∙◌, subst}
use Rattle.std.specs.Borrow.{Fml, MutBor, Lends, Array, u8 as byte}
use Rattle.std.specs.List.{IsDistinct}
use Rattle.std.proofs.lemmas.Map.{keys-set_value, length-set_value}
use Rattle.lru.specs.LruCache.{lru_cache}
use Rattle.quilt_pool.specs.declared.pool.Pool.{Pool}
use Rattle.quilt_pool.specs.Entries.{entry_edited, is_dirty}
use Rattle.quilt_pool.specs.Dirt.{dirt_edited}
use Rattle.quilt_pool.specs.contracts.pool.Pool.{the_row as pool_row}

-- the pool where the page has these bytes
abbrev pub edited_pool : Pool → ℕ → List ℕ → Pool
edited_pool p page w = record {
  table = lru_cache (entry_edited p.table.entries page w) p.table.cap;
  dirty = p.dirty;
  fetched = p.fetched;
  distinct = subst (IsDistinct nat_eq) (sym (keys-set_value (nat_eq page) p.table.entries (record { bytes = w; is_dirty = is_dirty p.table.entries page }))) p.distinct;
  fits = subst (λ n. n ≤ p.table.cap) (sym (length-set_value (nat_eq page) p.table.entries (record { bytes = w; is_dirty = is_dirty p.table.entries page }))) p.fits;
  least = p.least;
  listed = λ i d. p.listed i (sym (dirt_edited page w i p.table.entries) ∙ d);
}

-- the page has the bytes that are left behind the reference
abbrev pub LendsPage : MutBor Pool → ℕ → MutBor (List ℕ) → Fml
LendsPage s page r = Lends pool_row (Array byte 4096) s r (edited_pool s.now page)
