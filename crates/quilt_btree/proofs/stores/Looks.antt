-- What calls that only look leave of a store, where an error is handed on, or a page is looked at where it lies.
use Rattle.std.proofs.Common.{◌∙◌, ◌≡◌, sym, ℕ, ◌+◌, ◌*◌, ◌≤◌, Option, Some, None, Result, Ok, Err, arith}
use Rattle.std.specs.Prelude.{IsErrOf}
use Rattle.std.specs.Result.{IsErrAnd}
use Rattle.quilt_types.specs.declared.stop.Stop.{Stop}
use Rattle.quilt_types.specs.declared.stop.Stop.TheVariants.{Device, Damaged}
use Rattle.quilt_world.specs.Tale.{Goes}
use Rattle.quilt_world.proofs.ReadCounts.{reads_then, reads_more}
use Rattle.quilt_store.specs.declared.store.PageStore.{Ghosts}
use Rattle.quilt_store.specs.declared.store.StoreErr.{StoreErr}
use Rattle.quilt_store.specs.declared.store.StoreErr.TheVariants as store
use Rattle.quilt_store.specs.Calls.{OnlyReads}
use Rattle.quilt_store.specs.Store.{HasStoreCause}
use Rattle.quilt_store.proofs.Reading.{only_reads_free}
use Rattle.quilt_btree.specs.Stops.{store_stop}
use Rattle.quilt_btree.proofs.stores.Leaves.{none_within}

-- so many more may have come
pub reads_less : (i j : ℕ) (a b : Option ℕ) → Goes {A = ℕ} (λ old new. new ≤ old + i) a b → Goes {A = ℕ} (λ old new. new ≤ old + (i + j)) a b
reads_less i j a b x = reads_more i (i + j) a b (omega arith) x

-- a look that reads nothing, and one that reads a page
pub none_on : (a b c : Option ℕ) → Goes {A = ℕ} (λ old new. new ≤ old) a b → Goes {A = ℕ} (λ old new. new ≤ old + 1) b c
    → Goes {A = ℕ} (λ old new. new ≤ old + 1) a c
none_on a b c x y = reads_then 0 1 1 a b c (omega arith) (none_within 0 a b x) y

-- the pages above the leaf of a tree of height 3 at most
pub found_read : (height : ℕ) (a b : Option ℕ) → height ≤ 3 → Goes {A = ℕ} (λ old new. new + 1 ≤ old + height) a b
    → Goes {A = ℕ} (λ old new. new ≤ old + 2) a b
found_read height (Some a) (Some b) le x = omega arith
found_read height (Some a) None le x = absurd x
found_read height None (Some b) le x = absurd x
found_read height None None le x = tt

-- a look that may go down twice
pub twice_read : (height : ℕ) (a b : Option ℕ) → height ≤ 3 → Goes {A = ℕ} (λ old new. new + 1 ≤ old + 2 * height) a b
    → Goes {A = ℕ} (λ old new. new ≤ old + 5) a b
twice_read height (Some a) (Some b) le x = omega arith
twice_read height (Some a) None le x = absurd x
twice_read height None (Some b) le x = absurd x
twice_read height None None le x = tt

-- the first leaf of a range
pub first_read : (m : ℕ) (a b : Option ℕ) → Goes {A = ℕ} (λ old new. new ≤ old + 3) a b → Goes {A = ℕ} (λ old new. new ≤ old + 6 + 3 * m) a b
first_read m (Some a) (Some b) x = omega arith
first_read m (Some a) None x = absurd x
first_read m None (Some b) x = absurd x
first_read m None None x = tt

-- the first leaf of a range, and the others
pub rest_read : (n m : ℕ) (a b c : Option ℕ) → Goes {A = ℕ} (λ old new. new ≤ old + 3) a b
    → Goes {A = ℕ} (λ old new. new + 3 * n ≤ old + 3 + 3 * m) b c → Goes {A = ℕ} (λ old new. new ≤ old + 6 + 3 * m) a c
rest_read n m (Some a) (Some b) (Some c) x y = omega arith
rest_read n m (Some a) (Some b) None x y = absurd y
rest_read n m (Some a) None c x y = absurd x
rest_read n m None (Some b) c x y = absurd x
rest_read n m None None (Some c) x y = absurd y
rest_read n m None None None x y = tt

-- the tree tells of the device where the store does
device_stop : {T : Type 0} (r : Result T StoreErr) (e : StoreErr) (stop : Stop) → r ≡ Err e → stop ≡ store_stop e → stop ≡ Device
    → IsErrOf r store.Device
device_stop r store.Device stop is on at = is
device_stop r store.Memory stop is on at = absurd (other on at)
  where
    other : {x : Stop} → x ≡ store_stop store.Memory → x ≡ Device → ⊥
    other on at = cc

module _ {S : Type 0} (g : Ghosts S) where
  -- the error is handed on
  pub only_reads_handed : {T U : Type 0} {s t : S} {e : Stop} {result : Result U Stop} → IsErrAnd result (λ y. y ≡ e)
      → OnlyReads {T = T} g s t (Err e) → OnlyReads g s t result
  only_reads_handed {result = Ok v} on a = absurd on
  only_reads_handed {result = Err y} on a = record {
    size = a.size;
    told = a.told;
    free = a.free;
    later = a.later;
    changed = a.changed;
    faults = a.faults;
    device = λ is. a.device (sym on ∙ is);
  }

  -- behind the look a page is said to be damaged
  pub only_reads_damaged : {T U : Type 0} {s t : S} {first : Result T Stop} (page : ℕ) → OnlyReads g s t first
      → OnlyReads {T = U} g s t (Err (Damaged page))
  only_reads_damaged page a = only_reads_free g (Err (Damaged page)) a no_device
    where
      no_device : {T : Type 0} → IsErrOf {T = T} {E = Stop} (Err (Damaged page)) Device → ⊥
      no_device h = cc

  -- a page was looked at where it lies
  pub page_ok : {T U : Type 0} {s t : S} {r : Result T StoreErr} (v : U) → HasStoreCause (g.faults s) (g.faults t) r → g.later s t
      → g.size t ≡ g.size s → g.free t ≡ g.free s → g.told t ≡ g.told s → g.changed t ≤ g.changed s → OnlyReads g s t (Ok v)
  page_ok v cause later size free told changed =
      record { size = size; told = told; free = free; later = later; changed = changed; faults = cause.later; device = tt }

  -- a page was to be looked at, and the store's reason is the tree's
  pub page_err : {T U : Type 0} {s t : S} {r : Result T StoreErr} {e : StoreErr} {stop : Stop} → r ≡ Err e → stop ≡ store_stop e
      → HasStoreCause (g.faults s) (g.faults t) r → g.later s t → g.size t ≡ g.size s → g.free t ≡ g.free s → g.told t ≡ g.told s
      → g.changed t ≤ g.changed s → OnlyReads {T = U} g s t (Err stop)
  page_err {r = r} {e = e} {stop = stop} is on cause later size free told changed = record {
    size = size;
    told = told;
    free = free;
    later = later;
    changed = changed;
    faults = cause.later;
    device = λ at. cause.device (device_stop r e stop is on at);
  }
