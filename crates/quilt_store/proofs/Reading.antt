-- What calls leave of a store, one behind the other.
use Rattle.std.proofs.Common.{◌∙◌, ◌≤◌, ℕ, refl, ap, Result, Ok, Err, arith}
use Rattle.std.specs.Prelude.{IsErrOf}
use Rattle.quilt_types.specs.declared.stop.Stop.{Stop}
use Rattle.quilt_types.specs.declared.stop.Stop.TheVariants.{Device}
use Rattle.quilt_world.specs.Causes.{Rose}
use Rattle.quilt_store.specs.declared.store.PageStore.{Ghosts}
use Rattle.quilt_store.specs.Calls.{OnlyReads, IsOnlyRead}

-- a count that rose behind another moment rose
pub rose_since : {before between now : ℕ} → before ≤ between → Rose between now → Rose before now
rose_since at_most rose = omega arith

module _ {S : Type 0} (g : Ghosts S) where
  -- where no call came
  pub only_reads_same : {T : Type 0} (v : T) (s : S) → g.later s s → OnlyReads g s s (Ok v)
  only_reads_same v s later = record { size = refl; told = refl; free = refl; later = later; changed = omega arith; faults = omega arith; device = tt }

  -- one call, whose error is handed on, or whose value is looked at
  pub only_reads_err : {T U : Type 0} {s t : S} {e : Stop} → OnlyReads {T = T} g s t (Err e) → OnlyReads {T = U} g s t (Err e)
  only_reads_err a = record { size = a.size; told = a.told; free = a.free; later = a.later; changed = a.changed; faults = a.faults; device = a.device }

  pub only_reads_ok : {T U : Type 0} {s t : S} {result : Result T Stop} → OnlyReads g s t result → (v : U) → OnlyReads g s t (Ok v)
  only_reads_ok a v = record { size = a.size; told = a.told; free = a.free; later = a.later; changed = a.changed; faults = a.faults; device = tt }

  -- one call, and behind it an answer of its own that is no fault of the device
  pub only_reads_free : {T U : Type 0} {s t : S} {first : Result T Stop} (result : Result U Stop) → OnlyReads g s t first → (IsErrOf result Device → ⊥)
      → OnlyReads g s t result
  only_reads_free (Ok v) a never = only_reads_ok a v
  only_reads_free (Err e) a never = record {
    size = a.size;
    told = a.told;
    free = a.free;
    later = a.later;
    changed = a.changed;
    faults = a.faults;
    device = λ is. absurd (never (ap Err is));
  }

  module _ (goes_on : (s t u : S) → g.later s t → g.later t u → g.later s u) {T U : Type 0} (s t u : S) where
    -- two calls, whose answer is the second's
    pub only_reads_then : {first : Result T Stop} {result : Result U Stop} → OnlyReads g s t first → OnlyReads g t u result → OnlyReads g s u result
    only_reads_then {result = Ok v} a b = record {
      size = b.size ∙ a.size;
      told = b.told ∙ a.told;
      free = b.free ∙ a.free;
      later = goes_on s t u a.later b.later;
      changed = (let x = a.changed in let y = b.changed in omega arith);
      faults = (let x = a.faults in let y = b.faults in omega arith);
      device = tt;
    }
    only_reads_then {result = Err e} a b = record {
      size = b.size ∙ a.size;
      told = b.told ∙ a.told;
      free = b.free ∙ a.free;
      later = goes_on s t u a.later b.later;
      changed = (let x = a.changed in let y = b.changed in omega arith);
      faults = (let x = a.faults in let y = b.faults in omega arith);
      device = λ is. rose_since a.faults (b.device is);
    }

    -- a call behind those that a loop has made so far
    pub read_on : {first : Result T Stop} {result : Result U Stop} → OnlyReads g s t first → OnlyReads g t u result → IsOnlyRead g s u
    read_on a b = record {
      size = b.size ∙ a.size;
      told = b.told ∙ a.told;
      free = b.free ∙ a.free;
      later = goes_on s t u a.later b.later;
      changed = (let x = a.changed in let y = b.changed in omega arith);
      faults = (let x = a.faults in let y = b.faults in omega arith);
      device = tt;
    }
