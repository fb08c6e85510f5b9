-- What calls that look and calls that edit leave of a store, one behind the other.
use Rattle.std.proofs.Common.{◌∙◌, ◌≡◌, ◌≢◌, inl, inr, ℕ, ◌+◌, ◌-◌, ◌*◌, ◌≤◌, Option, Some, None, Result, Ok, Err, le_refl, arith}
use Rattle.std.specs.Prelude.{IsErrOf}
use Rattle.std.specs.Result.{IsErrAnd}
use Rattle.std.proofs.lemmas.Bool.{cases_lt}
use Rattle.quilt_types.specs.declared.stop.Stop.{Stop}
use Rattle.quilt_types.specs.declared.stop.Stop.TheVariants.{Device, Damaged}
use Rattle.quilt_world.specs.Tale.{Goes}
use Rattle.quilt_store.specs.declared.store.PageStore.{Ghosts}
use Rattle.quilt_store.specs.Calls.{OnlyReads}
use Rattle.quilt_store.proofs.Reading.{rose_since}
use Rattle.quilt_btree.specs.Costs.{EditsWithin, EditsWithinOnOk}
use Rattle.quilt_world.proofs.ReadCounts.{reads_then, reads_more}

-- an answer and damage are no fault of the device
pub not_device : {T : Type 0} (v : T) → IsErrOf {T = T} {E = Stop} (Ok v) Device → ⊥
not_device v h = cc

pub damaged_device : {T : Type 0} {q : ℕ} → IsErrOf {T = T} {E = Stop} (Err (Damaged q)) Device → ⊥
damaged_device h = cc

-- where nothing was read, so many were at most
pub none_within : (k : ℕ) (a b : Option ℕ) → Goes {A = ℕ} (λ old new. new ≤ old) a b → Goes {A = ℕ} (λ old new. new ≤ old + k) a b
none_within k (Some a) (Some b) x = omega arith
none_within k (Some a) None x = absurd x
none_within k None (Some b) x = absurd x
none_within k None None x = tt

module _ {S : Type 0} (g : Ghosts S) where
  -- a call that only reads is one that edits nothing
  pub looked : {T : Type 0} {s t : S} {result : Result T Stop} (k : ℕ) → OnlyReads g s t result → Goes (λ old new. new ≤ old + k) (g.reads s) (g.reads t)
      → EditsWithin g 0 k s t result
  looked {result = Ok v} k a r = record {
    cause = record { later = a.faults; device = λ is. absurd (not_device v is) };
    size = a.size;
    later = a.later;
    changed = let x = a.changed in omega arith;
    reads = r;
  }
  looked {result = Err e} k a r = record {
    cause = record { later = a.faults; device = λ is. a.device (same e is) };
    size = a.size;
    later = a.later;
    changed = let x = a.changed in omega arith;
    reads = r;
  }
    where
      same : {T : Type 0} (x : Stop) → IsErrOf {T = T} {E = Stop} (Err x) Device → x ≡ Device
      same x h = cc

  -- a page was taken or given back, which reads and changes none
  pub page_moved : {s t : S} → g.later s t → g.size t ≡ g.size s → g.faults t ≡ g.faults s → Goes (λ old new. new ≤ old) (g.reads s) (g.reads t)
      → g.changed t ≤ g.changed s → EditsWithin {T = Unit {0}} g 0 0 s t (Ok tt)
  page_moved later size faults reads changed = record {
    cause = record { later = omega arith; device = λ is. absurd (not_device tt is) };
    size = size;
    later = later;
    changed = omega arith;
    reads = none_within 0 _ _ reads;
  }

  -- another answer, which is no fault of the device
  pub edits_free : {T U : Type 0} {s t : S} {first : Result T Stop} {m n : ℕ} (k l : ℕ) (result : Result U Stop) → m ≤ k → n ≤ l
      → (IsErrOf result Device → ⊥) → EditsWithin g m n s t first → EditsWithin g k l s t result
  edits_free {n} k l result le fe never a = record {
    cause = record { later = a.cause.later; device = λ is. absurd (never is) };
    size = a.size;
    later = a.later;
    changed = let x = a.changed in omega arith;
    reads = reads_more n l _ _ fe a.reads;
  }

  -- so many may be changed and read
  pub edits_within : {T : Type 0} {s t : S} {result : Result T Stop} {m n : ℕ} (k l : ℕ) → m ≤ k → n ≤ l → EditsWithin g m n s t result
      → EditsWithin g k l s t result
  edits_within {n} k l le fe a = record {
    cause = a.cause;
    size = a.size;
    later = a.later;
    changed = let x = a.changed in omega arith;
    reads = reads_more n l _ _ fe a.reads;
  }

  -- so many more than they are at most
  pub edits_more : {T : Type 0} {s t : S} {result : Result T Stop} {m n : ℕ} (i j : ℕ) → EditsWithin g m n s t result
      → EditsWithin g (m + i) (n + j) s t result
  edits_more {m = m} {n = n} i j a = edits_within (m + i) (n + j) (omega arith) (omega arith) a

  -- the error is handed on
  pub edits_err : {T U : Type 0} {s t : S} {m n : ℕ} {e : Stop} {result : Result U Stop} → IsErrAnd result (λ y. y ≡ e)
      → EditsWithin {T = T} g m n s t (Err e) → EditsWithin g m n s t result
  edits_err {result = Ok v} on a = absurd on
  edits_err {e = e} {result = Err y} on a = record {
    cause = record { later = a.cause.later; device = λ is. a.cause.device (same e y on is) };
    size = a.size;
    later = a.later;
    changed = a.changed;
    reads = a.reads;
  }
    where
      same : {T U : Type 0} (x z : Stop) → z ≡ x → IsErrOf {T = U} {E = Stop} (Err z) Device → IsErrOf {T = T} {E = Stop} (Err x) Device
      same {T} {U} x z e is = cc

  -- behind the call comes another answer, which is no fault of the device
  pub edits_answer : {T U : Type 0} {s t : S} {m n : ℕ} {first : Result T Stop} (result : Result U Stop) → (IsErrOf result Device → ⊥)
      → EditsWithin g m n s t first → EditsWithin g m n s t result
  edits_answer {m = m} {n = n} result never a = edits_free m n result (le_refl m) (le_refl n) never a

  -- a value comes behind it
  pub edits_ok : {T U : Type 0} {s t : S} {m n : ℕ} {first : Result T Stop} (v : U) → EditsWithin g m n s t first → EditsWithin g m n s t (Ok v)
  edits_ok v a = edits_answer (Ok v) (not_device v) a

  -- damage is found behind it
  pub edits_damaged : {T U : Type 0} {s t : S} {m n : ℕ} {first : Result T Stop} (page : ℕ) → EditsWithin g m n s t first
      → EditsWithin {T = U} g m n s t (Err (Damaged page))
  edits_damaged page a = edits_answer (Err (Damaged page)) damaged_device a

  -- a removal from a tree of height 3 at most
  pub removes_tree : {T : Type 0} {s t : S} {result : Result T Stop} (height : ℕ) → height ≤ 3 → EditsWithin g (2 * height) (3 * height - 2) s t result
      → EditsWithin g 6 7 s t result
  removes_tree height le a = edits_within 6 7 (omega arith) (omega arith) a

  -- an insertion into one, which changes a page fewer where it is as high as that
  pub inserts_tree : {T : Type 0} {s t : S} {result : Result T Stop} (height : ℕ) → height ≤ 3
      → (3 ≤ height → g.changed t + 1 ≤ g.changed s + 2 * height) → EditsWithin g (2 * height) height s t result → EditsWithin g 5 3 s t result
  inserts_tree height le less a = record {
    cause = a.cause;
    size = a.size;
    later = a.later;
    changed = elim (cases_lt height 3) [ inl lt ↦ (let x = a.changed in omega arith) | inr ge ↦ (let x = less ge in omega arith) ];
    reads = reads_more height 3 _ _ le a.reads;
  }

  -- an insertion into one that is lower
  pub inserts_low : {T : Type 0} {s t : S} {result : Result T Stop} (height : ℕ) → height ≤ 3 → height ≢ 3 → EditsWithin g (2 * height) height s t result
      → EditsWithin g 4 3 s t result
  inserts_low height le low a = edits_within 4 3 (omega arith) le a

  module _ (goes_on : (s t u : S) → g.later s t → g.later t u → g.later s u) where
    -- two calls, whose answer is the second's
    pub edits_then : {T U : Type 0} {s t u : S} {first : Result T Stop} {result : Result U Stop} {m n i j : ℕ} (k l : ℕ) → m + i ≤ k → n + j ≤ l
        → EditsWithin g m n s t first → EditsWithin g i j t u result → EditsWithin g k l s u result
    edits_then {s = s} {t = t} {u = u} {n} {j} k l le fe a b = record {
      cause = record {
        later = let x = a.cause.later in let y = b.cause.later in omega arith;
        device = λ is. rose_since a.cause.later (b.cause.device is);
      };
      size = b.size ∙ a.size;
      later = goes_on s t u a.later b.later;
      changed = let x = a.changed in let y = b.changed in omega arith;
      reads = reads_then n j l _ _ _ fe a.reads b.reads;
    }

    -- the pages that may be changed and read add up
    pub edits_on : {T U : Type 0} {s t u : S} {first : Result T Stop} {result : Result U Stop} {m n i j : ℕ} → EditsWithin g m n s t first
        → EditsWithin g i j t u result → EditsWithin g (m + i) (n + j) s u result
    edits_on {m = m} {n = n} {i = i} {j = j} a b = edits_then (m + i) (n + j) (le_refl (m + i)) (le_refl (n + j)) a b

    -- a look at a page, and a removal below it
    pub removes_below : {T U : Type 0} {s t u : S} {first : Result T Stop} {result : Result U Stop} (height : ℕ) → 1 ≤ height → OnlyReads g s t first
        → Goes (λ old new. new ≤ old + 1) (g.reads s) (g.reads t) → EditsWithin g (2 * (height - 1)) (3 * (height - 1) - 2) t u result
        → EditsWithin g (2 * height) (3 * height - 2) s u result
    removes_below height some a r b =
        edits_then (2 * height) (3 * height - 2) (omega arith) (omega arith) (looked 1 a r) b

    -- and the page above, where the removal changed one page fewer
    pub removes_above : {T U V : Type 0} {s t u v : S} {first : Result T Stop} {below : Result U Stop} {result : Result V Stop} (height : ℕ) → 1 ≤ height
        → height ≢ 1 → g.changed u + 1 ≤ g.changed t + 2 * (height - 1) → OnlyReads g s t first → Goes (λ old new. new ≤ old + 1) (g.reads s) (g.reads t)
        → EditsWithin g (2 * (height - 1)) (3 * (height - 1) - 2) t u below → EditsWithin g 3 2 u v result
        → EditsWithin g (2 * height) (3 * height - 2) s v result
    removes_above height some ne less a r b up =
        let all = edits_then (2 * (height - 1)) (3 * height - 4) (omega arith) (omega arith) (looked 1 a r) b in
        edits_then {m = 2 * (height - 1) - 1} {n = 3 * height - 4} (2 * height) (3 * height - 2) (omega arith) (omega arith) (record {
          cause = all.cause;
          size = all.size;
          later = all.later;
          changed = let x = a.changed in omega arith;
          reads = all.reads;
        }) up

    -- a look at a page, and an insertion below it
    pub inserts_below : {T U : Type 0} {s t u : S} {first : Result T Stop} {result : Result U Stop} (height : ℕ) → 1 ≤ height → OnlyReads g s t first
        → Goes (λ old new. new ≤ old + 1) (g.reads s) (g.reads t) → EditsWithin g (2 * (height - 1)) (height - 1) t u result
        → EditsWithin g (2 * height) height s u result
    inserts_below height some a r b =
        edits_then (2 * height) height (omega arith) (omega arith) (looked 1 a r) b

    -- and the page above
    pub inserts_above : {T U V : Type 0} {s t u v : S} {first : Result T Stop} {below : Result U Stop} {result : Result V Stop} (height : ℕ) → 1 ≤ height
        → OnlyReads g s t first → Goes (λ old new. new ≤ old + 1) (g.reads s) (g.reads t) → EditsWithin g (2 * (height - 1)) (height - 1) t u below
        → EditsWithin g 2 0 u v result → EditsWithin g (2 * height) height s v result
    inserts_above height some a r b up =
        edits_then (2 * height) height (omega arith) (omega arith)
        (edits_then (2 * (height - 1)) height (omega arith) (omega arith) (looked 1 a r) b) up

    -- a look, and an edit whose reads are bounded where it answers
    pub edits_behind : {T U : Type 0} {s t u : S} {first : Result T Stop} {result : Result U Stop} (k m n l : ℕ) → k + n ≤ l → OnlyReads g s t first
        → Goes (λ old new. new ≤ old + k) (g.reads s) (g.reads t) → EditsWithinOnOk g m n t u result → EditsWithinOnOk g m l s u result
    edits_behind {s = s} {t = t} {u = u} {result = Ok v} k m n l le a r b = record {
      cause = record { later = let x = a.faults in let y = b.cause.later in omega arith; device = λ is. rose_since a.faults (b.cause.device is) };
      size = b.size ∙ a.size;
      later = goes_on s t u a.later b.later;
      changed = let x = a.changed in let y = b.changed in omega arith;
      reads = reads_then k n l _ _ _ le r b.reads;
    }
    edits_behind {s = s} {t = t} {u = u} {result = Err e} k m n l le a r b = record {
      cause = record { later = let x = a.faults in let y = b.cause.later in omega arith; device = λ is. rose_since a.faults (b.cause.device is) };
      size = b.size ∙ a.size;
      later = goes_on s t u a.later b.later;
      changed = let x = a.changed in let y = b.changed in omega arith;
      reads = tt;
    }
