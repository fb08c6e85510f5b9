-- What the first edits of a run leave of a store.
use Rattle.std.proofs.Common.{◌≡◌, ◌∙◌, sym, subst, ℕ, zero, suc, ◌+◌, ◌-◌, ◌≤◌, List, [], ◌∷◌, length, take, Option, Some, None, Result, Ok, Err, arith}
use Rattle.std.specs.Prelude.{IsErrOf}
use Rattle.quilt_types.specs.declared.stop.Stop.{Stop}
use Rattle.quilt_types.specs.declared.stop.Stop.TheVariants.{Device}
use Rattle.quilt_world.specs.Tale.{Goes}
use Rattle.quilt_store.specs.declared.store.PageStore.{Ghosts}
use Rattle.quilt_store.proofs.Reading.{rose_since}
use Rattle.quilt_btree.specs.declared.edit.Edit.{Edit}
use Rattle.quilt_btree.specs.Costs.{EditsWithin, EditsWithinOnOk}
use Rattle.quilt_btree.specs.Batches.{cost_of, looks_of, cost, looks, EditsFirst}
use Rattle.quilt_btree.proofs.stores.Leaves.{not_device}
use Rattle.quilt_btree.proofs.batches.Leaves.{edit_at}
use Rattle.quilt_btree.proofs.batches.Whole.{least_cost, least_looks}

read_less : (m k l : ℕ) (a b : Option ℕ) → k ≤ l → Goes (λ x y. y + m ≤ x + k) a b → Goes (λ x y. y + 0 ≤ x + l) a b
read_less m k l (Some a) (Some b) le f = omega arith
read_less m k l (Some a) None le f = f
read_less m k l None (Some b) le f = f
read_less m k l None None le f = f

read_plain : (k l : ℕ) (a b : Option ℕ) → k ≤ l → Goes (λ x y. y ≤ x + k) a b → Goes (λ x y. y + 0 ≤ x + l) a b
read_plain k l (Some a) (Some b) le f = omega arith
read_plain k l (Some a) None le f = f
read_plain k l None (Some b) le f = f
read_plain k l None None le f = f

-- and what is read where nothing is spared
pub read_all : (k : ℕ) (a b : Option ℕ) → Goes (λ x y. y + 0 ≤ x + k) a b → Goes (λ x y. y ≤ x + k) a b
read_all k (Some a) (Some b) f = omega arith
read_all k (Some a) None f = f
read_all k None (Some b) f = f
read_all k None None f = f

read_behind : (h k : ℕ) (a b c : Option ℕ) → h ≤ 3 → Goes (λ x y. y ≤ x + h) a b → Goes (λ x y. y + 3 ≤ x + k) b c → Goes (λ x y. y + 0 ≤ x + k) a c
read_behind h k (Some a) (Some b) (Some c) le f g = omega arith
read_behind h k (Some a) (Some b) None le f g = g
read_behind h k (Some a) None c le f g = absurd f
read_behind h k None (Some b) c le f g = absurd f
read_behind h k None None (Some c) le f g = g
read_behind h k None None None le f g = f

read_one : (k l : ℕ) (a b : Option ℕ) → k + 3 ≤ l → Goes (λ x y. y ≤ x + k) a b → Goes (λ x y. y + 3 ≤ x + l) a b
read_one k l (Some a) (Some b) le f = omega arith
read_one k l (Some a) None le f = f
read_one k l None (Some b) le f = f
read_one k l None None le f = f

pub some_taken : (run : List Edit) (n : ℕ) → 1 ≤ n → n ≤ length run → 1 ≤ cost (take n run)
some_taken [] n some le = absurd (omega arith)
some_taken (e ∷ run) zero some le = absurd (omega arith)
some_taken (e ∷ run) (suc n) some le = let l = least_cost e in omega arith

onto : {T U : Type 0} (e : Stop) → IsErrOf {T = T} {E = Stop} (Err e) Device → IsErrOf {T = U} {E = Stop} (Err e) Device
onto e h = cc

module _ {S : Type 0} (g : Ghosts S) where
  -- what holds of each answer holds where there is a value
  pub within_ok : {T : Type 0} {s t : S} {m n : ℕ} {result : Result T Stop} → EditsWithin g m n s t result → EditsWithinOnOk g m n s t result
  within_ok {result = Ok v} a = record { cause = a.cause; size = a.size; later = a.later; changed = a.changed; reads = a.reads }
  within_ok {result = Err e} a = record { cause = a.cause; size = a.size; later = a.later; changed = a.changed; reads = tt }

  -- an edit within what it may cost
  pub edit_cost : {T : Type 0} {s t : S} {result : Result T Stop} {edit e : Edit} → edit ≡ e
      → EditsWithin g (cost_of e - 1) (looks_of e - 3) s t result → EditsWithinOnOk g (cost_of edit - 1) (looks_of edit - 3) s t result
  edit_cost {s = s} {t = t} {result = result} is a = subst (λ x. EditsWithinOnOk g (cost_of x - 1) (looks_of x - 3) s t result) (sym is) (within_ok a)

  -- where less was spared than there is to spare
  pub first_spared : {s t : S} {run : List Edit} {result : Result ℕ Stop} → EditsFirst g 1 3 run s t result → EditsFirst g 0 0 run s t result
  first_spared {run = run} {result = Ok n} a = record {
    cause = a.cause;
    size = a.size;
    later = a.later;
    changed = let x = a.changed in omega arith;
    less = tt;
    reads = read_less 3 (looks (take n run)) (looks (take n run)) _ _ (omega arith) a.reads;
  }
  first_spared {result = Err e} a =
      record { cause = a.cause; size = a.size; later = a.later; changed = tt; less = let x = a.less in omega arith; reads = tt }

  -- the first edits, made in a leaf
  pub first_made : {s t : S} (run : List Edit) (n h : ℕ) → 1 ≤ cost (take n run) → h ≤ looks (take n run) → EditsWithinOnOk g 1 h s t (Ok n)
      → EditsFirst g 0 0 run s t (Ok n)
  first_made run n h le fe a = record {
    cause = a.cause;
    size = a.size;
    later = a.later;
    changed = let x = a.changed in omega arith;
    less = tt;
    reads = read_plain h (looks (take n run)) _ _ fe a.reads;
  }

  -- none made, where the leaf was not edited
  pub first_stopped : {s t : S} {first : Result ℕ Stop} (run : List Edit) (h : ℕ) (e : Stop) → 1 ≤ cost run
      → (IsErrOf {T = ℕ} {E = Stop} (Err e) Device → IsErrOf first Device) → EditsWithinOnOk g 1 h s t first → EditsFirst g 0 0 run s t (Err e)
  first_stopped run h e le same a = record {
    cause = record { later = a.cause.later; device = λ is. a.cause.device (same is) };
    size = a.size;
    later = a.later;
    changed = tt;
    less = let x = a.changed in omega arith;
    reads = tt;
  }

  -- the first edits of a run, made within what the first of them may cost
  pub first_only : {T : Type 0} {s t : S} {v : T} (run : List Edit) (n : ℕ) → 1 ≤ length run → 1 ≤ n
      → EditsWithinOnOk g (cost_of (edit_at run 0) - 1) (looks_of (edit_at run 0) - 3) s t (Ok v) → EditsFirst g 1 3 run s t (Ok n)
  first_only [] n some one a = absurd (omega arith)
  first_only (e ∷ run) zero some one a = absurd (omega arith)
  first_only (e ∷ run) (suc n) some one a = record {
    cause = record { later = a.cause.later; device = λ is. absurd (not_device (suc n) is) };
    size = a.size;
    later = a.later;
    changed = let x = a.changed in let c = least_cost e in omega arith;
    less = tt;
    reads = read_one (looks_of e - 3) (looks_of e + looks (take n run)) _ _ (let l = least_looks e in omega arith) a.reads;
  }

  pub first_none : {T : Type 0} {s t : S} (run : List Edit) (e : Stop) → 1 ≤ length run
      → EditsWithinOnOk {T = T} g (cost_of (edit_at run 0) - 1) (looks_of (edit_at run 0) - 3) s t (Err e) → EditsFirst g 1 3 run s t (Err e)
  first_none [] e some a = absurd (omega arith)
  first_none (f ∷ run) e some a = record {
    cause = record { later = a.cause.later; device = λ is. a.cause.device (onto e is) };
    size = a.size;
    later = a.later;
    changed = tt;
    less = let x = a.changed in let c = least_cost f in omega arith;
    reads = tt;
  }

  module _ (goes_on : (s t u : S) → g.later s t → g.later t u → g.later s u) where
    -- the first edit behind a look at its leaf
    pub first_behind : {s t u : S} {n : ℕ} {run : List Edit} {result : Result ℕ Stop} (h : ℕ) → h ≤ 3 → EditsWithinOnOk g 1 h s t (Ok n)
        → EditsFirst g 1 3 run t u result → EditsFirst g 0 0 run s u result
    first_behind {s = s} {t = t} {u = u} {run = run} {result = Ok m} h le a b = record {
      cause = record { later = let x = a.cause.later in let y = b.cause.later in omega arith; device = λ is. absurd (not_device m is) };
      size = b.size ∙ a.size;
      later = goes_on s t u a.later b.later;
      changed = let x = a.changed in let y = b.changed in omega arith;
      less = tt;
      reads = read_behind h (looks (take m run)) _ _ _ le a.reads b.reads;
    }
    first_behind {s = s} {t = t} {u = u} {result = Err e} h le a b = record {
      cause = record
          { later = let x = a.cause.later in let y = b.cause.later in omega arith; device = λ is. rose_since a.cause.later (b.cause.device is) };
      size = b.size ∙ a.size;
      later = goes_on s t u a.later b.later;
      changed = tt;
      less = let x = a.changed in let y = b.less in omega arith;
      reads = tt;
    }
