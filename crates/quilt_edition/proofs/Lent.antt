-- What a book tells of a page that it lends, and what a cause says of another result.
use Rattle.std.proofs.Common.{Result, Ok, Err, ◌≡◌, ℕ, ◌+◌, ◌≤◌, Option, Some, None, arith, refl}
use Rattle.quilt_world.specs.Tale.{Tale, Goes}
use Rattle.quilt_store.specs.declared.store.StoreErr.{StoreErr}
use Rattle.quilt_store.specs.declared.store.StoreErr.TheVariants.{Device, Memory}
use Rattle.quilt_store.specs.Store.{HasStoreCause}
use Rattle.quilt_edition.specs.Keeping.{tale_reads}

pub memory_cause : {B : Type 0} (n : ℕ) → HasStoreCause {T = B} n n (Err Memory)
memory_cause n = record { later = omega arith; device = λ d. absurd cc }

module _ {A B : Type 0} where
  pub cause_err : (m n : ℕ) (r : Result A StoreErr) (e : StoreErr) → r ≡ Err e → HasStoreCause {T = A} m n r → HasStoreCause {T = B} m n (Err e)
  cause_err m n r Device is h = record { later = h.later; device = λ d. h.device is }
  cause_err m n r Memory is h = record { later = h.later; device = λ d. absurd cc }

  pub cause_ok : (m n : ℕ) (r : Result A StoreErr) (x : B) → HasStoreCause {T = A} m n r → HasStoreCause {T = B} m n (Ok x)
  cause_ok m n r x h = record { later = h.later; device = λ d. absurd cc }

pub reads_same : (o : Option Tale) → Goes (λ (old new : ℕ). new ≤ old) (tale_reads o) (tale_reads o)
reads_same None = tt
reads_same (Some t) = omega arith

pub reads_same_more : (o : Option Tale) → Goes (λ (old new : ℕ). new ≤ old + 1) (tale_reads o) (tale_reads o)
reads_same_more None = tt
reads_same_more (Some t) = omega arith

pub reads_more : (o t : Option Tale) → Goes (λ old new. new.reads ≤ old.reads + 1) o t → Goes (λ (old new : ℕ). new ≤ old + 1) (tale_reads o) (tale_reads t)
reads_more None None goes = goes
reads_more None (Some t) goes = goes
reads_more (Some o) None goes = goes
reads_more (Some o) (Some t) goes = goes
