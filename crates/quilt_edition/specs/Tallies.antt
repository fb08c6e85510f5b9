-- A count of free pages that is kept.
use Rattle.std.specs.Prelude.{◌≡◌, ℕ, ◌<◌, ◌≤◌, Bool, false}
use Rattle.std.proofs.Props.{props}
use Rattle.quilt_store.specs.Store.{count_free}
use Rattle.quilt_edition.specs.declared.free.Tally.{Tally}

-- it counts the free pages, and none is free below its first one
pub record IsFreeTally (n : ℕ) (free : ℕ → Bool) (t : Tally) : Type 0 where
  pub least : 1 ≤ t.first
  pub counted : t.count ≡ count_free free n
  pub before : (i : ℕ) → i < t.first → free i ≡ false

-- there is one proof at most of that
pub IsTally-prop : (n : ℕ) (free : ℕ → Bool) (t : Tally) → IsProp (IsFreeTally n free t)
IsTally-prop n free t = Prim.hlevel props
