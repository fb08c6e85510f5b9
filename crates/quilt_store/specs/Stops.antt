-- Why a call over a store of pages stops.
use Rattle.std.specs.Prelude.{◌≢◌, ℕ, ◌≤◌, Result, IsErrOf}
use Rattle.quilt_types.specs.declared.stop.Stop.{Stop}
use Rattle.quilt_types.specs.declared.stop.Stop.TheVariants.{Device, Damaged}
use Rattle.quilt_world.specs.Causes.{Rose}

-- the count of faults does not fall, and `Device` comes only where it rose
pub record HasStopCause {T : Type 0} (before now : ℕ) (result : Result T Stop) : Type 0 where
  pub later : before ≤ now
  pub device : IsErrOf result Device → Rose before now

-- no page is said to be damaged
abbrev pub IsNotDamage : Stop → Type 0
IsNotDamage stop = (page : ℕ) → stop ≢ Damaged page
