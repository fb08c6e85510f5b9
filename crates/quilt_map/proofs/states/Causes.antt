-- Why two calls stop, one behind the other.
use Rattle.std.proofs.Common.{ℕ, Result, arith}
use Rattle.quilt_types.specs.declared.stop.Stop.{Stop}
use Rattle.quilt_store.specs.Stops.{HasStopCause}
use Rattle.quilt_store.proofs.Reading.{rose_since}

pub cause_then : {T U : Type 0} {a b c : ℕ} {first : Result T Stop} {result : Result U Stop} → HasStopCause a b first → HasStopCause b c result
    → HasStopCause a c result
cause_then p q = record { later = (let x = p.later in let y = q.later in omega arith); device = λ is. rose_since p.later (q.device is) }
