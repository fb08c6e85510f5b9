-- The error that a `?` hands on.
use Rattle.std.proofs.Common.{◌≡◌, Result, Ok, Err, ap}
use Rattle.std.specs.Result.{IsErrAnd}

pub handed_on : {T E : Type 0} {e : E} (r : Result T E) → IsErrAnd r (λ y. y ≡ e) → r ≡ Err e
handed_on (Ok x) h = absurd h
handed_on (Err y) h = ap Err h
