-- What tests leave: truth values that stand by each other, and an optional value that is not there.
use Rattle.std.proofs.Common.{◌≡◌, Bool, true, false, T, ◌&&◌, Option, Some, None, refl}
use Rattle.std.specs.Option.{is_some}

pub T-first : (a b : Bool) → T (a && b) → T a
T-first true b h = tt
T-first false b h = absurd h

pub T-second : (a b : Bool) → T (a && b) → T b
T-second true b h = h
T-second false b h = absurd h

pub T-both : (a b : Bool) → T a → T b → T (a && b)
T-both true b h g = g
T-both false b h g = absurd h

pub and_true : (b : Bool) → b ≡ (b && true)
and_true true = refl
and_true false = refl

pub none_from : {X : Type 0} (o : Option X) → is_some o ≡ false → o ≡ None
none_from None h = refl
none_from (Some x) h = cc
