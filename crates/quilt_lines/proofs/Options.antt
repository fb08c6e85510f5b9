-- Whether there is a value.
use Rattle.std.proofs.Common.{◌≡◌, Option, Some, None, false, refl, sym}
use Rattle.std.specs.Prelude.{IsSome, is_some}
use Rattle.std.proofs.lemmas.Option.{none-some}

pub none_there : {X : Type 0} (o : Option X) → o ≡ None → IsSome o → ⊥
none_there None e h = cc
none_there (Some x) e h = absurd (none-some x (sym e))

pub none_at : {X : Type 0} (o : Option X) → false ≡ is_some o → o ≡ None
none_at None e = refl
none_at (Some x) e = cc
