-- Points that are added to others.
use Rattle.std.proofs.Common.{◌≡◌, ◌++◌, Bool, true, Result, Ok, Err, IfOk, OnOk, List, sym, subst, All}
use Rattle.std.proofs.lemmas.List.Elements.{All-append}
use Rattle.quilt_types.specs.declared.stop.Stop.{Stop}

-- what each of both has, all have
pub added_all : {X : Type 0} (r : Result Bool Stop) (P : X → Type 0) (old here new : List X) → All P old → All P here
    → IfOk r (λ t. (t ≡ true) × (new ≡ old ++ here)) → OnOk r (All P new)
added_all (Ok t) P old here new a b f = subst (All P) (sym f.1) (All-append P old here a b)
added_all (Err e) P old here new a b f = tt
