-- The entry that was used last.
use Rattle.std.proofs.Common.{◌≡◌, ℕ, nat_eq, List, [], ◌∷◌, Some, slice_get, sym, ap}
use Rattle.std.specs.Map.{lookup}
use Rattle.std.proofs.lemmas.Bool.{eq-eqb}

-- it is found at its page
pub first_found : {V : Type 0} (es : List (ℕ × V)) (p : ℕ) (v : V) → slice_get es 0 ≡ Some (p, v) → lookup (nat_eq p) es ≡ Some v
first_found [] p v is = absurd cc
first_found {V} (e ∷ es) p v is =
    let here : e ≡ (p, v) = cc in
    let key : p ≡ e.0 = ap (λ (x : ℕ × V). x.0) (sym here) in
    rw (eq-eqb p e.0 key) (ap (λ (x : ℕ × V). Some x.1) here)
