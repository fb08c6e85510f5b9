-- Places in lists.
use Rattle.std.proofs.Common.{◌≡◌, ℕ, zero, suc, ◌+◌, ◌<◌, List, [], ◌∷◌, ◌++◌, length, take, get_or, sym, ◌∙◌, ap, subst, ⊎_elim, arith, Contains}
use Rattle.std.proofs.Math.Seq.{take-suc}
use Rattle.std.proofs.lemmas.List.{get_or_default}
use Rattle.quilt_loc.proofs.Members.{Contains-nil, Contains-here, Contains-there, Contains-cons_cases}

pub member_at : {X : Type 0} (xs : List X) (i : ℕ) (d : X) → i < length xs → Contains xs (get_or xs i d)
member_at xs i d lt = (i, lt, get_or_default xs i (get_or xs i d) d lt)

-- one element more
pub take_next : {X : Type 0} (xs : List X) (i : ℕ) (d : X) → i < length xs → take (i + 1) xs ≡ take i xs ++ get_or xs i d ∷ []
take_next xs i d lt = let e : i + 1 ≡ suc i = omega arith in ap (λ n. take n xs) e ∙ take-suc xs i d lt

-- what is pushed after a prefix
pub pushed : {X : Type 0} (old new xs : List X) (i : ℕ) (d : X) → new ≡ old ++ get_or xs i d ∷ [] → old ≡ take i xs → i < length xs → new ≡ take (i + 1) xs
pushed old new xs i d is prefix lt = is ∙ ap (λ (l : List _). l ++ get_or xs i d ∷ []) prefix ∙ sym (take_next xs i d lt)

pub taken_there : {X : Type 0} (xs : List X) (i : ℕ) (x : X) → Contains (take i xs) x → Contains xs x
taken_there [] zero x c = c
taken_there [] (suc i) x c = c
taken_there (y ∷ ys) zero x c = absurd (Contains-nil x c)
taken_there (y ∷ ys) (suc i) x c =
    ⊎_elim (λ e. subst (Contains (y ∷ ys)) e (Contains-here y ys)) (λ d. Contains-there y ys x (taken_there ys i x d)) (Contains-cons_cases y (take i ys) x c)
