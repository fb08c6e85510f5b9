-- Lists of the same elements, none twice, are permutations of each other.
use Rattle.std.proofs.Common.{◌≡◌, List, [], ◌∷◌, ◌++◌, sym, subst, ⊎_elim, Contains}
use Rattle.std.specs.List.Sorted.{IsPermutation}
use Rattle.std.proofs.lemmas.List.Elements.{Contains-append_left, Contains-append_right, Contains-append_cases}
use Rattle.std.proofs.lemmas.List.Sorted.{IsPermutation-refl, IsPermutation-sym, IsPermutation-trans, IsPermutation-cons, IsPermutation-middle}
use Rattle.quilt_loc.proofs.Members.{Contains-nil, Contains-here, Contains-there, Contains-cons_cases}
use Rattle.quilt_spell.specs.Apart.{Apart, SameMembers}
use Rattle.quilt_spell.proofs.Lists.{split_at}

module _ {X : Type 0} where
  with_one : (p q : List X) (y z : X) → Contains (p ++ q) z → Contains (p ++ y ∷ q) z
  with_one p q y z m = ⊎_elim (λ d. Contains-append_left p (y ∷ q) z d) (λ d. Contains-append_right p (y ∷ q) z (Contains-there y q z d))
      (Contains-append_cases p q z m)

  without_one : (p q : List X) (y z : X) → Contains (p ++ y ∷ q) z → (y ≡ z → ⊥) → Contains (p ++ q) z
  without_one p q y z m other =
      ⊎_elim (λ d. Contains-append_left p q z d) (λ d. ⊎_elim (λ e. absurd (other e)) (λ f. Contains-append_right p q z f) (Contains-cons_cases y q z d))
      (Contains-append_cases p (y ∷ q) z m)

  removed_apart : (p q : List X) (y : X) → Apart (p ++ y ∷ q) → Apart (p ++ q) × (Contains (p ++ q) y → ⊥)
  removed_apart [] q y h = (h.1, h.0)
  removed_apart (x ∷ p) q y h =
      let r = removed_apart p q y h.1 in (
        (λ m. h.0 (with_one p q y x m), r.0),
        λ m. ⊎_elim
            (λ e. h.0 (subst (Contains (p ++ y ∷ q)) (sym e) (Contains-append_right p (y ∷ q) y (Contains-here y q)))) (λ d. r.1 d)
            (Contains-cons_cases x (p ++ q) y m),
      )

  pub permutation_from : (xs ys : List X) → Apart xs → Apart ys → SameMembers xs ys → IsPermutation xs ys
  permutation_from [] [] hx hy same = IsPermutation-refl []
  permutation_from [] (y ∷ ys) hx hy same = absurd (Contains-nil y ((same y).1 (Contains-here y ys)))
  permutation_from (x ∷ xs) ys hx hy same =
      let s = split_at ys x ((same x).0 (Contains-here x xs)) in
      let p = s.before in
      let q = s.behind in
      let rest = removed_apart p q x (subst (λ (l : List X). Apart l) s.whole hy) in
      let below : IsPermutation xs (p ++ q) = permutation_from xs (p ++ q) hx.1 rest.0 (λ z. (
        λ m. without_one p q x z (subst (λ (l : List X). Contains l z) s.whole ((same z).0 (Contains-there x xs z m)))
            (λ e. hx.0 (subst (Contains xs) (sym e) m)),
        λ m. ⊎_elim (λ e. absurd (rest.1 (subst (Contains (p ++ q)) (sym e) m))) (λ d. d)
            (Contains-cons_cases x xs z ((same z).1 (subst (λ (l : List X). Contains l z) (sym s.whole) (with_one p q x z m)))),
      )) in
      subst (IsPermutation (x ∷ xs)) (sym s.whole)
      (IsPermutation-trans (x ∷ xs) (x ∷ (p ++ q)) (p ++ x ∷ q) (IsPermutation-cons x xs (p ++ q) below)
      (IsPermutation-sym (p ++ x ∷ q) (x ∷ (p ++ q)) (IsPermutation-middle p x q)))
