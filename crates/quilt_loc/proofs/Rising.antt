-- Lists that strictly rise in an order: two with the same elements are one.
use Rattle.std.proofs.Common.{◌≡◌, ℕ, zero, suc, ◌+◌, ◌<◌, Bool, true, false, cond, ◌↔◌, List, [], ◌∷◌, ◌++◌, map, filter, flat_map, refl, sym, ◌∙◌, ap₂, subst}
use Rattle.std.proofs.Common.{arith, Contains, Ordering, Less, Equal, nat_cmp, ⊎_elim}
use Rattle.std.specs.List.{range_with_len}
use Rattle.std.specs.Cmp.{IsTotalOrder, tied_itself}
use Rattle.std.proofs.lemmas.Bool.Decides.{nat_tests}
use Rattle.std.proofs.lemmas.List.Elements.{Contains-append_cases}
use Rattle.quilt_loc.specs.Codes.{Rises}
use Rattle.quilt_types.proofs.Members.{Contains-nil, Contains-here, Contains-there, Contains-cons_cases, Contains-filter_from, Contains-map_from}
use Rattle.quilt_types.proofs.Members.{Contains-flat_map_from, Contains-range_from}

Less≢Equal : Less ≡ Equal → ⊥
Less≢Equal e = cc

module _ {X : Type 0} (R : X → X → Ordering) where
  kept : (b : Bool) (x : X) (ys : List X) → ((y : X) → Contains ys y → R x y ≡ Less) → Rises R ys → Rises R (cond b (x ∷ ys) ys)
  kept true x ys f h = (f, h)
  kept false x ys f h = h

  pub Rises-filter : (p : X → Bool) (xs : List X) → Rises R xs → Rises R (filter p xs)
  Rises-filter p [] h = tt
  Rises-filter p (x ∷ xs) h = kept (p x) x (filter p xs) (λ y c. h.0 y (Contains-filter_from p xs y c).0) (Rises-filter p xs h.1)

  pub Rises-append : (xs ys : List X) → Rises R xs → Rises R ys → ((x y : X) → Contains xs x → Contains ys y → R x y ≡ Less) → Rises R (xs ++ ys)
  Rises-append [] ys h k l = k
  Rises-append (x ∷ xs) ys h k l = (
    λ y c. ⊎_elim (λ d. h.0 y d) (λ d. l x y (Contains-here x xs) d) (Contains-append_cases xs ys y c),
    Rises-append xs ys h.1 k (λ a b c d. l a b (Contains-there x xs a c) d),
  )

  module _ (o : IsTotalOrder R) where
    irreflexive : (x : X) → R x x ≡ Less → ⊥
    irreflexive x e = Less≢Equal (sym e ∙ tied_itself o x)

    -- two with the same elements are one
    pub same_rising : (xs ys : List X) → Rises R xs → Rises R ys → ((x : X) → Contains xs x ↔ Contains ys x) → xs ≡ ys
    same_rising [] [] h k w = refl
    same_rising [] (y ∷ ys) h k w = absurd (Contains-nil y ((w y).1 (Contains-here y ys)))
    same_rising (x ∷ xs) [] h k w = absurd (Contains-nil x ((w x).0 (Contains-here x xs)))
    same_rising (x ∷ xs) (y ∷ ys) h k w =
        let first : y ≡ x =
        ⊎_elim (λ e. e)
        (λ d. ⊎_elim (λ e. sym e)
        (λ f. absurd (irreflexive x (o.trans x y x (h.0 y f) (k.0 x d))))
        (Contains-cons_cases x xs y ((w y).1 (Contains-here y ys))))
        (Contains-cons_cases y ys x ((w x).0 (Contains-here x xs))) in
        ap₂ ◌∷◌ (sym first) (same_rising xs ys h.1 k.1 (λ z. (
          λ c. ⊎_elim (λ e. absurd (irreflexive x (h.0 x (subst (Contains xs) (sym (sym first ∙ e)) c)))) (λ d. d)
              (Contains-cons_cases y ys z ((w z).0 (Contains-there x xs z c))),
          λ c. ⊎_elim (λ e. absurd (irreflexive y (k.0 y (subst (Contains ys) (sym (first ∙ e)) c)))) (λ d. d)
              (Contains-cons_cases x xs z ((w z).1 (Contains-there y ys z c))),
        )))

-- through a function that keeps the order
module _ {X Y : Type 0} (R : X → X → Ordering) (S : Y → Y → Ordering) where
  pub Rises-map : (f : X → Y) (xs : List X) → ((a b : X) → Contains xs a → Contains xs b → R a b ≡ Less → S (f a) (f b) ≡ Less)
      → Rises R xs → Rises S (map f xs)
  Rises-map f [] keeps h = tt
  Rises-map f (x ∷ xs) keeps h = (
    λ y c. let r =
        Contains-map_from f xs y c in subst (λ (z : Y). S (f x) z ≡ Less) r.2 (keeps x r.0 (Contains-here x xs) (Contains-there x xs r.0 r.1) (h.0 r.0 r.1)),
    Rises-map f xs (λ a b c d. keeps a b (Contains-there x xs a c) (Contains-there x xs b d)) h.1,
  )

  pub Rises-flat_map_at : (f : X → List Y) (xs : List X) → Rises R xs → ((x : X) → Contains xs x → Rises S (f x))
      → ((a b : X) → Contains xs a → Contains xs b → R a b ≡ Less → (u v : Y) → Contains (f a) u → Contains (f b) v → S u v ≡ Less) → Rises S (flat_map f xs)
  Rises-flat_map_at f [] h each apart = tt
  Rises-flat_map_at f (x ∷ xs) h each apart =
      Rises-append S (f x) (flat_map f xs) (each x (Contains-here x xs))
      (Rises-flat_map_at f xs h.1 (λ z c. each z (Contains-there x xs z c)) (λ a b c d. apart a b (Contains-there x xs a c) (Contains-there x xs b d)))
      (λ u v c d. let r = Contains-flat_map_from f xs v d in apart x r.0 (Contains-here x xs) (Contains-there x xs r.0 r.1) (h.0 r.0 r.1) u v c r.2)

  pub Rises-flat_map : (f : X → List Y) (xs : List X) → Rises R xs → ((x : X) → Contains xs x → Rises S (f x))
      → ((a b : X) → R a b ≡ Less → (u v : Y) → Contains (f a) u → Contains (f b) v → S u v ≡ Less) → Rises S (flat_map f xs)
  Rises-flat_map f xs h each apart = Rises-flat_map_at f xs h each (λ a b _ _ e. apart a b e)

pub nat_less : (a b : ℕ) → a < b → nat_cmp a b ≡ Less
nat_less a b lt = grind (arith, nat_tests)

pub nat_less_from : (a b : ℕ) → nat_cmp a b ≡ Less → a < b
nat_less_from a b e = grind (arith, nat_tests)

pub Rises-range : (a n : ℕ) → Rises nat_cmp (range_with_len a n)
Rises-range a zero = tt
Rises-range a (suc n) = (λ y c. let r = Contains-range_from (a + 1) n y c in nat_less a y (omega arith), Rises-range (a + 1) n)
