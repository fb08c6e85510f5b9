-- Lists with an element more at the end, and lists that begin others.
use Rattle.std.proofs.Common.{◌≡◌, ℕ, ◌+◌, ◌<◌, ◌≤◌, ◌⊎◌, List, [], ◌∷◌, ◌++◌, length, take, get_or, refl, sym, ◌∙◌, ap, subst, inl, inr, ⊎_elim, arith}
use Rattle.std.proofs.Common.{Contains, length-append, Ordering, Less, Equal}
use Rattle.std.specs.Cmp.{IsTotalOrder, tied_itself}
use Rattle.std.proofs.lemmas.List.{take_more, take_all}
use Rattle.std.proofs.lemmas.List.Elements.{Contains-append_left, Contains-append_right, Contains-append_cases}
use Rattle.quilt_loc.specs.Codes.{Rises}
use Rattle.quilt_loc.proofs.Members.{Contains-nil, Contains-here, Contains-there, Contains-cons_cases}

Less≢Equal : Less ≡ Equal → ⊥
Less≢Equal e = cc

pub below_itself : {X : Type 0} (R : X → X → Ordering) → IsTotalOrder R → (x : X) → R x x ≡ Less → ⊥
below_itself R o x e = Less≢Equal (sym e ∙ tied_itself o x)

pub both_below : {X : Type 0} (R : X → X → Ordering) → IsTotalOrder R → (x y : X) → R x y ≡ Less → R y x ≡ Less → ⊥
both_below R o x y a b = below_itself R o x (o.trans x y x a b)

module _ {X : Type 0} where
  pub last_cases : (xs : List X) (y x : X) → Contains (xs ++ y ∷ []) x → Contains xs x ⊎ (y ≡ x)
  last_cases xs y x c =
      ⊎_elim (λ d. inl d) (λ d. ⊎_elim (λ e. inr e) (λ n. absurd (Contains-nil x n)) (Contains-cons_cases y [] x d)) (Contains-append_cases xs (y ∷ []) x c)

  pub in_front : (xs : List X) (y x : X) → Contains xs x → Contains (xs ++ y ∷ []) x
  in_front xs y x c = Contains-append_left xs (y ∷ []) x c

  pub at_last : (xs : List X) (y : X) → Contains (xs ++ y ∷ []) y
  at_last xs y = Contains-append_right xs (y ∷ []) y (Contains-here y [])

  joined : (x y : X) (xs ys more : List X) → y ≡ x → ys ≡ xs ++ more → y ∷ ys ≡ x ∷ xs ++ more
  joined x y xs ys more e h = cc

  -- the first list begins the second: the second has its elements, and others that are not less
  pub begins : (R : X → X → Ordering) → IsTotalOrder R → (xs ys : List X) → Rises R xs → Rises R ys → ((x : X) → Contains xs x → Contains ys x)
      → ((x y : X) → Contains xs x → Contains ys y → Contains xs y ⊎ (R y x ≡ Less → ⊥)) → (more : List X) × (ys ≡ xs ++ more)
  begins R o [] ys h k sub near = (ys, refl)
  begins R o (x ∷ xs) [] h k sub near = absurd (Contains-nil x (sub x (Contains-here x xs)))
  begins R o (x ∷ xs) (y ∷ ys) h k sub near =
      let first : y ≡ x =
      ⊎_elim (λ e. e)
      (λ d.
      ⊎_elim
      (λ m. ⊎_elim (λ e. sym e) (λ f. absurd (both_below R o x y (h.0 y f) (k.0 x d))) (Contains-cons_cases x xs y m))
      (λ no. absurd (no (k.0 x d)))
      (near x y (Contains-here x xs) (Contains-here y ys)))
      (Contains-cons_cases y ys x (sub x (Contains-here x xs))) in
      let rest = begins R o xs ys h.1 k.1
      (λ z c.
      ⊎_elim (λ e. absurd (below_itself R o x (subst (λ (w : X). R x w ≡ Less) (sym e ∙ first) (h.0 z c)))) (λ d. d)
      (Contains-cons_cases y ys z (sub z (Contains-there x xs z c))))
      (λ a b ca cb.
      ⊎_elim
      (λ m. ⊎_elim (λ e. absurd (below_itself R o y (subst (λ (w : X). R y w ≡ Less) (sym e ∙ sym first) (k.0 b cb)))) (λ d. inl d)
      (Contains-cons_cases x xs b m))
      (λ no. inr no)
      (near a b (Contains-there x xs a ca) (Contains-there y ys b cb))) in
      (rest.0, joined x y xs ys rest.0 first rest.1)

  -- as many elements at the end are the same
  pub same_tail : (xs ys s t : List X) → length s ≡ length t → xs ++ s ≡ ys ++ t → s ≡ t
  same_tail [] [] s t l e = e
  same_tail [] (y ∷ ys) s t l e = let n = ap length e in let a = length-append ys t in absurd (omega arith)
  same_tail (x ∷ xs) [] s t l e = let n = ap length e in let a = length-append xs s in absurd (omega arith)
  same_tail (x ∷ xs) (y ∷ ys) s t l e = let r : xs ++ s ≡ ys ++ t = cc in same_tail xs ys s t l r

  -- what stands before another element of a rising list
  pub rises_before : (R : X → X → Ordering) (xs ys : List X) (x y : X) → Rises R (xs ++ ys) → Contains xs x → Contains ys y → R x y ≡ Less
  rises_before R [] ys x y h c d = absurd (Contains-nil x c)
  rises_before R (z ∷ zs) ys x y h c d =
      ⊎_elim (λ e. subst (λ (w : X). R w y ≡ Less) e (h.0 y (Contains-append_right zs ys y d)))
      (λ m. rises_before R zs ys x y h.1 m d) (Contains-cons_cases z zs x c)

  pub rises_behind : (R : X → X → Ordering) (xs ys : List X) → Rises R (xs ++ ys) → Rises R ys
  rises_behind R [] ys h = h
  rises_behind R (z ∷ zs) ys h = rises_behind R zs ys h.1

  pub rises_front : (R : X → X → Ordering) (xs ys : List X) → Rises R (xs ++ ys) → Rises R xs
  rises_front R [] ys h = tt
  rises_front R (z ∷ zs) ys h = (λ y c. h.0 y (Contains-append_left zs ys y c), rises_front R zs ys h.1)

  -- one element more at the front
  pub take_cases : (xs : List X) (i : ℕ) (e x : X) → i < length xs → e ≡ get_or xs i e → Contains (take (i + 1) xs) x → Contains (take i xs) x ⊎ (e ≡ x)
  take_cases xs i e x lt is c =
      ⊎_elim (λ d. inl d) (λ same. inr (is ∙ same)) (last_cases (take i xs) (get_or xs i e) x (subst (λ (l : List X). Contains l x) (take_more xs i e lt) c))

  pub item_there : (xs : List X) (i : ℕ) (e : X) → i < length xs → e ≡ get_or xs i e → Contains xs e
  item_there xs i e lt is = (i, lt, sym is)

  pub take_whole : (xs : List X) (i : ℕ) (x : X) → length xs ≤ i → Contains xs x → Contains (take i xs) x
  take_whole xs i x le c = subst (λ (l : List X). Contains l x) (sym (take_all i xs le)) c
