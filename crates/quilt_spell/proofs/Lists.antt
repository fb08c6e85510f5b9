-- Lists of which no element stands twice: how they are made, and that two with the same elements are of one length.
use Rattle.std.proofs.Common.{◌≡◌, ◌≤◌, Bool, true, false, cond, List, [], ◌∷◌, ◌++◌, map, length, sym, ◌∙◌, ap, subst, ⊎_elim, arith, Contains, filter}
use Rattle.std.proofs.Common.{flat_map, length-append, Ordering, Less, Equal}
use Rattle.std.specs.Cmp.{IsTotalOrder, tied_itself}
use Rattle.std.proofs.lemmas.List.Elements.{Contains-append_left, Contains-append_right, Contains-append_cases}
use Rattle.quilt_loc.specs.Codes.{Rises}
use Rattle.quilt_spell.specs.Apart.{Apart, SameMembers}
use Rattle.quilt_loc.proofs.Members.{Contains-nil, Contains-here, Contains-there, Contains-cons_cases, Contains-filter_from, Contains-map_from}
use Rattle.quilt_loc.proofs.Members.{Contains-flat_map_from}

Less≢Equal : Less ≡ Equal → ⊥
Less≢Equal e = cc

module _ {X : Type 0} where
  pub Apart-append : (xs ys : List X) → Apart xs → Apart ys → ((x : X) → Contains xs x → Contains ys x → ⊥) → Apart (xs ++ ys)
  Apart-append [] ys h k l = k
  Apart-append (x ∷ xs) ys h k l = (
    λ c. ⊎_elim (λ d. h.0 d) (λ d. l x (Contains-here x xs) d) (Contains-append_cases xs ys x c),
    Apart-append xs ys h.1 k (λ z c d. l z (Contains-there x xs z c) d),
  )

  kept : (b : Bool) (x : X) (ys : List X) → (Contains ys x → ⊥) → Apart ys → Apart (cond b (x ∷ ys) ys)
  kept true x ys f h = (f, h)
  kept false x ys f h = h

  pub Apart-filter : (p : X → Bool) (xs : List X) → Apart xs → Apart (filter p xs)
  Apart-filter p [] h = tt
  Apart-filter p (x ∷ xs) h = kept (p x) x (filter p xs) (λ c. h.0 (Contains-filter_from p xs x c).0) (Apart-filter p xs h.1)

  pub Apart-rises : (R : X → X → Ordering) → IsTotalOrder R → (xs : List X) → Rises R xs → Apart xs
  Apart-rises R o [] h = tt
  Apart-rises R o (x ∷ xs) h = (λ c. Less≢Equal (sym (h.0 x c) ∙ tied_itself o x), Apart-rises R o xs h.1)

  -- an element stands between others
  pub record Split (xs : List X) (x : X) : Type 0 where
    pub before : List X
    pub behind : List X
    pub whole : xs ≡ before ++ x ∷ behind

  pub split_at : (xs : List X) (x : X) → Contains xs x → Split xs x
  split_at [] x c = absurd (Contains-nil x c)
  split_at (y ∷ ys) x c =
      ⊎_elim
      (λ e. record { before = []; behind = ys; whole = ap (λ z. z ∷ ys) e })
      (λ d. let s = split_at ys x d in record { before = y ∷ s.before; behind = s.behind; whole = ap (λ z. y ∷ z) s.whole })
      (Contains-cons_cases y ys x c)

  -- what is another element stands still
  without_it : (p q : List X) (x z : X) → Contains (p ++ x ∷ q) z → (x ≡ z → ⊥) → Contains (p ++ q) z
  without_it p q x z c differ =
      ⊎_elim (λ d. Contains-append_left p q z d)
      (λ d. ⊎_elim (λ e. absurd (differ e)) (λ m. Contains-append_right p q z m) (Contains-cons_cases x q z d))
      (Contains-append_cases p (x ∷ q) z c)

  pub Apart-le : (xs ys : List X) → Apart xs → ((x : X) → Contains xs x → Contains ys x) → length xs ≤ length ys
  Apart-le [] ys h w = omega arith
  Apart-le (x ∷ xs) ys h w =
      let s = split_at ys x (w x (Contains-here x xs)) in
      let p = s.before in
      let q = s.behind in
      let rest = Apart-le xs (p ++ q) h.1 (λ z c.
      without_it p q x z (subst (λ (l : List X). Contains l z) s.whole (w z (Contains-there x xs z c))) (λ e. h.0 (subst (Contains xs) (sym e) c))) in
      let e = ap length s.whole in
      let a = length-append p (x ∷ q) in
      let b = length-append p q in
      omega arith

  pub same_length : (xs ys : List X) → Apart xs → Apart ys → SameMembers xs ys → length xs ≡ length ys
  same_length xs ys h k w =
      let a = Apart-le xs ys h (λ x c. (w x).0 c) in
      let b = Apart-le ys xs k (λ x c. (w x).1 c) in
      omega arith

module _ {X Y : Type 0} where
  pub Apart-map : (f : X → Y) (xs : List X) → ((a b : X) → Contains xs a → Contains xs b → f a ≡ f b → a ≡ b) → Apart xs → Apart (map f xs)
  Apart-map f [] one h = tt
  Apart-map f (x ∷ xs) one h = (
    λ c.
        let r = Contains-map_from f xs (f x) c in
        h.0 (subst (Contains xs) (one r.0 x (Contains-there x xs r.0 r.1) (Contains-here x xs) r.2) r.1),
    Apart-map f xs (λ a b c d. one a b (Contains-there x xs a c) (Contains-there x xs b d)) h.1,
  )

  pub Apart-flat_map : (f : X → List Y) (xs : List X) → Apart xs → ((x : X) → Contains xs x → Apart (f x))
      → ((a b : X) (y : Y) → Contains xs a → Contains xs b → Contains (f a) y → Contains (f b) y → a ≡ b) → Apart (flat_map f xs)
  Apart-flat_map f [] h each one = tt
  Apart-flat_map f (x ∷ xs) h each one =
      Apart-append (f x) (flat_map f xs) (each x (Contains-here x xs))
      (Apart-flat_map f xs h.1 (λ z c. each z (Contains-there x xs z c)) (λ a b y c d. one a b y (Contains-there x xs a c) (Contains-there x xs b d)))
      (λ y c d.
      let r = Contains-flat_map_from f xs y d in
      h.0 (subst (Contains xs) (one r.0 x y (Contains-there x xs r.0 r.1) (Contains-here x xs) r.2 c) r.1))
