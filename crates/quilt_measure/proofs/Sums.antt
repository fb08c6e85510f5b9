-- Sums over lists: with the same members, in two parts, and over the parts of a list of which each member is in one.
use Rattle.std.proofs.Common.{◌≡◌, ℕ, suc, ◌+◌, ◌*◌, ◌↔◌, Bool, true, false, cond, ◌⊎◌, inl, inr, ⊎_elim, List, [], ◌∷◌, length, map, filter, flat_map, sum_by}
use Rattle.std.proofs.Common.{count_by, Contains, refl, sym, ◌∙◌, ap, ap₂, subst, arith}
use Rattle.std.proofs.lemmas.List.Sums.{sum_by-cons, sum_by-append}
use Rattle.quilt_loc.proofs.Members.{Contains-nil, Contains-here, Contains-there, Contains-cons_cases}

swap_two : (a b r s : ℕ) → r ≡ b + s → a + r ≡ b + (a + s)
swap_two a b r s e = omega arith

add_four : (a b c d : ℕ) → a + b + (c + d) ≡ a + c + (b + d)
add_four a b c d = omega arith

module _ {X : Type 0} where
  -- each is other than those after it
  abbrev pub Differ : List X → Type 0
  Differ [] = Unit {0}
  Differ (x ∷ xs) = (Contains xs x → ⊥) × Differ xs

  record Taken (ys : List X) (x : X) : Type 0 where
    rest : List X
    total : (f : X → ℕ) → sum_by f ys ≡ f x + sum_by f rest
    less : (y : X) → Contains rest y → Contains ys y × (x ≡ y → ⊥)
    more : (y : X) → Contains ys y → (x ≡ y) ⊎ Contains rest y
    differ : Differ rest

  taken : (ys : List X) (x : X) → Contains ys x → Differ ys → Taken ys x
  taken [] x c d = absurd (Contains-nil x c)
  taken (y ∷ ys) x c d =
      ⊎_elim
      (λ e. record {
        rest = ys;
        total = λ f. sum_by-cons f y ys ∙ ap (λ z. f z + sum_by f ys) e;
        less = λ z m. (Contains-there y ys z m, λ xz. d.0 (subst (Contains ys) (sym (e ∙ xz)) m));
        more = λ z m. ⊎_elim (λ yz. inl (sym e ∙ yz)) (λ k. inr k) (Contains-cons_cases y ys z m);
        differ = d.1;
      })
      (λ c'.
      let t = taken ys x c' d.1 in
      record {
        rest = y ∷ t.rest;
        total = λ f. sum_by-cons f y ys ∙ swap_two (f y) (f x) (sum_by f ys) (sum_by f t.rest) (t.total f) ∙ ap (λ r. f x + r) (sym (sum_by-cons f y t.rest));
        less = λ z m.
            ⊎_elim (λ e. (subst (Contains (y ∷ ys)) e (Contains-here y ys), λ xz. d.0 (subst (Contains ys) (xz ∙ sym e) c')))
            (λ k. let l = t.less z k in (Contains-there y ys z l.0, l.1)) (Contains-cons_cases y t.rest z m);
        more = λ z m.
            ⊎_elim (λ e. inr (subst (Contains (y ∷ t.rest)) e (Contains-here y t.rest)))
            (λ k. ⊎_elim (λ e. inl e) (λ j. inr (Contains-there y t.rest z j)) (t.more z k)) (Contains-cons_cases y ys z m);
        differ = (λ m. d.0 (t.less y m).0, t.differ);
      }) (Contains-cons_cases y ys x c)

  -- two lists of one each of the same members
  pub same_sum : (f : X → ℕ) (xs ys : List X) → Differ xs → Differ ys → ((x : X) → Contains xs x ↔ Contains ys x) → sum_by f xs ≡ sum_by f ys
  same_sum f [] [] dx dy w = refl
  same_sum f [] (y ∷ ys) dx dy w = absurd (Contains-nil y ((w y).1 (Contains-here y ys)))
  same_sum f (x ∷ xs) ys dx dy w =
      let t = taken ys x ((w x).0 (Contains-here x xs)) dy in
      let rest = same_sum f xs t.rest dx.1 t.differ (λ y. (
        λ m. ⊎_elim (λ e. absurd (dx.0 (subst (Contains xs) (sym e) m))) (λ k. k) (t.more y ((w y).0 (Contains-there x xs y m))),
        λ m. let l = t.less y m in ⊎_elim (λ e. absurd (l.1 e)) (λ k. k) (Contains-cons_cases x xs y ((w y).1 l.0)),
      )) in
      sum_by-cons f x xs ∙ ap (λ r. f x + r) rest ∙ sym (t.total f)

  -- equal terms
  pub sum_by-same : (f g : X → ℕ) (xs : List X) → ((x : X) → Contains xs x → f x ≡ g x) → sum_by f xs ≡ sum_by g xs
  sum_by-same f g [] h = refl
  sum_by-same f g (x ∷ xs) h =
      sum_by-cons f x xs ∙ ap₂ (λ a b. a + b) (h x (Contains-here x xs)) (sum_by-same f g xs (λ y m. h y (Contains-there x xs y m))) ∙ sym (sum_by-cons g x xs)

  pub sum_by-plus : (f g : X → ℕ) (xs : List X) → sum_by (λ x. f x + g x) xs ≡ sum_by f xs + sum_by g xs
  sum_by-plus f g [] = refl
  sum_by-plus f g (x ∷ xs) =
      sum_by-cons (λ y. f y + g y) x xs ∙ ap (λ r. f x + g x + r) (sum_by-plus f g xs)
      ∙ add_four (f x) (g x) (sum_by f xs) (sum_by g xs)
      ∙ ap₂ (λ a b. a + b) (sym (sum_by-cons f x xs)) (sym (sum_by-cons g x xs))

  pub sum_by-constant : (f : X → ℕ) (v : ℕ) (xs : List X) → ((x : X) → Contains xs x → f x ≡ v) → sum_by f xs ≡ length xs * v
  sum_by-constant f v [] h = omega arith
  sum_by-constant f v (x ∷ xs) h =
      sum_by-cons f x xs ∙ ap₂ (λ a b. a + b) (h x (Contains-here x xs)) (sum_by-constant f v xs (λ y m. h y (Contains-there x xs y m)))
      ∙ one_more (length xs) v
    where
      one_more : (n v : ℕ) → v + n * v ≡ suc n * v
      one_more n v = omega (arith)

  filtered_by : (f : X → ℕ) (p : X → Bool) (x : X) (xs : List X) (b : Bool) → p x ≡ b → sum_by f (filter p xs) ≡ sum_by (λ y. cond (p y) (f y) 0) xs
      → sum_by f (filter p (x ∷ xs)) ≡ sum_by (λ y. cond (p y) (f y) 0) (x ∷ xs)
  filtered_by f p x xs true e h =
      ap (sum_by f) (ap (λ b. cond {A = List X} b (x ∷ filter p xs) (filter p xs)) e) ∙ sum_by-cons f x (filter p xs)
      ∙ ap₂ (λ a b. a + b) (sym (ap (λ b. cond {A = ℕ} b (f x) 0) e)) h ∙ sym (sum_by-cons (λ y. cond (p y) (f y) 0) x xs)
  filtered_by f p x xs false e h =
      ap (sum_by f) (ap (λ b. cond {A = List X} b (x ∷ filter p xs) (filter p xs)) e) ∙ h
      ∙ (let z : 0 + sum_by (λ y. cond (p y) (f y) 0) xs ≡ sum_by (λ y. cond (p y) (f y) 0) xs = omega arith in sym z)
      ∙ ap (λ a. a + sum_by (λ y. cond (p y) (f y) 0) xs) (sym (ap (λ b. cond {A = ℕ} b (f x) 0) e)) ∙ sym (sum_by-cons (λ y. cond (p y) (f y) 0) x xs)

  pub sum_by-filter_is : (f : X → ℕ) (p : X → Bool) (xs : List X) → sum_by f (filter p xs) ≡ sum_by (λ x. cond (p x) (f x) 0) xs
  sum_by-filter_is f p [] = refl
  sum_by-filter_is f p (x ∷ xs) = filtered_by f p x xs (p x) refl (sum_by-filter_is f p xs)

  pub sum_by-map_is : {Y : Type 0} (f : Y → ℕ) (g : X → Y) (xs : List X) → sum_by f (map g xs) ≡ sum_by (λ x. f (g x)) xs
  sum_by-map_is f g [] = refl
  sum_by-map_is f g (x ∷ xs) = sum_by-cons f (g x) (map g xs) ∙ ap (λ r. f (g x) + r) (sum_by-map_is f g xs) ∙ sym (sum_by-cons (λ y. f (g y)) x xs)

  pub sum_by-flat_map_is : {Y : Type 0} (f : Y → ℕ) (g : X → List Y) (xs : List X) → sum_by f (flat_map g xs) ≡ sum_by (λ x. sum_by f (g x)) xs
  sum_by-flat_map_is f g [] = refl
  sum_by-flat_map_is f g (x ∷ xs) =
      sum_by-append f (g x) (flat_map g xs) ∙ ap (λ r. sum_by f (g x) + r) (sum_by-flat_map_is f g xs) ∙ sym (sum_by-cons (λ y. sum_by f (g y)) x xs)

module _ {X E : Type 0} (holds : E → X → Bool) (f : X → ℕ) where
  times : (v : ℕ) (x : X) (es : List E) → sum_by (λ e. cond (holds e x) v 0) es ≡ count_by (λ e. holds e x) es * v
  times v x [] = omega arith
  times v x (e ∷ es) =
      sum_by-cons (λ d. cond (holds d x) v 0) e es ∙ ap₂ (λ a b. a + b) (by (holds e x)) (times v x es)
      ∙ sym (split (cond (holds e x) 1 0) (count_by (λ d. holds d x) es) v)
      ∙ ap (λ k. k * v) (sym (sum_by-cons (λ d. cond (holds d x) 1 0) e es))
    where
      by : (b : Bool) → cond b v 0 ≡ cond {A = ℕ} b 1 0 * v
      by true = omega arith
      by false = omega arith

      split : (a b v : ℕ) → (a + b) * v ≡ a * v + b * v
      split a b v = omega arith

  -- where one member of es holds each element, the sum is that over their parts
  pub sum_by-parts : (es : List E) (xs : List X) → ((x : X) → Contains xs x → count_by (λ e. holds e x) es ≡ 1)
      → sum_by (λ e. sum_by (λ x. cond (holds e x) (f x) 0) xs) es ≡ sum_by f xs
  sum_by-parts es [] h = sum_by-constant (λ (e : E). 0) 0 es (λ _ _. refl) ∙ (let r : length es * 0 ≡ 0 = omega arith in r)
  sum_by-parts es (x ∷ xs) h =
      sum_by-same (λ e. sum_by (λ y. cond (holds e y) (f y) 0) (x ∷ xs)) (λ e. cond (holds e x) (f x) 0 + sum_by (λ y. cond (holds e y) (f y) 0) xs) es
      (λ e _. sum_by-cons (λ y. cond (holds e y) (f y) 0) x xs)
      ∙ sum_by-plus (λ e. cond (holds e x) (f x) 0) (λ e. sum_by (λ y. cond (holds e y) (f y) 0) xs) es
      ∙ ap₂ (λ a b. a + b) (times (f x) x es ∙ ap (λ k. k * f x) (h x (Contains-here x xs)) ∙ (let r : 1 * f x ≡ f x = omega arith in r))
      (sum_by-parts es xs (λ y m. h y (Contains-there x xs y m)))
      ∙ sym (sum_by-cons f x xs)
