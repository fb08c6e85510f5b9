-- Lists: what a test says of all of their members or of some, what is left of them, and zeros.
use Rattle.std.proofs.Common.{◌≡◌, ℕ, zero, suc, ◌+◌, ◌<◌, Bool, true, false, cond, inl, inr, ⊎_elim, List, [], ◌∷◌, ◌++◌, length, take, get_or, filter, flat_map}
use Rattle.std.proofs.Common.{replicate, refl, sym, ◌∙◌, ap, ap₂, subst, arith, Contains}
use Rattle.std.specs.List.{list_all, list_any, range_with_len}
use Rattle.std.proofs.lemmas.Bool.{cases_lt, cases_Bool, true≢false, and_parts, and_from, or_cases}
use Rattle.std.proofs.lemmas.List.{get_or-replicate, get_or_past, length-replicate}
use Rattle.std.proofs.lemmas.List.Folds.{list_any_at}
use Rattle.quilt_types.proofs.Members.{Contains-nil, Contains-here, Contains-there}

-- what a test says of each
pub all_follow : {X : Type 0} (p q : X → Bool) → ((x : X) → p x ≡ true → q x ≡ true) → (xs : List X) → list_all p xs ≡ true → list_all q xs ≡ true
all_follow p q f [] h = refl
all_follow p q f (x ∷ xs) h = let t = and_parts (p x) (list_all p xs) h in and_from (q x) (list_all q xs) (f x t.0) (all_follow p q f xs t.1)

pub all_take : {X : Type 0} (p : X → Bool) (xs : List X) (i : ℕ) → list_all p xs ≡ true → list_all p (take i xs) ≡ true
all_take p xs zero h = refl
all_take p [] (suc i) h = refl
all_take p (x ∷ xs) (suc i) h = let t = and_parts (p x) (list_all p xs) h in and_from (p x) (list_all p (take i xs)) t.0 (all_take p xs i t.1)

-- a member that passes
pub any_member : {X : Type 0} (p : X → Bool) (xs : List X) → list_any p xs ≡ true → (x : X) × Contains xs x × (p x ≡ true)
any_member p [] e = absurd (true≢false (sym e))
any_member p (x ∷ xs) e =
    ⊎_elim (λ t. (x, Contains-here x xs, t))
    (λ r. let m = any_member p xs r in (m.0, Contains-there x xs m.0 m.1, m.2)) (or_cases (p x) (list_any p xs) e)

pub any_from : {X : Type 0} (p : X → Bool) (xs : List X) (x : X) → Contains xs x → p x ≡ true → list_any p xs ≡ true
any_from p xs x c h = list_any_at p xs c.0 x c.1 (ap p c.2 ∙ h)

pub nothing_in : {X : Type 0} (xs : List X) → xs ≡ [] → (x : X) → Contains xs x → ⊥
nothing_in xs e x c = Contains-nil x (subst (λ (l : List _). Contains l x) e c)

-- a stricter test alone decides
kept_twice : {X : Type 0} (p q : X → Bool) (x : X) (t : Bool) (xs : List X) → p x ≡ t → (q x ≡ true → p x ≡ true)
    → filter q (cond t (x ∷ xs) xs) ≡ cond (q x) (x ∷ filter q xs) (filter q xs)
kept_twice p q x true xs e h = refl
kept_twice p q x false xs e h =
    ⊎_elim (λ t. absurd (true≢false (sym (h t) ∙ e))) (λ f. ap (λ (b : Bool). cond b (x ∷ filter q xs) (filter q xs)) (sym f)) (cases_Bool (q x))

pub filter_twice : {X : Type 0} (p q : X → Bool) → ((x : X) → q x ≡ true → p x ≡ true) → (xs : List X) → filter q (filter p xs) ≡ filter q xs
filter_twice p q h [] = refl
filter_twice p q h (x ∷ xs) = kept_twice p q x (p x) (filter p xs) refl (h x) ∙ ap (λ l. cond (q x) (x ∷ l) l) (filter_twice p q h xs)

pub flat_map_same : {X Y : Type 0} (f g : X → List Y) (xs : List X) → ((x : X) → Contains xs x → f x ≡ g x) → flat_map f xs ≡ flat_map g xs
flat_map_same f g [] h = refl
flat_map_same f g (x ∷ xs) h = ap₂ (λ a b. a ++ b) (h x (Contains-here x xs)) (flat_map_same f g xs (λ y c. h y (Contains-there x xs y c)))

pub range_more : (a n : ℕ) → range_with_len a (suc n) ≡ range_with_len a n ++ (a + n) ∷ []
range_more a zero = let e : a ≡ a + 0 = omega arith in ap (λ (z : ℕ). z ∷ []) e
range_more a (suc n) = ap (λ l. a ∷ l) (range_more (a + 1) n ∙ (let e : a + 1 + n ≡ a + suc n = omega arith in ap (λ z. range_with_len (a + 1) n ++ z ∷ []) e))

pub zeros_read : (n k : ℕ) → get_or (replicate {A = ℕ} n 0) k 0 ≡ 0
zeros_read n k = elim (cases_lt k n) [
  | inl lt ↦ get_or-replicate n k 0 0 lt
  | inr past ↦ get_or_past (replicate n 0) k 0 (omega (arith, length-replicate {A = ℕ} n 0))
]
