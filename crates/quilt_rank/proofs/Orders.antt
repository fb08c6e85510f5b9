-- Lists in the order of distance and then id.
use Rattle.std.proofs.Common.{◌≡◌, ℕ, zero, suc, ◌<◌, ◌≤◌, Bool, true, false, cond, ◌⊎◌, inl, inr, ⊎_elim, List, [], ◌∷◌, length, take, Contains, eqb, eqb-true}
use Rattle.std.proofs.Common.{refl, sym, ◌∙◌, ap, ap₂, subst, arith}
use Rattle.std.specs.Prelude.{◌==◌, if◌then◌else◌}
use Rattle.std.proofs.lemmas.Bool.{eqb-false}
use Rattle.quilt_types.specs.Fractions.{Fraction}
use Rattle.quilt_types.specs.Ranking.{comes_first, placed}
use Rattle.quilt_loc.proofs.Members.{Contains-nil, Contains-here, Contains-there, Contains-cons_cases}
use Rattle.quilt_near.proofs.Leading.{Leads, leads_itself, leads_trans, first_leads, last_leads}

abbrev pub Rank : Type 0
Rank = ℕ × Fraction

-- an id with its distance comes to its place, unless the id is met on the way
abbrev pub put : List Rank → Rank → List Rank
put [] e = e ∷ []
put (f ∷ fs) e = if f.0 == e.0 then f ∷ fs else if comes_first e f then e ∷ f ∷ fs else f ∷ put fs e

-- a comes before b, and b not before a
pub record Ahead (a b : Rank) : Type 0 where
  pub leads : Leads a b
  pub not_back : Leads b a → ⊥

pub not_itself : (a : Rank) → Ahead a a → ⊥
not_itself a h = h.not_back (leads_itself a)

pub not_both : (a b : Rank) → Ahead a b → Ahead b a → ⊥
not_both a b h k = h.not_back k.leads

-- each is ahead of those after it
abbrev pub AreRanked : List Rank → Type 0
AreRanked [] = Unit {0}
AreRanked (x ∷ xs) = ((y : Rank) → Contains xs y → Ahead x y) × AreRanked xs

same_leads : (a b : Rank) → Leads a b → Leads b a → a.0 ≡ b.0
same_leads a b h k = let i = h.first k.near in let j = k.first h.near in omega arith

-- among ranks with denominators over 0, of which one id has one
module _ (all : Rank → Type 0) (positive : (a : Rank) → all a → 0 < a.1.den) (one : (a b : Rank) → all a → all b → a.0 ≡ b.0 → a ≡ b) where
  pub ahead_trans : (a b c : Rank) → all a → all b → all c → Ahead a b → Ahead b c → Ahead a c
  ahead_trans a b c ia ib ic h k = record {
    leads = leads_trans a b c (positive a ia) (positive b ib) (positive c ic) h.leads k.leads;
    not_back = λ back. k.not_back (leads_trans c a b (positive c ic) (positive a ia) (positive b ib) back h.leads);
  }

  pub first_ahead : (e f : Rank) → (f.0 ≡ e.0 → ⊥) → comes_first e f ≡ true → Ahead e f
  first_ahead e f apart h =
      let l = first_leads e f _ _ _ refl refl refl h in
      record { leads = l; not_back = λ back. apart (sym (same_leads e f l back)) }

  last_ahead : (e f : Rank) → (f.0 ≡ e.0 → ⊥) → comes_first e f ≡ false → Ahead f e
  last_ahead e f apart h =
      let l = last_leads e f _ _ _ refl refl refl h in
      record { leads = l; not_back = λ back. apart (same_leads f e l back) }

  -- an id comes to its place
  pub record Puts (rs : List Rank) (e : Rank) (now : List Rank) : Type 0 where
    pub ranked : AreRanked now
    pub here : Contains now e
    pub kept : (z : Rank) → Contains rs z → Contains now z
    pub real : (z : Rank) → Contains now z → (e ≡ z) ⊎ Contains rs z

  put_by : (f : Rank) (fs : List Rank) (e : Rank) (same before : Bool) → eqb f.0 e.0 ≡ same → comes_first e f ≡ before → all e
      → ((z : Rank) → Contains (f ∷ fs) z → all z) → AreRanked (f ∷ fs) → Puts fs e (put fs e)
      → Puts (f ∷ fs) e (cond same (f ∷ fs) (cond before (e ∷ f ∷ fs) (f ∷ put fs e)))
  put_by f fs e true before es eb ie in' ranked rest =
      let is : f ≡ e = one f e (in' f (Contains-here f fs)) ie (eqb-true f.0 e.0 es) in
      record { ranked = ranked; here = subst (Contains (f ∷ fs)) is (Contains-here f fs); kept = λ z c. c; real = λ z c. inr c }
  put_by f fs e false true es eb ie in' ranked rest =
      let h = first_ahead e f (eqb-false f.0 e.0 es) eb in
      record {
        ranked = (
          λ z c. ⊎_elim (λ is. subst (Ahead e) is h)
              (λ d. ahead_trans e f z ie (in' f (Contains-here f fs)) (in' z (Contains-there f fs z d)) h (ranked.0 z d)) (Contains-cons_cases f fs z c),
          ranked,
        );
        here = Contains-here e (f ∷ fs);
        kept = λ z c. Contains-there e (f ∷ fs) z c;
        real = λ z c. Contains-cons_cases e (f ∷ fs) z c;
      }
  put_by f fs e false false es eb ie in' ranked rest =
      let h = last_ahead e f (eqb-false f.0 e.0 es) eb in
      record {
        ranked = (λ z c. ⊎_elim (λ is. subst (Ahead f) is h) (λ d. ranked.0 z d) (rest.real z c), rest.ranked);
        here = Contains-there f (put fs e) e rest.here;
        kept = λ z c. ⊎_elim (λ is. subst (Contains (f ∷ put fs e)) is (Contains-here f (put fs e)))
            (λ d. Contains-there f (put fs e) z (rest.kept z d)) (Contains-cons_cases f fs z c);
        real = λ z c. ⊎_elim (λ is. inr (subst (Contains (f ∷ fs)) is (Contains-here f fs)))
            (λ d. ⊎_elim (λ i. inl i) (λ k. inr (Contains-there f fs z k)) (rest.real z d)) (Contains-cons_cases f (put fs e) z c);
      }

  pub puts : (rs : List Rank) (e : Rank) → all e → ((z : Rank) → Contains rs z → all z) → AreRanked rs → Puts rs e (put rs e)
  puts [] e ie in' ranked =
      record {
        ranked = (λ z c. absurd (Contains-nil z c), tt);
        here = Contains-here e [];
        kept = λ z c. absurd (Contains-nil z c);
        real = λ z c. Contains-cons_cases e [] z c;
      }
  puts (f ∷ fs) e ie in' ranked =
      put_by f fs e (eqb f.0 e.0) (comes_first e f) refl refl ie in' ranked (puts fs e ie (λ z c. in' z (Contains-there f fs z c)) ranked.1)

  -- where an id stands in no list before, `placed` is `put`
  placed_by : (f : Rank) (fs : List Rank) (e : Rank) (same before : Bool) → eqb f.0 e.0 ≡ same → (f.0 ≡ e.0 → ⊥) → placed fs e ≡ put fs e
      → cond before (e ∷ f ∷ fs) (f ∷ placed fs e) ≡ cond same (f ∷ fs) (cond before (e ∷ f ∷ fs) (f ∷ put fs e))
  placed_by f fs e true before es apart h = absurd (apart (eqb-true f.0 e.0 es))
  placed_by f fs e false before es apart h = ap (λ t. cond before (e ∷ f ∷ fs) (f ∷ t)) h

  pub placed_put : (rs : List Rank) (e : Rank) → ((z : Rank) → Contains rs z → z.0 ≡ e.0 → ⊥) → placed rs e ≡ put rs e
  placed_put [] e apart = refl
  placed_put (f ∷ fs) e apart =
      placed_by f fs e (eqb f.0 e.0) (comes_first e f) refl (apart f (Contains-here f fs)) (placed_put fs e (λ z c. apart z (Contains-there f fs z c)))

-- ---- the first k
pub in_take : (k : ℕ) (xs : List Rank) (z : Rank) → Contains (take k xs) z → Contains xs z
in_take zero xs z c = absurd (Contains-nil z c)
in_take (suc k) [] z c = absurd (Contains-nil z c)
in_take (suc k) (x ∷ xs) z c =
    ⊎_elim (λ is. subst (Contains (x ∷ xs)) is (Contains-here x xs)) (λ d. Contains-there x xs z (in_take k xs z d)) (Contains-cons_cases x (take k xs) z c)

pub take_ranked : (k : ℕ) (xs : List Rank) → AreRanked xs → AreRanked (take k xs)
take_ranked zero xs h = tt
take_ranked (suc k) [] h = tt
take_ranked (suc k) (x ∷ xs) h = (λ y c. h.0 y (in_take k xs y c), take_ranked k xs h.1)

pub take_few : (k : ℕ) (xs : List Rank) → length (take k xs) ≤ k
take_few zero xs = omega arith
take_few (suc k) [] = omega arith
take_few (suc k) (x ∷ xs) = let r = take_few k xs in omega arith

-- it is listed, or k are, all ahead of it
abbrev pub IsSettled : ℕ → List Rank → Rank → Type 0
IsSettled k rs e = Contains rs e ⊎ ((length rs ≡ k) × ((y : Rank) → Contains rs y → Ahead y e))

pub take_settled : (k : ℕ) (xs : List Rank) → AreRanked xs → (e : Rank) → Contains xs e → IsSettled k (take k xs) e
take_settled zero xs h e c = inr (refl, λ y d. absurd (Contains-nil y d))
take_settled (suc k) [] h e c = absurd (Contains-nil e c)
take_settled (suc k) (x ∷ xs) h e c =
    ⊎_elim (λ is. inl (subst (Contains (x ∷ take k xs)) is (Contains-here x (take k xs))))
    (λ d. ⊎_elim (λ i. inl (Contains-there x (take k xs) e i))
    (λ w. let l =
    w.0 in inr (omega arith, λ y i. ⊎_elim (λ is. subst (λ (z : Rank). Ahead z e) is (h.0 e d)) (λ j. w.1 y j) (Contains-cons_cases x (take k xs) y i)))
    (take_settled k xs h.1 e d))
    (Contains-cons_cases x xs e c)

-- ---- ranked lists against each other
lower : (x y : Rank) (xs ys : List Rank) → AreRanked (x ∷ xs) → AreRanked (y ∷ ys) → Contains ys x → (z : Rank) → Contains (x ∷ xs) z
    → Contains (y ∷ ys) z → Contains ys z
lower x y xs ys h k cx z cz c =
    ⊎_elim
    (λ is. absurd (⊎_elim (λ xz. not_itself x (subst (λ (t : Rank). Ahead t x) (is ∙ sym xz) (k.0 x cx)))
    (λ d. not_both x y (subst (Ahead x) (sym is) (h.0 z d)) (k.0 x cx)) (Contains-cons_cases x xs z cz)))
    (λ d. d) (Contains-cons_cases y ys z c)

tail_in : (x y : Rank) (xs ys : List Rank) → AreRanked (x ∷ xs) → y ≡ x → ((z : Rank) → Contains (x ∷ xs) z → Contains (y ∷ ys) z) → (z : Rank)
    → Contains xs z → Contains ys z
tail_in x y xs ys h is in' z c =
    ⊎_elim (λ yz. absurd (not_itself x (subst (Ahead x) (sym (sym is ∙ yz)) (h.0 z c)))) (λ d. d) (Contains-cons_cases y ys z (in' z (Contains-there x xs z c)))

pub sub_length : (xs ys : List Rank) → AreRanked xs → AreRanked ys → ((z : Rank) → Contains xs z → Contains ys z) → length xs ≤ length ys
sub_length [] ys h k in' = omega arith
sub_length (x ∷ xs) [] h k in' = absurd (Contains-nil x (in' x (Contains-here x xs)))
sub_length (x ∷ xs) (y ∷ ys) h k in' =
    ⊎_elim (λ is. let r = sub_length xs ys h.1 k.1 (tail_in x y xs ys h is in') in omega arith)
    (λ d. let r = sub_length (x ∷ xs) ys h k.1 (λ z c. lower x y xs ys h k d z c (in' z c)) in let t : suc (length xs) ≤ length ys = r in omega arith)
    (Contains-cons_cases y ys x (in' x (Contains-here x xs)))

-- as many of them are all of them
pub sub_same : (xs ys : List Rank) → AreRanked xs → AreRanked ys → ((z : Rank) → Contains xs z → Contains ys z) → length ys ≤ length xs → xs ≡ ys
sub_same [] [] h k in' le = refl
sub_same [] (y ∷ ys) h k in' le = absurd (let no : ⊥ = omega arith in no)
sub_same (x ∷ xs) [] h k in' le = absurd (Contains-nil x (in' x (Contains-here x xs)))
sub_same (x ∷ xs) (y ∷ ys) h k in' le =
    ⊎_elim (λ is. ap₂ ◌∷◌ (sym is) (sub_same xs ys h.1 k.1 (tail_in x y xs ys h is in') (omega arith)))
    (λ d. absurd (let r = sub_length (x ∷ xs) ys h k.1 (λ z c. lower x y xs ys h k d z c (in' z c)) in let t : suc (length xs) ≤ length ys = r in omega arith))
    (Contains-cons_cases y ys x (in' x (Contains-here x xs)))

-- the first of a ranked list: those of it, or else all ahead
pub first_of : (xs ys : List Rank) → AreRanked xs → AreRanked ys → ((z : Rank) → Contains xs z → Contains ys z)
    → ((z : Rank) → Contains ys z → Contains xs z ⊎ ((y : Rank) → Contains xs y → Ahead y z)) → xs ≡ take (length xs) ys
first_of [] ys h k in' out = refl
first_of (x ∷ xs) [] h k in' out = absurd (Contains-nil x (in' x (Contains-here x xs)))
first_of (x ∷ xs) (y ∷ ys) h k in' out =
    let is : y ≡ x =
    ⊎_elim (λ i. i)
    (λ d. absurd (⊎_elim
    (λ c. ⊎_elim (λ xy. not_itself x (subst (λ (t : Rank). Ahead t x) (sym xy) (k.0 x d))) (λ e. not_both x y (h.0 y e) (k.0 x d))
    (Contains-cons_cases x xs y c))
    (λ f. not_both x y (f x (Contains-here x xs)) (k.0 x d))
    (out y (Contains-here y ys))))
    (Contains-cons_cases y ys x (in' x (Contains-here x xs))) in
    ap₂ ◌∷◌ (sym is)
    (first_of xs ys h.1 k.1 (tail_in x y xs ys h is in')
    (λ z c. ⊎_elim
    (λ d. ⊎_elim (λ xz. absurd (not_itself y (subst (Ahead y) (sym (is ∙ xz)) (k.0 z c)))) (λ e. inl e) (Contains-cons_cases x xs z d))
    (λ f. inr (λ t e. f t (Contains-there x xs t e)))
    (out z (Contains-there y ys z c))))
