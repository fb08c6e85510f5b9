-- How many pages are dirty or changed, after each step.
use Rattle.std.proofs.Common.{◌≡◌, ◌≢◌, inl, inr, ℕ, zero, suc, ◌+◌, ◌-◌, ◌<◌, ◌≤◌, Bool, true, false, cond, nat_eq, List, [], ◌∷◌, length, filter, refl, sym}
use Rattle.std.proofs.Common.{◌∙◌, ap, arith, add-one, add-zero}
use Rattle.std.specs.List.{range_with_len}
use Rattle.std.proofs.lemmas.Bool.{cases_Bool, cases_eq, ne_eqb}
use Rattle.quilt_types.specs.Plane.{below}
use Rattle.quilt_pool.specs.Entries.{Entries, is_marked}
use Rattle.quilt_edition.specs.Keeping.{marked_count}
use Rattle.quilt_pool.proofs.Draining.{count_first, count_next}

pub count_same : (f h : ℕ → Bool) → ((i : ℕ) → f i ≡ h i) → (xs : List ℕ) → length (filter f xs) ≡ length (filter h xs)
count_same f h same [] = refl
count_same f h same (x ∷ xs) = elim (cases_Bool (h x)) [
  | inl t ↦ rw (same x, t) (ap (λ n. suc n) (count_same f h same xs))
  | inr e ↦ rw (same x, e) (count_same f h same xs)
]

pub count_le : (f h : ℕ → Bool) → ((i : ℕ) → f i ≡ true → h i ≡ true) → (xs : List ℕ) → length (filter f xs) ≤ length (filter h xs)
count_le f h less [] = omega arith
count_le f h less (x ∷ xs) = let on = count_le f h less xs in elim (cases_Bool (f x)) [
  | inl t ↦ rw (t, less x t) (omega (arith, on))
  | inr e ↦ elim (cases_Bool (h x)) [
    | inl t ↦ rw (e, t) (omega (arith, on))
    | inr u ↦ rw (e, u) on
  ]
]

past : (f h : ℕ → Bool) (k : ℕ) → ((i : ℕ) → i ≢ k → f i ≡ h i) → (a n : ℕ) → k < a
    → length (filter f (range_with_len a n)) ≤ length (filter h (range_with_len a n))
past f h k same a zero lt = omega arith
past f h k same a (suc n) lt = let on = past f h k same (a + 1) n (omega (arith, lt)) in elim (cases_Bool (h a)) [
  | inl t ↦ rw (same a (omega (arith, lt)), t) (omega (arith, on))
  | inr e ↦ rw (same a (omega (arith, lt)), e) on
]

one_more : (f h : ℕ → Bool) (k : ℕ) → ((i : ℕ) → i ≢ k → f i ≡ h i) → (a n : ℕ)
    → length (filter f (range_with_len a n)) ≤ length (filter h (range_with_len a n)) + 1
one_more f h k same a zero = omega arith
one_more f h k same a (suc n) = elim (cases_eq a k) [
  | inl here ↦ let on = past f h k same (a + 1) n (omega (arith, here)) in elim (cases_Bool (f a)) [
    | inl t ↦ elim (cases_Bool (h a)) [
      | inl u ↦ rw (t, u) (omega (arith, on))
      | inr e ↦ rw (t, e) (omega (arith, on))
    ]
    | inr e ↦ elim (cases_Bool (h a)) [
      | inl u ↦ rw (e, u) (omega (arith, on))
      | inr v ↦ rw (e, v) (omega (arith, on))
    ]
  ]
  | inr ne ↦ let on = one_more f h k same (a + 1) n in elim (cases_Bool (h a)) [
    | inl t ↦ rw (same a ne, t) (omega (arith, on))
    | inr e ↦ rw (same a ne, e) on
  ]
]

module _ (n : ℕ) (es fs : Entries) (c d : List Bool) where
  pub marked_kept : ((i : ℕ) → is_marked fs d i ≡ is_marked es c i) → marked_count n fs d ≤ marked_count n es c
  unfolding marked_count
  marked_kept same = let e = count_same (is_marked fs d) (is_marked es c) same (below n) in omega (arith, e)

  pub marked_less : ((i : ℕ) → is_marked fs d i ≡ true → is_marked es c i ≡ true) → marked_count n fs d ≤ marked_count n es c
  unfolding marked_count
  marked_less less = count_le (is_marked fs d) (is_marked es c) less (below n)

  pub marked_more : (k : ℕ) → ((i : ℕ) → is_marked fs d i ≡ cond (nat_eq i k) true (is_marked es c i)) → marked_count n fs d ≤ marked_count n es c + 1
  unfolding marked_count
  marked_more k same = one_more (is_marked fs d) (is_marked es c) k (λ i ne. same i ∙ ap (λ b. cond b true (is_marked es c i)) (ne_eqb i k ne)) 0 n

-- no number is counted
pub count_none : (f : ℕ → Bool) (a n : ℕ) → ((i : ℕ) → a ≤ i → i < a + n → f i ≡ false) → length (filter f (range_with_len a n)) ≡ 0
count_none f a zero none = refl
count_none f a (suc n) none = rw (none a (omega arith) (omega arith)) (count_none f (a + 1) n (λ i le lt. none i (omega (arith, le)) (omega (arith, lt))))

pub count_more : (f : ℕ → Bool) (a n : ℕ) → length (filter f (range_with_len a (n + 1))) ≡ length (filter f (range_with_len a n)) + cond {A = ℕ} (f (a + n)) 1 0
count_more f a n = ap (λ k. length (filter f (range_with_len a k))) (add-one n) ∙ count_next f a n

pub count_most : (f : ℕ → Bool) (a n : ℕ) → length (filter f (range_with_len a n)) ≤ n
count_most f a zero = omega arith
count_most f a (suc n) = let on = count_most f (a + 1) n in elim (cases_Bool (f a)) [
  | inl t ↦ rw t (omega (arith, on))
  | inr e ↦ rw e (omega (arith, on))
]

-- all numbers are counted
pub count_all : (f : ℕ → Bool) (a n : ℕ) → ((i : ℕ) → a ≤ i → i < a + n → f i ≡ true) → length (filter f (range_with_len a n)) ≡ n
count_all f a zero all = refl
count_all f a (suc n) all =
    rw (all a (omega arith) (omega arith)) (ap (λ k. suc k) (count_all f (a + 1) n (λ i le lt. all i (omega (arith, le)) (omega (arith, lt)))))

-- the first m numbers and the n behind them
pub count_split : (f : ℕ → Bool) (a m n k : ℕ) → k ≡ m + n
    → length (filter f (range_with_len a k)) ≡ length (filter f (range_with_len a m)) + length (filter f (range_with_len (a + m) n))
count_split f a zero n k e =
    let left : k ≡ n = omega (arith, e) in
    let here : a ≡ a + 0 = omega arith in
    ap (λ j. length (filter f (range_with_len a j))) left ∙ ap (λ i. length (filter f (range_with_len i n))) here ∙ omega arith
count_split f a (suc m) n zero e = absurd (omega (arith, e))
count_split f a (suc m) n (suc k) e =
    let on = count_split f (a + 1) m n k (omega (arith, e)) in
    let left = count_first (f a) a (filter f (range_with_len (a + 1) k)) in
    let right = count_first (f a) a (filter f (range_with_len (a + 1) m)) in
    let same : length (filter f (range_with_len (a + 1 + m) n)) ≡ length (filter f (range_with_len (a + suc m) n)) =
    ap (λ i. length (filter f (range_with_len i n))) (omega arith) in
    omega (arith, left, right, on, same)

-- neither 0 nor a number past the last is counted
pub count_inside : (f : ℕ → Bool) (n k : ℕ) → f 0 ≡ false → ((i : ℕ) → n ≤ i → f i ≡ false) → 1 ≤ n → n ≤ k
    → length (filter f (range_with_len 0 k)) ≡ length (filter f (range_with_len 1 (n - 1)))
count_inside f n k first past least most =
    let head : length (filter f (range_with_len 0 k)) ≡ length (filter f (range_with_len 0 1)) + length (filter f (range_with_len 1 (k - 1))) =
    count_split f 0 1 (k - 1) k (omega (arith, least, most)) in
    let none : length (filter f (range_with_len 0 1)) ≡ 0 = count_none f 0 1 (λ i le lt. let zero_is : i ≡ 0 = omega (arith, lt) in ap f zero_is ∙ first) in
    let rest = count_split f 1 (n - 1) (k - n) (k - 1) (omega (arith, least, most)) in
    let behind = count_none f (1 + (n - 1)) (k - n) (λ i le lt. past i (omega (arith, le, least))) in
    omega (arith, head, none, rest, behind)
