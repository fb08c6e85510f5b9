-- Sums of a function over consecutive numbers, even or odd.
use Rattle.std.proofs.Common.{◌≡◌, ℕ, zero, suc, ◌+◌, ◌%◌, ◌<◌, ◌≤◌, ⊎_elim, refl, sym, ◌∙◌, ap, subst, arith}
use Rattle.std.proofs.lemmas.Bool.{cases_lt}
use Rattle.quilt_poly.specs.Bits.{sum_from}

-- over so many numbers and so many more
pub sum_from-add : (f : ℕ → ℕ) (i m n : ℕ) → sum_from f i (m + n) ≡ sum_from f i m + sum_from f (i + m) n
unfolding sum_from
sum_from-add f i zero n =
    let a : zero + n ≡ n = omega arith in
    let b : i + zero ≡ i = omega arith in
    ap (sum_from f i) a ∙ ap (λ j. sum_from f j n) (sym b) ∙ (let z : sum_from f (i + zero) n ≡ 0 + sum_from f (i + zero) n = omega arith in z)
sum_from-add f i (suc m) n =
    let a : suc m + n ≡ suc (m + n) = omega arith in
    let b : suc i + m ≡ i + suc m = omega arith in
    let more = sum_from-add f (suc i) m n in
    let at = ap (λ j. sum_from f j n) b in
    ap (sum_from f i) a ∙ (let z : f i + sum_from f (suc i) (m + n) ≡ f i + sum_from f (suc i) m + sum_from f (i + suc m) n = omega arith in z)

-- of functions that are even and odd at the same places
pub sum_from-odd : (f g : ℕ → ℕ) (i k n : ℕ) → ((a b : ℕ) → a + k ≡ b + i → i ≤ a → a < i + n → f a % 2 ≡ g b % 2)
    → sum_from f i n % 2 ≡ sum_from g k n % 2
unfolding sum_from
sum_from-odd f g i k zero same = refl
sum_from-odd f g i k (suc n) same =
    let first = same i k (omega arith) (omega arith) (omega arith) in
    let more = sum_from-odd f g (suc i) (suc k) n (λ a b e low high. same a b (omega arith) (omega arith) (omega arith)) in
    omega arith

-- of a function that is even everywhere
pub sum_from-even : (f : ℕ → ℕ) (i n : ℕ) → ((a : ℕ) → i ≤ a → a < i + n → f a ≡ 0) → sum_from f i n ≡ 0
unfolding sum_from
sum_from-even f i zero none = refl
sum_from-even f i (suc n) none =
    let first = none i (omega arith) (omega arith) in
    let more = sum_from-even f (suc i) n (λ a low high. none a (omega arith) (omega arith)) in
    omega arith

-- of functions that differ at one place
pub sum_from-flipped : (f g : ℕ → ℕ) (x i n : ℕ) → g x % 2 ≡ (f x + 1) % 2 → ((a : ℕ) → i ≤ a → a < i + n → (a ≡ x → ⊥) → g a % 2 ≡ f a % 2)
    → i ≤ x → x < i + n → sum_from g i n % 2 ≡ (sum_from f i n + 1) % 2
unfolding sum_from
sum_from-flipped f g x i zero there others low high = absurd (omega arith)
sum_from-flipped f g x i (suc n) there others low high =
    ⊎_elim
    (λ lt.
    let first = others i (omega arith) (omega arith) (λ e. omega arith) in
    let more = sum_from-flipped f g x (suc i) n there (λ a l h o. others a (omega arith) (omega arith) o) (omega arith) (omega arith) in
    let z : (g i + sum_from g (suc i) n) % 2 ≡ (f i + sum_from f (suc i) n + 1) % 2 = omega arith in z)
    (λ le.
    let is : x ≡ i = omega arith in
    let first = subst (λ k. g k % 2 ≡ (f k + 1) % 2) is there in
    let more = sum_from-odd g f (suc i) (suc i) n (λ a b e l h. let same : a ≡ b = omega arith in
    subst (λ k. g a % 2 ≡ f k % 2) same (others a (omega arith) (omega arith) (λ z. omega arith))) in
    let z : (g i + sum_from g (suc i) n) % 2 ≡ (f i + sum_from f (suc i) n + 1) % 2 = omega arith in z) (cases_lt i x)
