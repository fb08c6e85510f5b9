-- Sums over the numbers below another.
use Rattle.std.proofs.Common.{◌≡◌, ℕ, zero, suc, ◌+◌, ◌*◌, ◌<◌, ⊎_elim, sum_by, refl, sym, ◌∙◌, ap, ap₂, arith}
use Rattle.std.proofs.lemmas.Bool.{cases_lt}
use Rattle.std.proofs.lemmas.List.Sums.{sum_by_push}
use Rattle.quilt_types.specs.Plane.{below}
use Rattle.quilt_types.proofs.Lists.{range_more}

pub below_suc : (h : ℕ → ℕ) (n : ℕ) → sum_by h (below (suc n)) ≡ sum_by h (below n) + h n
below_suc h n =
    ap (sum_by h) (range_more 0 n) ∙ sum_by_push h (below n) (0 + n) ∙ (let e : 0 + n ≡ n = omega arith in ap (λ z. sum_by h (below n) + h z) e)

pub below_same : (f h : ℕ → ℕ) (n : ℕ) → ((i : ℕ) → i < n → f i ≡ h i) → sum_by f (below n) ≡ sum_by h (below n)
below_same f h zero e = refl
below_same f h (suc n) e = below_suc f n ∙ ap₂ (λ a b. a + b) (below_same f h n (λ i lt. e i (omega arith))) (e n (omega arith)) ∙ sym (below_suc h n)

pub below_constant : (f : ℕ → ℕ) (v n : ℕ) → ((i : ℕ) → i < n → f i ≡ v) → sum_by f (below n) ≡ n * v
below_constant f v zero e = omega arith
below_constant f v (suc n) e = below_suc f n ∙ ap₂ (λ a b. a + b) (below_constant f v n (λ i lt. e i (omega arith))) (e n (omega arith)) ∙ more n v
  where
    more : (n v : ℕ) → n * v + v ≡ suc n * v
    more n v = omega arith

-- one term alone is not 0
pub below_only : (f : ℕ → ℕ) (n k : ℕ) → k < n → ((i : ℕ) → i < n → (i ≡ k → ⊥) → f i ≡ 0) → sum_by f (below n) ≡ f k
below_only f zero k lt e = absurd (omega arith)
below_only f (suc n) k lt e =
    ⊎_elim
    (λ l. below_suc f n ∙ ap₂ (λ a b. a + b) (below_only f n k l (λ i li q. e i (omega arith) q)) (e n (omega arith) (λ q. omega arith))
    ∙ (let z : f k + 0 ≡ f k = omega arith in z))
    (λ ge.
    let is : n ≡ k = omega arith in
    let none : sum_by f (below n) ≡ n * 0 = below_constant f 0 n (λ i li. e i (omega arith) (λ q. omega arith)) in
    below_suc f n ∙ ap₂ (λ a b. a + b) none (ap f is) ∙ (let z : n * 0 + f k ≡ f k = omega arith in z)) (cases_lt k n)

-- the first a numbers and those after them
pub below_split : (f : ℕ → ℕ) (a b : ℕ) → sum_by f (below (a + b)) ≡ sum_by f (below a) + sum_by (λ t. f (a + t)) (below b)
below_split f a zero = let e : a + 0 ≡ a =
    omega arith in ap (λ z. sum_by f (below z)) e ∙ (let z : sum_by f (below a) ≡ sum_by f (below a) + 0 = omega arith in z)
below_split f a (suc b) =
    let e : a + suc b ≡ suc (a + b) = omega arith in
    let ih = below_split f a b in
    let l = below_suc f (a + b) in
    let r = below_suc (λ t. f (a + t)) b in
    ap (λ z. sum_by f (below z)) e ∙ (omega arith)
