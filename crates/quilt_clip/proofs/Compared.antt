-- Fractions in whatever terms compare as they do in lowest terms.
use Rattle.std.proofs.Common.{◌≡◌, ℕ, suc, ◌*◌, ◌<◌, ◌≤◌, nat_lt, inl, inr, refl, sym, ◌∙◌, ap, ap₂, arith, subst}
use Rattle.std.specs.Ordering.{nat_cmp, MatchOrdering}
use Rattle.std.specs.Cmp.{IsTotalOrder, nat_cmp_total, nat_cmp_is, ranked, both_ways}
use Rattle.std.specs.declared.cmp.Ordering.{Ordering}
use Rattle.std.specs.declared.cmp.Ordering.TheVariants.{Less, Equal, Greater}
use Rattle.std.proofs.Math.Nat.{mul-le-mul_right}
use Rattle.std.proofs.lemmas.Bool.{cases_lt, ltb-true, lt-ltb}
use Rattle.quilt_types.specs.Fractions.{Fraction, lowest}
use Rattle.quilt_clip.proofs.Lowest.{lowest_is, mul_cancel}
use Rattle.quilt_clip.specs.Compared.{denominator_of, compared}

-- ---- numbers that are multiplied by others
lt_moves : (a b c d k m : ℕ) → 0 < k → a * k ≡ c * m → b * k ≡ d * m → a < b → c < d
lt_moves a b c d k m pos e f lt =
    elim (cases_lt c d) as (λ _. c < d) [
      | inl h ↦ h
      | inr h ↦ absurd (let up = mul-le-mul_right m h in let down : suc a * k ≤ b * k = mul-le-mul_right k lt in let no : ⊥ = omega arith in no)
    ]

moved_by : (a b c d k m : ℕ) (r : Ordering) → 0 < k → 0 < m → a * k ≡ c * m → b * k ≡ d * m → r ≡ nat_cmp a b → MatchOrdering r (c < d) (c ≡ d) (d < c)
moved_by a b c d k m Less pos pos' e f is = lt_moves a b c d k m pos e f (ranked a b Less is)
moved_by a b c d k m Equal pos pos' e f is = mul_cancel c d m pos' (sym e ∙ ap (λ z. z * k) (let same : a ≡ b = ranked a b Equal is in same) ∙ f)
moved_by a b c d k m Greater pos pos' e f is = lt_moves b a d c k m pos f e (ranked a b Greater is)

cmp_moves : (a b c d k m : ℕ) → 0 < k → 0 < m → a * k ≡ c * m → b * k ≡ d * m → nat_cmp a b ≡ nat_cmp c d
cmp_moves a b c d k m pos pos' e f = nat_cmp_is c d (nat_cmp a b) (moved_by a b c d k m (nat_cmp a b) pos pos' e f refl)

-- ---- the order
over_positive : (f : Fraction) → 0 < denominator_of f
over_positive f = omega arith

over_is : (f : Fraction) → 0 < f.den → denominator_of f ≡ f.den
over_is f pos = omega arith

chain : (a b c p q r : ℕ) → 0 < r → a * q < b * p → b * r < c * q → a * r < c * p
chain a b c p q r pos low high =
    elim (cases_lt (a * r) (c * p)) as (λ _. a * r < c * p) [
      | inl h ↦ h
      | inr h ↦ absurd (let up = mul-le-mul_right q h in let one = mul-le-mul_right r low in let two = mul-le-mul_right p high in
          let no : ⊥ = omega arith in no)
    ]

-- it is total
pub compared_total : IsTotalOrder compared
unfolding compared
compared_total = record {
  antisymm = λ x y. nat_cmp_total.antisymm (x.num * denominator_of y) (y.num * denominator_of x);
  trans = λ x y z h k.
      sym (nat_cmp_is (x.num * denominator_of z) (z.num * denominator_of x) Less
      (chain x.num y.num z.num (denominator_of x) (denominator_of y) (denominator_of z) (over_positive z) (ranked (x.num * denominator_of y) (y.num * denominator_of x) Less (sym h))
      (ranked (y.num * denominator_of z) (z.num * denominator_of y) Less (sym k))));
  congr = λ x y z h.
      let same : x.num * denominator_of y ≡ y.num * denominator_of x = ranked (x.num * denominator_of y) (y.num * denominator_of x) Equal (sym h) in
      cmp_moves (x.num * denominator_of z) (z.num * denominator_of x) (y.num * denominator_of z) (z.num * denominator_of y) (denominator_of y) (denominator_of x) (over_positive y) (over_positive x)
      (omega (arith, ap (λ k. k * denominator_of z) same)) (omega arith);
}

-- and it is that of the cross products where no denominator is 0
pub compared_is : (a b : Fraction) → 0 < a.den → 0 < b.den → compared a b ≡ nat_cmp (a.num * b.den) (b.num * a.den)
unfolding compared
compared_is a b pa pb = ap₂ (λ k m. nat_cmp (a.num * k) (b.num * m)) (over_is b pb) (over_is a pa)

-- ---- p / q and r / s
pub cross_is : (p q r s : ℕ) → 0 < q → 0 < s → nat_cmp (p * s) (r * q) ≡ compared (lowest p q) (lowest r s)
cross_is p q r s pq ps =
    let a = lowest p q in
    let b = lowest r s in
    let la = lowest_is p q pq in
    let lb = lowest_is r s ps in
    cmp_moves (p * s) (r * q) (a.num * b.den) (b.num * a.den) (a.den * b.den) (q * s) (both a.den b.den la.positive lb.positive) (both q s pq ps)
    (omega (arith, ap (λ k. k * (s * b.den)) la.same)) (omega (arith, ap (λ k. k * (q * a.den)) lb.same))
    ∙ sym (compared_is a b la.positive lb.positive)
  where
    both : (k m : ℕ) → 0 < k → 0 < m → 0 < k * m
    both k m pk pm = let h = mul-le-mul_right m pk in omega arith

-- from what the code computed
pub cross_given : (p q r s x y z w : ℕ) (a b : Fraction) (o : Ordering) → 0 < q → 0 < s → lowest p q ≡ a → lowest r s ≡ b → x ≡ p → y ≡ s → z ≡ r
    → w ≡ q → o ≡ nat_cmp (x * y) (z * w)
    → (o ≡ compared a b) × (o ≡ nat_cmp (a.num * b.den) (b.num * a.den))
cross_given p q r s x y z w a b o pq ps ea eb ex ey ez ew eo =
    let is : o ≡ compared (lowest p q) (lowest r s) = eo ∙ ap₂ nat_cmp (ap₂ ◌*◌ ex ey) (ap₂ ◌*◌ ez ew) ∙ cross_is p q r s pq ps in
    let both = ap₂ compared ea eb in
    let pa = subst (λ (f : Fraction). 0 < f.den) ea (lowest_is p q pq).positive in
    let pb = subst (λ (f : Fraction). 0 < f.den) eb (lowest_is r s ps).positive in
    (is ∙ both, is ∙ both ∙ compared_is a b pa pb)

-- p / q against a whole number
pub below_is : (p q d : ℕ) → 0 < q → nat_lt p (d * q) ≡ nat_lt (lowest p q).num (d * (lowest p q).den)
below_is p q d pos =
    let a = lowest p q in
    let la = lowest_is p q pos in
    let same : p * a.den ≡ a.num * q = sym la.same in
    let times : d * q * a.den ≡ d * a.den * q = omega arith in
    both_ways (nat_lt p (d * q)) (nat_lt a.num (d * a.den))
    (λ h. lt-ltb a.num (d * a.den) (lt_moves p (d * q) a.num (d * a.den) a.den q la.positive same times (ltb-true p (d * q) h)))
    (λ h. lt-ltb p (d * q) (lt_moves a.num (d * a.den) p (d * q) q a.den pos (sym same) (sym times) (ltb-true a.num (d * a.den) h)))

pub below_given : (p q d x y z : ℕ) (a : Fraction) → 0 < q → lowest p q ≡ a → x ≡ p → y ≡ d → z ≡ q → nat_lt x (y * z) ≡ nat_lt a.num (d * a.den)
below_given p q d x y z a pos ea ex ey ez = ap₂ nat_lt ex (ap₂ ◌*◌ ey ez) ∙ below_is p q d pos ∙ ap (λ (f : Fraction). nat_lt f.num (d * f.den)) ea
