-- An integer as a difference of two naturals, so that a comparison of integers is one of naturals.
use Rattle.std.proofs.Common.{◌≡◌, ℕ, suc, ◌+◌, ◌*◌, ◌<◌, ◌≤◌, Bool, true, false, not, arith, ap, sym, refl, lt-ltb}
use Rattle.std.specs.Prelude.{ℤ, pos, ◌-ℤ◌, ◌*ℤ◌, int_lt, nat_lt}
use Rattle.std.specs.Int.Signed.{lt_z_yes, lt_z_no}
use Rattle.std.proofs.lemmas.Bool.{lt-leb}
use Rattle.std.proofs.lemmas.Float.{T_from_true}
use Rattle.std.proofs.lemmas.Int.{ints}
use borrow.Author.Differences.{up, down, product_is}

-- z is u - v
pub record IsDiff (z : ℤ) (u v : ℕ) : Type 0 where
  pub fact : up z + v ≡ u + down z

pub diff_pos : (n : ℕ) → IsDiff (pos n) n 0
diff_pos n = record { fact = omega (arith, ints) }

pub minus : {z y : ℤ} {u v s t : ℕ} → IsDiff z u v → IsDiff y s t → IsDiff (z -ℤ y) (u + t) (v + s)
minus {z} {y} {u} {v} {s} {t} a b = let fa = a.fact in let fb = b.fact in record { fact = omega (arith, ints) }

product : (a b c d u v s t : ℕ) → a + v ≡ u + b → c + t ≡ s + d → (a * c + b * d) + (u * t + v * s) ≡ (u * s + v * t) + (a * d + b * c)
product a b c d u v s t e f = omega (arith, ap (λ z. z * c) e, ap (λ z. z * d) e, ap (λ z. u * z) f, ap (λ z. v * z) f)

pub times : {z y : ℤ} {u v s t : ℕ} → IsDiff z u v → IsDiff y s t → IsDiff (z *ℤ y) (u * s + v * t) (u * t + v * s)
times {z} {y} {u} {v} {s} {t} a b =
    let is = product_is z y in
    let n = product (up z) (down z) (up y) (down y) u v s t a.fact b.fact in
    record { fact = omega (arith, is.0, is.1, n) }

less_is : (z y : ℤ) (u v s t : ℕ) (b : Bool) → IsDiff z u v → IsDiff y s t → int_lt z y ≡ b → b ≡ nat_lt (u + t) (s + v)
less_is z y u v s t true d e is =
    let fd = d.fact in let fe = e.fact in
    let h = lt_z_yes {a = z} {b = y} (T_from_true (int_lt z y) is) in
    let lt : u + t < s + v = omega (arith, ints) in
    sym (lt-ltb (u + t) (s + v) lt)
less_is z y u v s t false d e is =
    let fd = d.fact in let fe = e.fact in
    let h = lt_z_no {a = z} {b = y} (T_from_true (not (int_lt z y)) (ap not is)) in
    let le : s + v ≤ u + t = omega (arith, ints) in
    sym (lt-leb (suc (u + t)) (s + v) (omega arith))

-- one is less than the other
pub diff_less : {z y : ℤ} {u v s t : ℕ} → IsDiff z u v → IsDiff y s t → int_lt z y ≡ nat_lt (u + t) (s + v)
diff_less {z} {y} {u} {v} {s} {t} d e = less_is z y u v s t (int_lt z y) d e refl
