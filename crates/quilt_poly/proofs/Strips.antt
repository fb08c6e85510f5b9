-- Strips whose bits have the parities of the ones right of them.
use Rattle.std.proofs.Common.{◌≡◌, ℕ, ◌+◌, ◌-◌, ◌*◌, ◌/◌, ◌%◌, ◌<◌, ◌≤◌, cond, ltb, ⊎_elim, List, length, get_or, replicate, refl, sym, ◌∙◌, ap, subst, arith}
use Rattle.std.specs.Int.{bit_at}
use Rattle.std.proofs.lemmas.Bool.{cases_lt, lt-ltb, le-ltb}
use Rattle.std.proofs.lemmas.List.{get_or-replicate, get_or_past, length-replicate}
use Rattle.std.proofs.lemmas.Nat.Bits.{bit_at-zero}
use Rattle.std.proofs.Math.Nat.{mul-le-mul_right}
use Rattle.quilt_poly.specs.Bits.{strips, bit_in, sum_from, next_bit, ones_right, HasParities}
use Rattle.quilt_poly.proofs.Sums.{sum_from-add, sum_from-odd, sum_from-even}
use Rattle.quilt_types.proofs.Lists.{zeros_read}

-- a bit whose word is kept
pub bit_in-kept : (old new : List ℕ) (s y x : ℕ) → get_or new (x / 64 * s + y) 0 ≡ get_or old (x / 64 * s + y) 0 → bit_in new s y x ≡ bit_in old s y x
unfolding bit_in
bit_in-kept old new s y x same = ap (λ w. bit_at w (x % 64)) same

pub next_bit-kept : (old new : List ℕ) (s y strip : ℕ) → ((k : ℕ) → (strip + 1) * s ≤ k → get_or new k 0 ≡ get_or old k 0)
    → next_bit new s y strip ≡ next_bit old s y strip
unfolding next_bit
next_bit-kept old new s y strip same =
    let at : 64 * (strip + 1) / 64 ≡ strip + 1 = omega arith in
    let place : 64 * (strip + 1) / 64 * s + y ≡ (strip + 1) * s + y = ap (λ k. k * s + y) at in
    ap (λ b. cond {A = ℕ} (ltb (strip + 1) (strips s)) b 0)
    (bit_in-kept old new s y (64 * (strip + 1)) (same (64 * (strip + 1) / 64 * s + y) (omega arith)))

-- the parities of a strip's bits, after a step at one row, from the words before the first row
pub row_settled : (first old new : List ℕ) (s y strip i : ℕ) → ((k : ℕ) → strip * s + y ≤ k → get_or old k 0 ≡ get_or first k 0) → y < s
    → bit_in new s y (64 * strip + i) ≡ (sum_from (bit_in old s y) (64 * strip + i) (64 - i) + next_bit old s y strip) % 2
    → bit_in new s y (64 * strip + i) ≡ (sum_from (bit_in first s y) (64 * strip + i) (64 - i) + next_bit first s y strip) % 2
row_settled first old new s y strip i behind hy is =
    let next = next_bit-kept first old s y strip (λ k le. behind k (omega arith)) in
    let sum = sum_from-odd (bit_in old s y) (bit_in first s y) (64 * strip + i) (64 * strip + i) (64 - i) (λ a b e low high.
    let same : a ≡ b = omega arith in
    let at : a / 64 ≡ strip = omega arith in
    let place : a / 64 * s + y ≡ strip * s + y = ap (λ k. k * s + y) at in
    ap (λ k. k % 2) (bit_in-kept first old s y a (behind (a / 64 * s + y) (omega arith)) ∙ ap (bit_in first s y) same)) in
    is ∙ (let z : (sum_from (bit_in old s y) (64 * strip + i) (64 - i) + next_bit old s y strip) % 2
    ≡ (sum_from (bit_in first s y) (64 * strip + i) (64 - i) + next_bit first s y strip) % 2 = omega arith in z)

pub row_at : (first new : List ℕ) (s row y strip i : ℕ) → row ≡ y
    → bit_in new s row (64 * strip + i) ≡ (sum_from (bit_in first s row) (64 * strip + i) (64 - i) + next_bit first s row strip) % 2
    → bit_in new s y (64 * strip + i) ≡ (sum_from (bit_in first s y) (64 * strip + i) (64 - i) + next_bit first s y strip) % 2
row_at first new s row y strip i is =
    subst (λ r. bit_in new s r (64 * strip + i) ≡ (sum_from (bit_in first s r) (64 * strip + i) (64 - i) + next_bit first s r strip) % 2) is

-- a row of the strip whose word is kept
pub row_kept : (old new : List ℕ) (s y j strip i : ℕ) → ((k : ℕ) → (k ≡ strip * s + y → ⊥) → get_or new k 0 ≡ get_or old k 0) → (j ≡ y → ⊥) → i < 64
    → bit_in new s j (64 * strip + i) ≡ bit_in old s j (64 * strip + i)
row_kept old new s y j strip i kept apart lt =
    let at : (64 * strip + i) / 64 ≡ strip = omega arith in
    let place : (64 * strip + i) / 64 * s + j ≡ strip * s + j = ap (λ k. k * s + j) at in
    bit_in-kept old new s j (64 * strip + i) (kept ((64 * strip + i) / 64 * s + j) (λ e. apart (omega arith)))

-- the strips from one on are done, and those before it as they were
pub record AreDone (s strip : ℕ) (first now : List ℕ) : Type 0 where
  pub done : (y x : ℕ) → y < s → 64 * strip ≤ x → x < 64 * strips s → bit_in now s y x ≡ ones_right first s y x % 2
  pub before : (k : ℕ) → k < strip * s → get_or now k 0 ≡ get_or first k 0

module _ (s strip : ℕ) (first old new : List ℕ) (inside : strip < strips s) (h : AreDone s (strip + 1) first old)
    (done : (y i : ℕ) → y < s → i < 64 → bit_in new s y (64 * strip + i)
    ≡ (sum_from (bit_in old s y) (64 * strip + i) (64 - i) + next_bit old s y strip) % 2)
    (before : (k : ℕ) → k < strip * s → get_or new k 0 ≡ get_or old k 0)
    (behind : (k : ℕ) → (strip + 1) * s ≤ k → get_or new k 0 ≡ get_or old k 0) where
  -- the ones right of the strip
  next_is : (y : ℕ) → y < s → next_bit old s y strip ≡ sum_from (bit_in first s y) (64 * (strip + 1)) (64 * strips s - 64 * (strip + 1)) % 2
  unfolding next_bit ones_right sum_from
  next_is y hy =
      ⊎_elim
      (λ lt. ap (λ t. cond {A = ℕ} t (bit_in old s y (64 * (strip + 1))) 0) (lt-ltb (strip + 1) (strips s) lt)
      ∙ h.done y (64 * (strip + 1)) hy (omega arith) (omega arith))
      (λ le. let none : 64 * strips s - 64 * (strip + 1) ≡ 0 = omega arith in
      ap (λ t. cond {A = ℕ} t (bit_in old s y (64 * (strip + 1))) 0) (le-ltb (strip + 1) (strips s) le)
      ∙ sym (ap (λ n. sum_from (bit_in first s y) (64 * (strip + 1)) n % 2) none)) (cases_lt (strip + 1) (strips s))

  in_strip : (y i : ℕ) → y < s → i < 64 → bit_in new s y (64 * strip + i) ≡ ones_right first s y (64 * strip + i) % 2
  unfolding ones_right
  in_strip y i hy lt =
      let f = bit_in first s y in
      let next = next_is y hy in
      let here = sum_from-odd (bit_in old s y) f (64 * strip + i) (64 * strip + i) (64 - i) (λ a b e low high.
      let same : a ≡ b = omega arith in
      let at : a / 64 ≡ strip = omega arith in
      let place : a / 64 * s + y ≡ strip * s + y = ap (λ k. k * s + y) at in
      ap (λ k. k % 2) (bit_in-kept first old s y a (h.before (a / 64 * s + y) (omega arith)) ∙ ap f same)) in
      let long : 64 * strips s - (64 * strip + i) ≡ 64 - i + (64 * strips s - 64 * (strip + 1)) = omega arith in
      let from : 64 * strip + i + (64 - i) ≡ 64 * (strip + 1) = omega arith in
      let sum = ap (sum_from f (64 * strip + i)) long ∙ sum_from-add f (64 * strip + i) (64 - i) (64 * strips s - 64 * (strip + 1)) in
      let rest = ap (λ k. sum_from f k (64 * strips s - 64 * (strip + 1))) from in
      done y i hy lt
      ∙ (let z : (sum_from (bit_in old s y) (64 * strip + i) (64 - i) + next_bit old s y strip) % 2
      ≡ sum_from f (64 * strip + i) (64 * strips s - (64 * strip + i)) % 2 = omega arith in z)

  pub AreDone-more : AreDone s strip first new
  AreDone-more = record {
    done = λ y x hy low high.
        ⊎_elim
        (λ lt.
        let i = x - 64 * strip in
        let is : 64 * strip + (x - 64 * strip) ≡ x = omega arith in
        subst (λ k. bit_in new s y k ≡ ones_right first s y k % 2) is (in_strip y (x - 64 * strip) hy (omega arith)))
        (λ from.
        let least : strip + 1 ≤ x / 64 = omega arith in
        let rows : (strip + 1) * s ≤ x / 64 * s = mul-le-mul_right s least in
        bit_in-kept old new s y x (behind (x / 64 * s + y) (omega arith)) ∙ h.done y x hy from high)
        (cases_lt x (64 * (strip + 1)));
    before = λ k lt. before k lt ∙ h.before k (omega arith);
  }

pub AreDone-first : (s strip : ℕ) (words : List ℕ) → strips s ≤ strip → AreDone s strip words words
AreDone-first s strip words past = record { done = λ y x hy low high. absurd (omega arith); before = λ k lt. refl }

pub AreDone-all : (s : ℕ) (first now : List ℕ) → AreDone s 0 first now → HasParities s (λ p. ones_right first s p.y p.x) now
AreDone-all s first now h = record { each = λ p px py. h.done p.y p.x py (omega arith) (omega arith) }

-- no ones where all words are 0
pub ones_right-none : (n s y x : ℕ) → ones_right (replicate {A = ℕ} n 0) s y x ≡ 0
unfolding ones_right bit_in
ones_right-none n s y x = sum_from-even (bit_in (replicate {A = ℕ} n 0) s y) x (64 * strips s - x) (λ a low high. none (a / 64 * s + y) (a % 64))
  where
    none : (k b : ℕ) → bit_at (get_or (replicate {A = ℕ} n 0) k 0) b ≡ 0
    none k b = ap (λ w. bit_at w b) (zeros_read n k) ∙ bit_at-zero b
