-- Bits of a word, and of the words of a row.
use Rattle.std.proofs.Common.{◌≡◌, ℕ, zero, suc, ◌+◌, ◌-◌, ◌*◌, ◌/◌, ◌%◌, ◌^◌, ◌<◌, ◌≤◌, min, Bool, true, false, cond, ltb, ⊎_elim, List, length, get_or, sym, ◌∙◌, ap, ap₂, subst, arith}
use Rattle.std.specs.Int.{bit_at}
use Rattle.std.specs.Int.Bits.{bit_xor, bit_and, xor_zero_r}
use Rattle.std.proofs.lemmas.Bool.{cases_lt, lt-ltb, le-ltb}
use Rattle.std.proofs.lemmas.Nat.{one_shl, mul-add-lt, shr-shr, and_mask, pow_below}
use Rattle.std.proofs.Math.Nat.{mul-le-mul_right}
use Rattle.std.proofs.lemmas.Nat.Bits.{bit_at_xor, bit_at_and, bit_at_ones, bit_at_above, bit_at-lt, bit_at_lowest}
use Rattle.quilt_types.specs.declared.plane.Block.{Block}
use Rattle.quilt_types.specs.Plane.{IsBlock}
use Rattle.quilt_poly.specs.Bits.{strips, bit_in, sum_from, next_bit}
use Rattle.quilt_poly.proofs.Sums.{sum_from-add, sum_from-odd, sum_from-even, sum_from-flipped}
use Rattle.quilt_poly.proofs.Flips.{flipped_same, flipped_other}

-- the bits of a word after a shift to the right
bit_at-shr : (w s i : ℕ) → bit_at (w / 2 ^ s) i ≡ bit_at w (s + i)
bit_at-shr w s i = ap (λ k. k % 2) (shr-shr w s i)

-- the parities over so many bits, and over twice as many
pub one_each : (w i : ℕ) → bit_at w i ≡ sum_from (bit_at w) i 1 % 2
unfolding sum_from
one_each w i =
    let l = bit_at-lt w i in
    let z : bit_at w i ≡ (bit_at w i + 0) % 2 = omega arith in z

pub twice_each : (w v s : ℕ) → ((i : ℕ) → bit_at v i ≡ sum_from (bit_at w) i s % 2) → (i : ℕ)
    → bit_at (bit_xor v (v / 2 ^ s)) i ≡ sum_from (bit_at w) i (s + s) % 2
twice_each w v s each i =
    let a = each i in
    let b = bit_at-shr v s i ∙ ap (bit_at v) (let z : s + i ≡ i + s = omega arith in z) ∙ each (i + s) in
    let sum = sum_from-add (bit_at w) i s s in
    bit_at_xor v (v / 2 ^ s) i ∙ ap₂ (λ j k. (j + k) % 2) a b
    ∙ (let z : (sum_from (bit_at w) i s % 2 + sum_from (bit_at w) (i + s) s % 2) % 2 ≡ sum_from (bit_at w) i (s + s) % 2 = omega arith in z)

-- no bits of a word above its 64
pub up_to_word : (w i : ℕ) → w < 2 ^ 64 → i < 64 → sum_from (bit_at w) i 64 ≡ sum_from (bit_at w) i (64 - i)
up_to_word w i fits lt =
    let long : 64 ≡ 64 - i + i = omega arith in
    let none = sum_from-even (bit_at w) (i + (64 - i)) i (λ a low high. bit_at_above w 64 a fits (omega arith)) in
    ap (sum_from (bit_at w) i) long ∙ sum_from-add (bit_at w) i (64 - i) i
    ∙ (let z : sum_from (bit_at w) i (64 - i) + sum_from (bit_at w) (i + (64 - i)) i ≡ sum_from (bit_at w) i (64 - i) = omega arith in z)

-- the bits of pixels in one word
pub bit_in-word : (words : List ℕ) (s y strip i : ℕ) → i < 64 → bit_in words s y (64 * strip + i) ≡ bit_at (get_or words (strip * s + y) 0) i
unfolding bit_in
bit_in-word words s y strip i lt =
    let at : (64 * strip + i) / 64 ≡ strip = omega arith in
    let bit : (64 * strip + i) % 64 ≡ i = omega arith in
    ap₂ (λ a b. bit_at (get_or words (a * s + y) 0) b) at bit

pub bit_in-part : (words : List ℕ) (s y x count j : ℕ) → x % 64 + count ≤ 64 → count ≤ 32 → j < count
    → bit_at (bit_and (get_or words (x / 64 * s + y) 0 / 2 ^ (x % 64)) (1 * 2 ^ count % 18446744073709551616 - 1)) j ≡ bit_in words s y (x + j)
unfolding bit_in
bit_in-part words s y x count j one few lt =
    let w = get_or words (x / 64 * s + y) 0 in
    let l = bit_at-lt (w / 2 ^ (x % 64)) j in
    let at : x / 64 ≡ (x + j) / 64 = omega arith in
    let bit : x % 64 + j ≡ (x + j) % 64 = omega arith in
    ap (λ m. bit_at (bit_and (w / 2 ^ (x % 64)) (m - 1)) j) (one_shl count 64 (omega arith))
    ∙ bit_at_and (w / 2 ^ (x % 64)) (2 ^ count - 1) j
    ∙ ap (min (bit_at (w / 2 ^ (x % 64)) j)) (bit_at_ones count j lt)
    ∙ (let z : min (bit_at (w / 2 ^ (x % 64)) j) 1 ≡ bit_at (w / 2 ^ (x % 64)) j = omega arith in z)
    ∙ bit_at-shr w (x % 64) j
    ∙ ap₂ (λ a b. bit_at (get_or words (a * s + y) 0) b) at bit

-- the bit of a row right of a strip
pub next_bit-is : (words : List ℕ) (s y strip : ℕ) → length words ≡ strips s * s → y < s → (strip + 1) * s + y < length words
    → bit_and (get_or words ((strip + 1) * s + y) 0) 1 ≡ next_bit words s y strip
unfolding next_bit
next_bit-is words s y strip room hy inside =
    ⊎_elim
    (λ lt.
    and_mask (get_or words ((strip + 1) * s + y) 0) 1
    ∙ (let l : get_or words ((strip + 1) * s + y) 0 % 2 ≡ bit_at (get_or words ((strip + 1) * s + y) 0) 0 = sym (bit_at_lowest (get_or words ((strip + 1) * s + y) 0)) in l)
    ∙ sym (bit_in-word words s y (strip + 1) 0 (omega arith))
    ∙ ap (bit_in words s y) (let z : 64 * (strip + 1) + 0 ≡ 64 * (strip + 1) = omega arith in z)
    ∙ sym (ap (λ t. cond {A = ℕ} t (bit_in words s y (64 * (strip + 1))) 0) (lt-ltb (strip + 1) (strips s) lt)))
    (λ le. let m = mul-le-mul_right s le in absurd (omega arith)) (cases_lt (strip + 1) (strips s))

pub next_bit-none : (words : List ℕ) (s y strip : ℕ) → length words ≡ strips s * s → y < s → length words ≤ (strip + 1) * s + y
    → 0 ≡ next_bit words s y strip
unfolding next_bit
next_bit-none words s y strip room hy past =
    ⊎_elim (λ lt. let m = mul-add-lt (strip + 1) s y (strips s) lt hy in absurd (omega arith))
    (λ le. sym (ap (λ t. cond {A = ℕ} t (bit_in words s y (64 * (strip + 1))) 0) (le-ltb (strip + 1) (strips s) le))) (cases_lt (strip + 1) (strips s))

pub next_bit-lt : (words : List ℕ) (s y strip : ℕ) → next_bit words s y strip < 2
unfolding next_bit bit_in
next_bit-lt words s y strip = go (ltb (strip + 1) (strips s))
  where
    go : (t : Bool) → cond {A = ℕ} t (bit_in words s y (64 * (strip + 1))) 0 < 2
    go true = bit_at-lt (get_or words (64 * (strip + 1) / 64 * s + y) 0) (64 * (strip + 1) % 64)
    go false = omega arith

-- the ones of a word from a bit on, with one above them all
with_next : (w next i : ℕ) → next < 2 → i < 64
    → sum_from (bit_at (bit_xor w (next * 9223372036854775808 % 18446744073709551616))) i (64 - i) % 2 ≡ (sum_from (bit_at w) i (64 - i) + next) % 2
with_next w zero i lt inside =
    ap (λ v. sum_from (bit_at v) i (64 - i) % 2) (xor_zero_r w) ∙ (let z : sum_from (bit_at w) i (64 - i) % 2 ≡ (sum_from (bit_at w) i (64 - i) + 0) % 2 = omega arith in z)
with_next w (suc zero) i lt inside =
    let same = flipped_same w 63 (omega arith) in
    sum_from-flipped (bit_at w) (bit_at (bit_xor w 9223372036854775808)) 63 i (64 - i) (ap (λ k. k % 2) same ∙ (let z : (bit_at w 63 + 1) % 2 % 2 ≡ (bit_at w 63 + 1) % 2 = omega arith in z))
    (λ a low high other. ap (λ k. k % 2) (flipped_other w 63 a (omega arith) other)) (omega arith) (omega arith)
with_next w (suc (suc n)) i lt inside = absurd (omega arith)

pub settled_word : (words : List ℕ) (s y strip next result i : ℕ) → next ≡ next_bit words s y strip → i < 64
    → result ≡ sum_from (bit_at (bit_xor (get_or words (strip * s + y) 0) (next * 9223372036854775808 % 18446744073709551616))) i (64 - i) % 2
    → result ≡ (sum_from (bit_in words s y) (64 * strip + i) (64 - i) + next_bit words s y strip) % 2
settled_word words s y strip next result i is lt at =
    let w = get_or words (strip * s + y) 0 in
    let few = next_bit-lt words s y strip in
    let same = sum_from-odd (bit_at w) (bit_in words s y) i (64 * strip + i) (64 - i) (λ a b e low high.
    let place : b ≡ 64 * strip + a = omega arith in
    ap (λ k. k % 2) (sym (ap (bit_in words s y) place ∙ bit_in-word words s y strip a (omega arith)))) in
    at ∙ with_next w next i (omega arith) lt
    ∙ (let z : (sum_from (bit_at w) i (64 - i) + next) % 2 ≡ (sum_from (bit_in words s y) (64 * strip + i) (64 - i) + next_bit words s y strip) % 2 = omega arith in z)

-- a number of so many ones
pub all_ones : (bits count j : ℕ) → bits ≡ 1 * 2 ^ count % 18446744073709551616 - 1 → count ≤ 32 → j < count → bit_at bits j ≡ 1
all_ones bits count j is few lt =
    ap (λ v. bit_at v j) (is ∙ ap (λ m. m - 1) (one_shl count 64 (omega arith))) ∙ bit_at_ones count j lt

-- a block of up to 32 columns stands in one word
in_word' : (x s k : ℕ) → k ≤ 5 → s ≡ 2 ^ k → x % s ≡ 0 → x % 64 + s ≤ 64
in_word' x s zero le is at = subst (λ t. x % 64 + t ≤ 64) (sym is) (omega arith)
in_word' x s (suc zero) le is at = let e = subst (λ t. x % t ≡ 0) is at in subst (λ t. x % 64 + t ≤ 64) (sym is) (omega arith)
in_word' x s (suc (suc zero)) le is at = let e = subst (λ t. x % t ≡ 0) is at in subst (λ t. x % 64 + t ≤ 64) (sym is) (omega arith)
in_word' x s (suc (suc (suc zero))) le is at = let e = subst (λ t. x % t ≡ 0) is at in subst (λ t. x % 64 + t ≤ 64) (sym is) (omega arith)
in_word' x s (suc (suc (suc (suc zero)))) le is at = let e = subst (λ t. x % t ≡ 0) is at in subst (λ t. x % 64 + t ≤ 64) (sym is) (omega arith)
in_word' x s (suc (suc (suc (suc (suc zero))))) le is at =
    let e = subst (λ t. x % t ≡ 0) is at in subst (λ t. x % 64 + t ≤ 64) (sym is) (omega arith)
in_word' x s (suc (suc (suc (suc (suc (suc k)))))) le is at = absurd (omega arith)

pub block_in_word : (n : ℕ) (b : Block) → IsBlock n b → b.side ≤ 32 → b.x % 64 + b.side ≤ 64
block_in_word n b h le =
    let size = h.size in
    ⊎_elim (λ lt. in_word' b.x b.side h.level (omega arith) h.size h.on_x)
    (λ from. let wide = pow_below 5 h.level (omega arith) in absurd (omega arith)) (cases_lt h.level 6)
