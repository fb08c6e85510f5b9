-- The bits of codes and of coordinates, eight at a time, as the tables have them.
use Rattle.std.proofs.Common.{◌≡◌, ℕ, zero, suc, ◌+◌, ◌*◌, ◌/◌, ◌%◌, ◌^◌, ◌<◌, get_or, map, refl, ◌∙◌, ap, ap₂, arith, pow-suc}
use Rattle.std.specs.List.{range_with_len}
use Rattle.std.proofs.lemmas.List.FromFn.{get_or-map-range_with_len}
use Rattle.quilt_types.specs.Codes.{interleaved, gathered}
use Rattle.quilt_types.specs.declared.location_code.TheConstants.{SPREAD, PLACES}
use Rattle.quilt_types.proofs.CodeLaws.{interleaved_split, interleaved_low}

-- ---- a coordinate's bits moved apart
spread_table : SPREAD ≡ map (λ n. interleaved 8 n 0) (range_with_len 0 256)
unfolding interleaved
spread_table = refl

pub spread_at : (n : ℕ) → n < 256 → get_or SPREAD n 0 ≡ interleaved 8 n 0
spread_at n lt = ap (λ l. get_or l n 0) spread_table ∙ get_or-map-range_with_len (λ n. interleaved 8 n 0) 0 256 n n 0 lt (omega arith)

-- the bits of both in turn are those of each moved apart
pub interleaved_sum : (k x y : ℕ) → interleaved k x y ≡ interleaved k x 0 + 2 * interleaved k y 0
unfolding interleaved
interleaved_sum zero x y = refl
interleaved_sum (suc k) x y = let ih = interleaved_sum k (x / 2) (y / 2) in omega arith

interleaved_zeros : (k : ℕ) → interleaved k 0 0 ≡ 0
unfolding interleaved
interleaved_zeros zero = refl
interleaved_zeros (suc k) = let ih = interleaved_zeros k in omega arith

-- four bits are eight of which four are 0
four_bits : (x y : ℕ) → x < 16 → y < 16 → interleaved 8 x y ≡ interleaved 4 x y
four_bits x y hx hy =
    let ex : x / 2 ^ 4 ≡ 0 = omega arith in
    let ey : y / 2 ^ 4 ≡ 0 = omega arith in
    let none : interleaved 4 (x / 2 ^ 4) (y / 2 ^ 4) ≡ 0 = ap₂ (interleaved 4) ex ey ∙ interleaved_zeros 4 in
    interleaved_split 4 4 x y ∙ (let e : interleaved 4 x y + 4 ^ 4 * interleaved 4 (x / 2 ^ 4) (y / 2 ^ 4) ≡ interleaved 4 x y = omega arith in e)

-- the last eight bits of each, and the others
pub interleaved_bytes : (x y : ℕ) → x < 4096 → y < 4096
    → interleaved 12 x y ≡ interleaved 8 (x % 256) (y % 256) + 65536 * interleaved 8 (x / 256) (y / 256)
interleaved_bytes x y hx hy =
    let ex : x ≡ x % 256 + 2 ^ 8 * (x / 256) = omega arith in
    let ey : y ≡ y % 256 + 2 ^ 8 * (y / 256) = omega arith in
    let low : interleaved 8 x y ≡ interleaved 8 (x % 256) (y % 256) =
    ap₂ (interleaved 8) ex ey ∙ interleaved_low 8 (x % 256) (y % 256) (x / 256) (y / 256) in
    let high = four_bits (x / 256) (y / 256) (omega arith) (omega arith) in
    interleaved_split 8 4 x y ∙ (let e : interleaved 8 x y + 4 ^ 8 * interleaved 4 (x / 2 ^ 8) (y / 2 ^ 8)
    ≡ interleaved 8 (x % 256) (y % 256) + 65536 * interleaved 8 (x / 256) (y / 256) = omega arith in e)

-- ---- a code's bits moved together
place : ℕ → ℕ
place c = gathered 4 c + 4096 * gathered 4 (c / 2)

places_table : PLACES ≡ map place (range_with_len 0 256)
unfolding place gathered
places_table = refl

pub place_at : (n : ℕ) → n < 256 → get_or PLACES n 0 ≡ gathered 4 n + 4096 * gathered 4 (n / 2)
unfolding place
place_at n lt = ap (λ l. get_or l n 0) places_table ∙ get_or-map-range_with_len place 0 256 n n 0 lt (omega arith)

pub gathered_below : (k c : ℕ) → gathered k c < 2 ^ k
unfolding gathered
gathered_below zero c = omega arith
gathered_below (suc k) c = let ih = gathered_below k (c / 4) in let p = pow-suc 2 k in omega arith

-- the bits of both moved together, and then in turn, are the code
pub interleaved_gathered : (k c : ℕ) → c < 4 ^ k → interleaved k (gathered k c) (gathered k (c / 2)) ≡ c
unfolding interleaved gathered
interleaved_gathered zero c lt = omega arith
interleaved_gathered (suc k) c lt =
    let p = pow-suc 4 k in
    let ih = interleaved_gathered k (c / 4) (omega arith) in
    let x : gathered (suc k) c / 2 ≡ gathered k (c / 4) = omega arith in
    let halves : c / 2 / 4 ≡ c / 4 / 2 = omega arith in
    let high : gathered (suc k) (c / 2) / 2 ≡ gathered k (c / 2 / 4) = omega arith in
    let y : gathered (suc k) (c / 2) / 2 ≡ gathered k (c / 4 / 2) = high ∙ ap (gathered k) halves in
    let rest : interleaved k (gathered (suc k) c / 2) (gathered (suc k) (c / 2) / 2) ≡ c / 4 = ap₂ (interleaved k) x y ∙ ih in
    omega arith

-- the first four pairs of bits, and the others: the even bits
even_byte : (k c : ℕ) → gathered (suc (suc (suc (suc k)))) c ≡ gathered 4 (c % 256) + 16 * gathered k (c / 256)
unfolding gathered
even_byte k c =
    let e : c / 4 / 4 / 4 / 4 ≡ c / 256 = omega arith in
    let a : c % 256 % 2 ≡ c % 2 = omega arith in
    let b : c % 256 / 4 % 2 ≡ c / 4 % 2 = omega arith in
    let d : c % 256 / 4 / 4 % 2 ≡ c / 4 / 4 % 2 = omega arith in
    let f : c % 256 / 4 / 4 / 4 % 2 ≡ c / 4 / 4 / 4 % 2 = omega arith in
    let last = ap (gathered k) e in
    omega arith

-- and the odd bits
odd_byte : (k c : ℕ) → gathered (suc (suc (suc (suc k)))) (c / 2) ≡ gathered 4 (c % 256 / 2) + 16 * gathered k (c / 256 / 2)
unfolding gathered
odd_byte k c =
    let e : c / 2 / 4 / 4 / 4 / 4 ≡ c / 256 / 2 = omega arith in
    let a : c % 256 / 2 % 2 ≡ c / 2 % 2 = omega arith in
    let b : c % 256 / 2 / 4 % 2 ≡ c / 2 / 4 % 2 = omega arith in
    let d : c % 256 / 2 / 4 / 4 % 2 ≡ c / 2 / 4 / 4 % 2 = omega arith in
    let f : c % 256 / 2 / 4 / 4 / 4 % 2 ≡ c / 2 / 4 / 4 / 4 % 2 = omega arith in
    let last = ap (gathered k) e in
    omega arith

-- three bytes of a code
pub even_bytes : (c : ℕ)
    → gathered 12 c ≡ gathered 4 (c % 256) + 16 * gathered 4 (c / 256 % 256) + 256 * gathered 4 (c / 65536)
unfolding gathered
even_bytes c =
    let a = even_byte 8 c in
    let b = even_byte 4 (c / 256) in
    let e : c / 256 / 256 ≡ c / 65536 = omega arith in
    let d = ap (gathered 4) e in
    omega arith

pub odd_bytes : (c : ℕ)
    → gathered 12 (c / 2) ≡ gathered 4 (c % 256 / 2) + 16 * gathered 4 (c / 256 % 256 / 2) + 256 * gathered 4 (c / 65536 / 2)
unfolding gathered
odd_bytes c =
    let a = odd_byte 8 c in
    let b = odd_byte 4 (c / 256) in
    let e : c / 256 / 256 / 2 ≡ c / 65536 / 2 = omega arith in
    let d = ap (gathered 4) e in
    omega arith
