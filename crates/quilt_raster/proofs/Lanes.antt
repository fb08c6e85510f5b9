-- Vectors of bytes that are the same, lane by lane, and the colours that eight pairs of bytes are.
use Rattle.std.proofs.Common.{◌≡◌, ℕ, zero, suc, ◌+◌, ◌-◌, ◌*◌, ◌^◌, ◌%◌, ◌<◌, ◌≤◌, Bool, true, false, not, cond, eqb, List, [], ◌∷◌, map, length, get_or, refl, sym, ap, ◌∙◌, arith}
use Rattle.std.proofs.Common.{eqb-true}
use Rattle.std.proofs.lemmas.Simd.{length-zip2, mask_l-mod, length-chunk, get_or-chunk}
use Rattle.std.proofs.lemmas.List.{length-map}
use lib.Lanes.{zip2, mask_l, top, chunk}
use Rattle.quilt_raster.specs.Bytes.{cell_colours, eight_pairs}
use Rattle.quilt_raster.proofs.Bytes.{get_or-colours_of_bytes}

abbrev pub differs : ℕ → ℕ → ℕ
differs a b = cond (not (eqb a b)) 255 0

lane_same : (a b rest : ℕ) → cond (top 7 (differs a b)) 1 0 + 2 * rest ≡ 0 → a ≡ b
lane_same a b rest = go (eqb a b) refl
  where
    go : (t : Bool) → eqb a b ≡ t → cond (top 7 (cond (not t) 255 0)) 1 0 + 2 * rest ≡ 0 → a ≡ b
    go true e z = eqb-true a b e
    go false e z = absurd (omega (arith, z))

rest_same : (t : Bool) (rest : ℕ) → cond t 1 0 + 2 * rest ≡ 0 → rest ≡ 0
rest_same true rest z = absurd (omega (arith, z))
rest_same false rest z = omega (arith, z)

-- no lane differs where no bit of the mask is set
same_lanes : (xs ys : List ℕ) → length xs ≡ length ys → mask_l (map (top 7) (zip2 differs xs ys)) ≡ 0 → (k : ℕ) → k < length xs → get_or xs k 0 ≡ get_or ys k 0
same_lanes [] ys e z k lt = absurd (omega (arith, lt))
same_lanes (x ∷ xs) [] e z k lt = absurd (omega (arith, e))
same_lanes (x ∷ xs) (y ∷ ys) e z zero lt = lane_same x y (mask_l (map (top 7) (zip2 differs xs ys))) z
same_lanes (x ∷ xs) (y ∷ ys) e z (suc k) lt =
    same_lanes xs ys (omega (arith, e)) (rest_same (top 7 (differs x y)) (mask_l (map (top 7) (zip2 differs xs ys))) z) k (omega (arith, lt))

-- so many pairs of bytes, and the two bytes of each
abbrev pairs : (n a b : ℕ) → List ℕ
pairs zero a b = []
pairs (suc n) a b = a ∷ b ∷ pairs n a b

pair_at : (n a b k : ℕ) → k < n → (get_or (pairs n a b) (2 * k) 0 ≡ a) × (get_or (pairs n a b) (2 * k + 1) 0 ≡ b)
pair_at zero a b k lt = absurd (omega (arith, lt))
pair_at (suc n) a b zero lt = (refl, refl)
pair_at (suc n) a b (suc k) lt =
    let at = pair_at n a b k (omega (arith, lt)) in
    let first : 2 * suc k ≡ suc (suc (2 * k)) = omega arith in
    let second : 2 * suc k + 1 ≡ suc (suc (2 * k + 1)) = omega arith in
    (ap (λ i. get_or (pairs (suc n) a b) i 0) first ∙ at.0, ap (λ i. get_or (pairs (suc n) a b) i 0) second ∙ at.1)

-- eight colours are one where their bytes do not differ from those of eight pairs
pub eight_are : (bytes : List ℕ) (from high low : ℕ) → 2 * from + 16 ≤ length bytes
    → eqb (mask_l (map (top 7) (zip2 differs (chunk (2 * from) 16 bytes) (eight_pairs high low))) % 2 ^ 64) 0 ≡ true → (k : ℕ) → from ≤ k → k < from + 8
    → get_or (cell_colours bytes) k 0 ≡ 256 * high + low
eight_are bytes from high low room same k le lt =
    let found : List ℕ = chunk (2 * from) 16 bytes in
    let long : length found ≡ 16 = length-chunk (2 * from) 16 bytes room in
    let lanes : List ℕ = zip2 differs found (eight_pairs high low) in
    let few : length (map (top 7) lanes) ≡ 16 = length-map lanes (top 7) ∙ length-zip2 differs found (eight_pairs high low) long ∙ long in
    let none : mask_l (map (top 7) lanes) ≡ 0 = sym (mask_l-mod (map (top 7) lanes) 64 (omega (arith, few))) ∙ eqb-true _ _ same in
    let j : ℕ = k - from in
    let at : from + j ≡ k = omega (arith, le) in
    let within : j < 8 = omega (arith, le, lt) in
    let first : get_or bytes (2 * from + 2 * j) 0 ≡ high =
    sym (get_or-chunk (2 * from) 16 bytes (2 * j) 0 (omega (arith, within)))
    ∙ same_lanes found (eight_pairs high low) long none (2 * j) (omega (arith, within, long)) ∙ (pair_at 8 high low j within).0 in
    let second : get_or bytes (2 * from + (2 * j + 1)) 0 ≡ low =
    sym (get_or-chunk (2 * from) 16 bytes (2 * j + 1) 0 (omega (arith, within)))
    ∙ same_lanes found (eight_pairs high low) long none (2 * j + 1) (omega (arith, within, long)) ∙ (pair_at 8 high low j within).1 in
    let even : 2 * from + 2 * j ≡ 2 * k = omega (arith, at) in
    let odd : 2 * from + (2 * j + 1) ≡ 2 * k + 1 = omega (arith, at) in
    get_or-colours_of_bytes bytes k (omega (arith, room, lt))
    ∙ (λ i. 256 * (ap (λ (n : ℕ). get_or bytes n 0) (sym even) ∙ first) i + (ap (λ (n : ℕ). get_or bytes n 0) (sym odd) ∙ second) i)
