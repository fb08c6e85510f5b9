-- Colours out of their bytes, by their places.
use Rattle.std.proofs.Common.{◌≡◌, ℕ, zero, suc, ◌+◌, ◌*◌, ◌<◌, List, [], ◌∷◌, length, get_or, refl, ap, arith}
use Rattle.quilt_raster.specs.Bytes.{cell_colours}

pub length-colours_of_bytes : (m : ℕ) (bytes : List ℕ) → length bytes ≡ 2 * m → length (cell_colours bytes) ≡ m
unfolding cell_colours
length-colours_of_bytes zero [] e = refl
length-colours_of_bytes (suc m) [] e = absurd (omega arith)
length-colours_of_bytes zero (a ∷ []) e = absurd (omega arith)
length-colours_of_bytes (suc m) (a ∷ []) e = absurd (omega arith)
length-colours_of_bytes zero (a ∷ b ∷ bytes) e = absurd (omega arith)
length-colours_of_bytes (suc m) (a ∷ b ∷ bytes) e = ap suc (length-colours_of_bytes m bytes (omega arith))

pub get_or-colours_of_bytes : (bytes : List ℕ) (k : ℕ) → 2 * k + 1 < length bytes
    → get_or (cell_colours bytes) k 0 ≡ 256 * get_or bytes (2 * k) 0 + get_or bytes (2 * k + 1) 0
unfolding cell_colours
get_or-colours_of_bytes [] k lt = absurd (omega arith)
get_or-colours_of_bytes (a ∷ []) k lt = absurd (omega arith)
get_or-colours_of_bytes (a ∷ b ∷ bytes) zero lt = refl
get_or-colours_of_bytes (a ∷ b ∷ bytes) (suc k) lt =
    let h = get_or-colours_of_bytes bytes k (omega arith) in
    let e : 2 * suc k ≡ suc (suc (2 * k)) = omega arith in
    let f : 2 * suc k + 1 ≡ suc (suc (2 * k + 1)) = omega arith in
    let x = ap (λ i. get_or (a ∷ b ∷ bytes) i 0) e in
    let y = ap (λ i. get_or (a ∷ b ∷ bytes) i 0) f in
    omega arith
