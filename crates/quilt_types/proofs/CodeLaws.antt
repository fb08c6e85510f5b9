-- Locational codes: which numbers they are, that they tell pixels apart, and the codes of a block; the depth of a block.
use Rattle.std.proofs.Common.{◌≡◌, ℕ, zero, suc, ◌+◌, ◌-◌, ◌*◌, ◌/◌, ◌^◌, ◌<◌, Bool, true, List, [], ◌∷◌, Some, find, ⊎_elim, refl, sym, ◌∙◌, ap, ap₂, arith}
use Rattle.std.proofs.Common.{Contains, pow-suc, eqb, eqb-true, eq-eqb, div-one, true≢false}
use Rattle.std.specs.Option.{unwrap_or}
use Rattle.std.proofs.lemmas.Bool.{cases_lt, cases_Bool, cond-true, cond-false}
use Rattle.std.proofs.lemmas.Nat.{pow_below, shr-shr}
use Rattle.quilt_types.specs.declared.plane.Pixel.{Pixel}
use Rattle.quilt_types.specs.declared.plane.Block.{Block}
use Rattle.quilt_types.specs.Plane.{side, below, IsBlock}
use Rattle.quilt_types.specs.Codes.{interleaved, code, code_at, depth}
use Rattle.quilt_types.proofs.Members.{Contains-here, Contains-there, Contains-nil, Contains-cons_cases, Contains-below, Contains-below_from}

pub interleaved_below : (k x y : ℕ) → interleaved k x y < 4 ^ k
unfolding interleaved
interleaved_below zero x y = omega arith
interleaved_below (suc k) x y = let r = interleaved_below k (x / 2) (y / 2) in let p = pow-suc 4 k in omega arith

-- the codes of two pixels of the square differ
pub interleaved_apart : (k x y u v : ℕ) → x < 2 ^ k → y < 2 ^ k → u < 2 ^ k → v < 2 ^ k → interleaved k x y ≡ interleaved k u v → (x ≡ u) × (y ≡ v)
unfolding interleaved
interleaved_apart zero x y u v a b c d e = (omega arith, omega arith)
interleaved_apart (suc k) x y u v a b c d e =
    let p = pow-suc 2 k in
    let rest : interleaved k (x / 2) (y / 2) ≡ interleaved k (u / 2) (v / 2) = omega arith in
    let ih = interleaved_apart k (x / 2) (y / 2) (u / 2) (v / 2) (omega arith) (omega arith) (omega arith) (omega arith) rest in
    (omega arith, omega arith)

-- codes of coordinates below 4096
pub code_below : (x y : ℕ) → code x y < 4 ^ 12
unfolding code
code_below x y = interleaved_below 12 x y

pub code_alone : (p q : Pixel) → p.x < 4096 → p.y < 4096 → q.x < 4096 → q.y < 4096 → code_at p ≡ code_at q → p ≡ q
unfolding code
code_alone p q a b c d e =
    let w = interleaved_apart 12 p.x p.y q.x q.y a b c d e in
    let ex = w.0 in
    let ey = w.1 in
    λ i. record { x = ex i; y = ey i }

-- bits from 2 ^ k on are none of the last k
pub interleaved_low : (k x y a b : ℕ) → interleaved k (x + 2 ^ k * a) (y + 2 ^ k * b) ≡ interleaved k x y
unfolding interleaved
interleaved_low zero x y a b = refl
interleaved_low (suc k) x y a b =
    let p = pow-suc 2 k in
    let m = 2 ^ k * a in
    let n = 2 ^ k * b in
    let wx : 2 ^ suc k * a ≡ 2 * m = ap (λ z. z * a) p ∙ omega arith in
    let wy : 2 ^ suc k * b ≡ 2 * n = ap (λ z. z * b) p ∙ omega arith in
    let hx : (x + 2 ^ suc k * a) / 2 ≡ x / 2 + m = omega arith in
    let hy : (y + 2 ^ suc k * b) / 2 ≡ y / 2 + n = omega arith in
    let ih : interleaved k ((x + 2 ^ suc k * a) / 2) ((y + 2 ^ suc k * b) / 2) ≡ interleaved k (x / 2) (y / 2) =
    ap₂ (interleaved k) hx hy ∙ interleaved_low k (x / 2) (y / 2) a b in
    omega arith

-- the last j pairs of bits, and the others
pub interleaved_split : (j k x y : ℕ) → interleaved (j + k) x y ≡ interleaved j x y + 4 ^ j * interleaved k (x / 2 ^ j) (y / 2 ^ j)
unfolding interleaved
interleaved_split zero k x y =
    let e : zero + k ≡ k = omega arith in
    let dx = div-one x in
    let dy = div-one y in
    ap (λ i. interleaved i x y) e ∙ (let r : interleaved k x y ≡ interleaved k (x / 2 ^ 0) (y / 2 ^ 0) = ap₂ (interleaved k) (sym dx) (sym dy) in omega arith)
interleaved_split (suc j) k x y =
    let e : suc j + k ≡ suc (j + k) = omega arith in
    let ih = interleaved_split j k (x / 2) (y / 2) in
    let step : (n : ℕ) → n / 2 / 2 ^ j ≡ n / 2 ^ suc j = λ n. shr-shr n 1 j ∙ ap (λ i. n / 2 ^ i) (let o : 1 + j ≡ suc j = omega arith in o) in
    let r : interleaved k (x / 2 / 2 ^ j) (y / 2 / 2 ^ j) ≡ interleaved k (x / 2 ^ suc j) (y / 2 ^ suc j) = ap₂ (interleaved k) (step x) (step y) in
    let p = pow-suc 4 j in
    ap (λ i. interleaved i x y) e
    ∙ (let all : interleaved (j + k) (x / 2) (y / 2) ≡ interleaved j (x / 2) (y / 2) + 4 ^ j * interleaved k (x / 2 ^ suc j) (y / 2 ^ suc j) =
    ih ∙ ap (λ z. interleaved j (x / 2) (y / 2) + 4 ^ j * z) r in
    let m : 4 ^ suc j * interleaved k (x / 2 ^ suc j) (y / 2 ^ suc j) ≡ 4 * (4 ^ j * interleaved k (x / 2 ^ suc j) (y / 2 ^ suc j)) =
    ap (λ w. w * interleaved k (x / 2 ^ suc j) (y / 2 ^ suc j)) p ∙ omega arith in
    omega arith)

-- the first of a list that passes, where only it does
pub find_only : {X : Type 0} (p : X → Bool) (xs : List X) (x : X) → Contains xs x → p x ≡ true
    → ((y : X) → Contains xs y → p y ≡ true → y ≡ x) → find p xs ≡ Some x
find_only p [] x c h one = absurd (Contains-nil x c)
find_only p (y ∷ ys) x c h one =
    ⊎_elim
    (λ t. cond-true (p y) (Some y) (find p ys) t ∙ ap Some (one y (Contains-here y ys) t))
    (λ f.
    let d : Contains ys x = ⊎_elim (λ is. absurd (true≢false (sym h ∙ ap p (sym is) ∙ f))) (λ d. d) (Contains-cons_cases y ys x c) in
    cond-false (p y) (Some y) (find p ys) f ∙ find_only p ys x d h (λ z m t. one z (Contains-there y ys z m) t))
    (cases_Bool (p y))

pub pow_same : (i j : ℕ) → 2 ^ i ≡ 2 ^ j → i ≡ j
pow_same i j e = ⊎_elim (λ lt. let w = pow_below i j lt in absurd (omega arith))
    (λ ge. ⊎_elim (λ lt. let w = pow_below j i lt in absurd (omega arith)) (λ le. omega arith) (cases_lt j i)) (cases_lt i j)

pub depth_is : (n : ℕ) (b : Block) (h : IsBlock n b) → depth n b ≡ n - h.level
depth_is n b h =
    let k = h.level in
    let le = h.low in
    let test : ℕ → Bool = λ d. eqb (side (n - d)) b.side in
    let at : side (n - (n - k)) ≡ b.side = ap (λ i. 2 ^ i) (let e : n - (n - k) ≡ k = omega arith in e) ∙ sym h.size in
    let only : (d : ℕ) → Contains (below (n + 1)) d → test d ≡ true → d ≡ n - k =
    λ d c t. let lt = Contains-below_from (n + 1) d c in let same : n - d ≡ k = pow_same (n - d) k (eqb-true (side (n - d)) b.side t ∙ h.size) in omega arith in
    ap (λ o. unwrap_or o 0) (find_only test (below (n + 1)) (n - k) (Contains-below (n + 1) (n - k) (omega arith)) (eq-eqb (side (n - (n - k))) b.side at) only)
