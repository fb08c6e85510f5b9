-- The codes of a block are one interval, and the quarters cut it in four.
use Rattle.std.proofs.Common.{◌≡◌, ℕ, zero, suc, ◌+◌, ◌-◌, ◌*◌, ◌/◌, ◌%◌, ◌^◌, ◌<◌, ◌≤◌, [], ◌∷◌, ⊎_elim, refl, sym, ◌∙◌, ap, ap₂, subst, arith, Less, pow_pos}
use Rattle.std.proofs.Common.{pow-suc}
use Rattle.std.proofs.Math.Nat.{mul-le-mul_left}
use Rattle.std.proofs.lemmas.Bool.{cases_lt}
use Rattle.std.proofs.lemmas.Nat.{div-add-mod', div-mul-add, mod-mul-add, mod_below, div_below, pow-add}
use Rattle.quilt_types.specs.declared.plane.Pixel.{Pixel}
use Rattle.quilt_types.specs.declared.plane.Block.{Block}
use Rattle.quilt_types.specs.Plane.{quarters_of, Holds, IsBlock}
use Rattle.quilt_types.specs.Codes.{interleaved, code}
use Rattle.quilt_loc.specs.Codes.{code_at, code_from, code_to, code_cmp, Rises}
use Rattle.quilt_types.proofs.Members.{Contains-nil}
use Rattle.quilt_loc.proofs.Rising.{nat_less}
use Rattle.quilt_loc.proofs.Quartered.{halved}
use Rattle.std.proofs.lemmas.List.Elements.{All-contains, All-from_recursion}
use Rattle.quilt_types.proofs.CodeLaws.{interleaved_below, interleaved_split, interleaved_apart}

-- a side times itself
double_twice : (a : ℕ) → a * 2 * (a * 2) ≡ 4 * (a * a)
double_twice a = omega arith

pub side_squared : (k : ℕ) → 2 ^ k * 2 ^ k ≡ 4 ^ k
side_squared zero = omega arith
side_squared (suc k) =
    let p = pow-suc 2 k in
    let q = pow-suc 4 k in
    let e : 2 ^ suc k * 2 ^ suc k ≡ 2 ^ k * 2 * (2 ^ k * 2) = ap (λ z. z * z) p in
    let d = double_twice (2 ^ k) in
    let ih = side_squared k in
    omega arith

pub square_pos : (s : ℕ) → 0 < s → 0 < s * s
square_pos s h = let m = mul-le-mul_left s h in omega arith

pub origin_code : code 0 0 ≡ 0
unfolding code interleaved
origin_code = refl

-- the last k pairs of bits of a code, and the others
pub code_split : (k x y : ℕ) → k ≤ 12 → code x y ≡ interleaved k x y + 4 ^ k * interleaved (12 - k) (x / 2 ^ k) (y / 2 ^ k)
unfolding code
code_split k x y le =
    let e : k + (12 - k) ≡ 12 = omega arith in
    ap (λ i. interleaved i x y) (sym e) ∙ interleaved_split k (12 - k) x y

halves : (k x : ℕ) → x % 2 ^ suc k ≡ 0 → (x % 2 ≡ 0) × (x / 2 % 2 ^ k ≡ 0)
halves k x e =
    let p = pow-suc 2 k in
    let d = div-add-mod' x (2 ^ suc k) in
    let q = x / 2 ^ suc k in
    let w : x ≡ q * 2 ^ suc k = omega arith in
    let v : q * 2 ^ suc k ≡ 2 * (q * 2 ^ k) = ap (λ z. q * z) p ∙ omega arith in
    let h : x / 2 ≡ q * 2 ^ k + 0 = omega arith in
    (omega arith, ap (λ z. z % 2 ^ k) h ∙ mod-mul-add q (2 ^ k) 0 (pow_pos k))

pub interleaved_none : (k x y : ℕ) → x % 2 ^ k ≡ 0 → y % 2 ^ k ≡ 0 → interleaved k x y ≡ 0
unfolding interleaved
interleaved_none zero x y ex ey = omega arith
interleaved_none (suc k) x y ex ey =
    let a = halves k x ex in
    let b = halves k y ey in
    let ih = interleaved_none k (x / 2) (y / 2) a.1 b.1 in
    omega arith

-- the code of a corner of a block of side 2 ^ k
pub corner_code : (k x y : ℕ) → k ≤ 12 → x % 2 ^ k ≡ 0 → y % 2 ^ k ≡ 0 → code x y ≡ 4 ^ k * interleaved (12 - k) (x / 2 ^ k) (y / 2 ^ k)
corner_code k x y le ex ey =
    let s = code_split k x y le in
    let z = interleaved_none k x y ex ey in
    omega arith

-- numbers of one step of width 2 ^ k
same_step : (k a x : ℕ) → a % 2 ^ k ≡ 0 → a ≤ x → x < a + 2 ^ k → x / 2 ^ k ≡ a / 2 ^ k
same_step k a x on low high =
    let d = div-add-mod' a (2 ^ k) in
    let e : x ≡ a / 2 ^ k * 2 ^ k + (x - a) = omega arith in
    ap (λ z. z / 2 ^ k) e ∙ div-mul-add (a / 2 ^ k) (2 ^ k) (x - a) (omega arith)

step_same : (k a x : ℕ) → a % 2 ^ k ≡ 0 → x / 2 ^ k ≡ a / 2 ^ k → (a ≤ x) × (x < a + 2 ^ k)
step_same k a x on e =
    let d = div-add-mod' a (2 ^ k) in
    let f = div-add-mod' x (2 ^ k) in
    let m = mod_below x (2 ^ k) (pow_pos k) in
    let g : x / 2 ^ k * 2 ^ k ≡ a / 2 ^ k * 2 ^ k = ap (λ z. z * 2 ^ k) e in
    (omega arith, omega arith)

-- of numbers below 4096 what is left of the last k bits
few_steps : (k x : ℕ) → k ≤ 12 → x < 4096 → x / 2 ^ k < 2 ^ (12 - k)
few_steps k x le lt =
    let e : 2 ^ 12 ≡ 2 ^ (12 - k) * 2 ^ k = ap (λ i. 2 ^ i) (let same : 12 ≡ 12 - k + k = omega arith in same) ∙ pow-add 2 (12 - k) k in
    div_below x (2 ^ k) (2 ^ (12 - k)) (pow_pos k) (omega arith)

-- where two numbers of steps of width u differ, their steps lie apart
same_quotient : (u i j r : ℕ) → r < u → u * i ≤ r + u * j → r + u * j < u * i + u → j ≡ i
same_quotient u i j r lt low high =
    ⊎_elim (λ a. let m : u * suc j ≤ u * i = mul-le-mul_left u a in absurd (omega arith))
    (λ a. ⊎_elim (λ b. let m : u * suc i ≤ u * j = mul-le-mul_left u b in absurd (omega arith)) (λ b. omega arith) (cases_lt i j)) (cases_lt j i)

pub code_to_is : (n : ℕ) (b : Block) (h : IsBlock n b) → code_to b ≡ code_from b + 4 ^ h.level
code_to_is n b h =
    let s = side_squared h.level in
    let e : b.side * b.side ≡ 2 ^ h.level * 2 ^ h.level = ap (λ z. z * z) h.size in
    omega arith

pub code_from_is : (n : ℕ) (b : Block) (h : IsBlock n b) → n ≤ 12
    → code_from b ≡ 4 ^ h.level * interleaved (12 - h.level) (b.x / 2 ^ h.level) (b.y / 2 ^ h.level)
code_from_is n b h le =
    let l = h.low in
    corner_code h.level b.x b.y (omega arith) (ap (λ z. b.x % z) (sym h.size) ∙ h.on_x) (ap (λ z. b.y % z) (sym h.size) ∙ h.on_y)

-- the codes of a block's pixels are in its interval
pub code_held : (n : ℕ) (b : Block) (p : Pixel) → IsBlock n b → n ≤ 12 → Holds b p → (code_from b ≤ code_at p) × (code_at p < code_to b)
code_held n b p h le held =
    let k = h.level in
    let l = held.left in let r = held.right in let t = held.top in let d = held.bottom in
    let low = h.low in
    let size = h.size in
    let ex = same_step k b.x p.x (ap (λ z. b.x % z) (sym h.size) ∙ h.on_x) l (omega arith) in
    let ey = same_step k b.y p.y (ap (λ z. b.y % z) (sym h.size) ∙ h.on_y) t (omega arith) in
    let to = code_to_is n b h in
    let from = code_from_is n b h le in
    let s : code p.x p.y ≡ interleaved k p.x p.y + 4 ^ k * interleaved (12 - k) (b.x / 2 ^ k) (b.y / 2 ^ k) =
    code_split k p.x p.y (omega arith) ∙ ap (λ z. interleaved k p.x p.y + 4 ^ k * z) (ap₂ (interleaved (12 - k)) ex ey) in
    let few = interleaved_below k p.x p.y in
    (omega arith, omega arith)

-- and no others are
pub held_code : (n : ℕ) (b : Block) (p : Pixel) → IsBlock n b → n ≤ 12 → b.x < 4096 → b.y < 4096 → p.x < 4096 → p.y < 4096 → code_from b ≤ code_at p
    → code_at p < code_to b → Holds b p
held_code n b p h le bx by' hx hy low high =
    let k = h.level in
    let lev = h.low in
    let size = h.size in
    let small : k ≤ 12 = omega arith in
    let to = code_to_is n b h in
    let from = code_from_is n b h le in
    let s = code_split k p.x p.y small in
    let few = interleaved_below k p.x p.y in
    let same = same_quotient (4 ^ k) (interleaved (12 - k) (b.x / 2 ^ k) (b.y / 2 ^ k)) (interleaved (12 - k) (p.x / 2 ^ k) (p.y / 2 ^ k))
    (interleaved k p.x p.y) few (omega arith) (omega arith) in
    let e = interleaved_apart (12 - k) (p.x / 2 ^ k) (p.y / 2 ^ k) (b.x / 2 ^ k) (b.y / 2 ^ k) (few_steps k p.x small hx) (few_steps k p.y small hy)
    (few_steps k b.x small bx) (few_steps k b.y small by') same in
    let x = step_same k b.x p.x (ap (λ z. b.x % z) (sym h.size) ∙ h.on_x) e.0 in
    let y = step_same k b.y p.y (ap (λ z. b.y % z) (sym h.size) ∙ h.on_y) e.1 in
    record { left = x.0; right = omega arith; top = y.0; bottom = omega arith }

-- the code of the next pair of bits
half_step : (k a : ℕ) → a % 2 ^ suc k ≡ 0 → (a / 2 ^ k ≡ 2 * (a / 2 ^ suc k) + 0) × ((a + 2 ^ k) / 2 ^ k ≡ 2 * (a / 2 ^ suc k) + 1) × (a % 2 ^ k ≡ 0)
    × ((a + 2 ^ k) % 2 ^ k ≡ 0)
half_step k a on =
    let d = div-add-mod' a (2 ^ suc k) in
    let p = pow-suc 2 k in
    let q = a / 2 ^ suc k in
    let w : a ≡ q * 2 ^ suc k = omega arith in
    let v : q * 2 ^ suc k ≡ 2 * q * 2 ^ k + 0 = ap (λ z. q * z) p ∙ omega arith in
    let u : a + 2 ^ k ≡ (2 * q + 1) * 2 ^ k + 0 = omega arith in
    let pos = pow_pos k in (
      ap (λ z. z / 2 ^ k) (w ∙ v) ∙ div-mul-add (2 * q) (2 ^ k) 0 pos ∙ omega arith,
      ap (λ z. z / 2 ^ k) u ∙ div-mul-add (2 * q + 1) (2 ^ k) 0 pos,
      ap (λ z. z % 2 ^ k) (w ∙ v) ∙ mod-mul-add (2 * q) (2 ^ k) 0 pos,
      ap (λ z. z % 2 ^ k) u ∙ mod-mul-add (2 * q + 1) (2 ^ k) 0 pos,
    )

pairs : (j x y u v a b : ℕ) → x ≡ 2 * u + a → y ≡ 2 * v + b → a < 2 → b < 2 → interleaved (suc j) x y ≡ a + 2 * b + 4 * interleaved j u v
unfolding interleaved
pairs j x y u v a b ex ey la lb =
    let xh : x / 2 ≡ u = omega arith in
    let yh : y / 2 ≡ v = omega arith in
    let r : interleaved j (x / 2) (y / 2) ≡ interleaved j u v = ap₂ (interleaved j) xh yh in
    omega arith

four_times : (u m r : ℕ) → u * (r + 4 * m) ≡ r * u + u * 4 * m
four_times u m r = omega arith

-- the codes of the quarters of a block of side s
pub record HasQuarterCodes (b : Block) (s : ℕ) : Type 0 where
  pub right : code (b.x + s) b.y ≡ code_from b + s * s
  pub below : code b.x (b.y + s) ≡ code_from b + 2 * (s * s)
  pub across : code (b.x + s) (b.y + s) ≡ code_from b + 3 * (s * s)
  pub all : code_to b ≡ code_from b + 4 * (s * s)

quarter_code : (k x y u v a b : ℕ) → suc k ≤ 12 → x % 2 ^ k ≡ 0 → y % 2 ^ k ≡ 0 → x / 2 ^ k ≡ 2 * u + a → y / 2 ^ k ≡ 2 * v + b → a < 2 → b < 2
    → code x y ≡ (a + 2 * b) * 4 ^ k + 4 ^ suc k * interleaved (12 - suc k) u v
quarter_code k x y u v a b le ox oy ex ey la lb =
    let j = 12 - suc k in
    let e : 12 - k ≡ suc j = omega arith in
    let c = corner_code k x y (omega arith) ox oy in
    let i : interleaved (12 - k) (x / 2 ^ k) (y / 2 ^ k) ≡ a + 2 * b + 4 * interleaved j u v =
    ap (λ z. interleaved z (x / 2 ^ k) (y / 2 ^ k)) e ∙ pairs j (x / 2 ^ k) (y / 2 ^ k) u v a b ex ey la lb in
    let f = four_times (4 ^ k) (interleaved j u v) (a + 2 * b) in
    let p = pow-suc 4 k in
    c ∙ ap (λ z. 4 ^ k * z) i ∙ f ∙ ap (λ z. (a + 2 * b) * 4 ^ k + z * interleaved j u v) (sym p)

pub quarter_codes : (n k : ℕ) (b : Block) → IsBlock n b → b.side ≡ 2 ^ suc k → suc k ≤ 12 → HasQuarterCodes b (2 ^ k)
quarter_codes n k b h e le =
    let x = half_step k b.x (ap (λ z. b.x % z) (sym e) ∙ h.on_x) in
    let y = half_step k b.y (ap (λ z. b.y % z) (sym e) ∙ h.on_y) in
    let u = b.x / 2 ^ suc k in
    let v = b.y / 2 ^ suc k in
    let s = side_squared k in
    let t = side_squared (suc k) in
    let p = pow-suc 4 k in
    let zero' : 0 < 2 = omega arith in
    let one : 1 < 2 = omega arith in
    let c0 = quarter_code k b.x b.y u v 0 0 le x.2 y.2 x.0 y.0 zero' zero' in
    let c1 = quarter_code k (b.x + 2 ^ k) b.y u v 1 0 le x.3 y.2 x.1 y.0 one zero' in
    let c2 = quarter_code k b.x (b.y + 2 ^ k) u v 0 1 le x.2 y.3 x.0 y.1 zero' one in
    let c3 = quarter_code k (b.x + 2 ^ k) (b.y + 2 ^ k) u v 1 1 le x.3 y.3 x.1 y.1 one one in
    let w : b.side * b.side ≡ 2 ^ suc k * 2 ^ suc k = ap (λ z. z * z) e in
    record { right = omega arith; below = omega arith; across = omega arith; all = omega arith }

pub half_codes : (n : ℕ) (b : Block) → IsBlock n b → n ≤ 12 → 1 < b.side → HasQuarterCodes b (b.side / 2)
half_codes n b h le wide =
    let v = halved n b h wide in
    let l = v.1 in
    subst (HasQuarterCodes b) (sym v.3) (quarter_codes n v.0 b h v.2 (omega arith))

pub Rises-quarters : (n : ℕ) (b : Block) → IsBlock n b → n ≤ 12 → 1 < b.side → Rises code_cmp (quarters_of b)
Rises-quarters n b h le wide =
    let v = halved n b h wide in
    let l = v.1 in
    let half = v.3 in
    let codes = quarter_codes n v.0 b h v.2 (omega arith) in
    let s = 2 ^ v.0 in
    let pos = pow_pos v.0 in
    let square = square_pos s pos in
    subst (λ t. let q = λ (x y : ℕ). let r : Block = record { x = x; y = y; side = t } in r in
    Rises code_cmp (q b.x b.y ∷ q (b.x + t) b.y ∷ q b.x (b.y + t) ∷ q (b.x + t) (b.y + t) ∷ [])) (sym half)
    (let q = λ (x y : ℕ). let r : Block = record { x = x; y = y; side = s } in r in
    let x = b.x in
    let y = b.y in
    let c1 = codes.right in
    let c2 = codes.below in
    let c3 = codes.across in
    let less = λ (u w : Block) (lt : code_from u < code_from w). nat_less (code_from u) (code_from w) lt in (
      λ z c. All-contains (λ (z : Block). code_cmp (q x y) z ≡ Less) (q (x + s) y ∷ q x (y + s) ∷ q (x + s) (y + s) ∷ []) z
          (All-from_recursion (λ (z : Block). code_cmp (q x y) z ≡ Less) (q (x + s) y ∷ q x (y + s) ∷ q (x + s) (y + s) ∷ [])
          (less (q x y) (q (x + s) y) (omega arith), (less (q x y) (q x (y + s)) (omega arith), (less (q x y) (q (x + s) (y + s)) (omega arith), tt)))) c,
      (
        λ z c. All-contains (λ (z : Block). code_cmp (q (x + s) y) z ≡ Less) (q x (y + s) ∷ q (x + s) (y + s) ∷ []) z
            (All-from_recursion (λ (z : Block). code_cmp (q (x + s) y) z ≡ Less) (q x (y + s) ∷ q (x + s) (y + s) ∷ [])
            (less (q (x + s) y) (q x (y + s)) (omega arith), (less (q (x + s) y) (q (x + s) (y + s)) (omega arith), tt))) c,
        (
          λ z c. All-contains (λ (z : Block). code_cmp (q x (y + s)) z ≡ Less) (q (x + s) (y + s) ∷ []) z
              (All-from_recursion (λ (z : Block). code_cmp (q x (y + s)) z ≡ Less) (q (x + s) (y + s) ∷ [])
              (less (q x (y + s)) (q (x + s) (y + s)) (omega arith), tt)) c,
          (λ z c. absurd (Contains-nil z c), tt),
        ),
      ),
    ))
