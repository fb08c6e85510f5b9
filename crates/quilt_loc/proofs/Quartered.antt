-- The four quarters of a block, and the whole square.
use Rattle.std.proofs.Common.{◌≡◌, ℕ, zero, suc, ◌+◌, ◌-◌, ◌*◌, ◌/◌, ◌%◌, ◌^◌, ◌<◌, ◌≤◌, ◌⊎◌, [], ◌∷◌, get_or, inl, inr, ⊎_elim, refl, sym, ◌∙◌, ap, subst}
use Rattle.std.proofs.Common.{arith, Contains, pow_pos, pow-suc, mod-eq_of_lt}
use Rattle.std.proofs.lemmas.Bool.{cases_lt}
use Rattle.std.proofs.lemmas.Nat.{mod-mul-add, div-add-mod'}
use Rattle.quilt_types.specs.declared.plane.Pixel.{Pixel}
use Rattle.quilt_types.specs.declared.plane.Block.{Block}
use Rattle.quilt_types.specs.Plane.{side, parent_of, quarters_of, corner, whole, Holds, IsBlock, Within}
use Rattle.quilt_types.proofs.Members.{Contains-cons_cases, Contains-nil}
use Rattle.quilt_loc.proofs.Steps.{start_is, start_nests}
use Rattle.quilt_loc.proofs.Nesting.{Within-holds, side_pos, Holds-corner, nested, same_block_from, Holds-parent_of, IsBlock-parent_of}

pub IsBlock-whole : (n : ℕ) → IsBlock n (whole n)
IsBlock-whole n =
    let p = pow_pos n in
    let z : 0 % 2 ^ n ≡ 0 = mod-eq_of_lt p in
    record { level = n; low = omega arith; size = refl; on_x = z; on_y = z; in_x = p; in_y = p }

pub wide_side : (n : ℕ) → 1 ≤ n → 1 < side n
wide_side zero h = absurd (omega arith)
wide_side (suc k) h = let p = pow_pos k in let q = pow-suc 2 k in omega arith

pub side_le : (n : ℕ) (b : Block) → IsBlock n b → b.side ≤ 2 ^ n
side_le n b h =
    let e = h.size in
    let l = h.low in
    let low = start_nests h.level (n - h.level) 0 in
    let same : h.level + (n - h.level) ≡ n = omega arith in
    let c : 2 ^ (h.level + (n - h.level)) ≡ 2 ^ n = ap (λ k. 2 ^ k) same in
    omega arith

pub Within-whole : (n : ℕ) (b : Block) → IsBlock n b → Within b (whole n)
Within-whole n b h =
    let ix = h.in_x in
    let iy = h.in_y in
    nested n b (whole n) (corner b) h (IsBlock-whole n) (side_le n b h) (Holds-corner n b h)
    (record { left = omega arith; right = omega arith; top = omega arith; bottom = omega arith })

pub Holds-whole : (n : ℕ) (p : Pixel) → p.x < 2 ^ n → p.y < 2 ^ n → Holds (whole n) p
Holds-whole n p hx hy = record { left = omega arith; right = omega arith; top = omega arith; bottom = omega arith }

-- the only block as large as the square
pub whole_is : (n : ℕ) (b : Block) → IsBlock n b → b.side ≡ 2 ^ n → b ≡ whole n
whole_is n b h e =
    let ix = h.in_x in
    let iy = h.in_y in
    same_block_from n b (whole n) (corner b) h (IsBlock-whole n) e (Holds-corner n b h) (Holds-whole n (corner b) ix iy)

-- a multiple of 2 * h is one of h, and so is the next
on_half : (a h : ℕ) → 0 < h → a % (2 * h) ≡ 0 → (a % h ≡ 0) × ((a + h) % h ≡ 0)
on_half a h p on =
    let d = div-add-mod' a (2 * h) in
    let q = a / (2 * h) in
    let e : a ≡ (2 * q) * h + 0 = omega arith in
    let f : a + h ≡ (2 * q + 1) * h + 0 = omega arith in
    (ap (λ x. x % h) e ∙ mod-mul-add (2 * q) h 0 p, ap (λ x. x % h) f ∙ mod-mul-add (2 * q + 1) h 0 p)

pub record IsQuarter (n : ℕ) (b r : Block) : Type 0 where
  pub block : IsBlock n r
  pub half : 2 * r.side ≡ b.side
  pub within : Within r b
  pub parent : parent_of r ≡ b

quarter_of : (n : ℕ) (b r : Block) → IsBlock n b → IsBlock n r → 2 * r.side ≡ b.side → Within r b → IsQuarter n b r
quarter_of n b r h i e w =
    let top = side_le n b h in
    let pos = side_pos n r i in
    let ip = IsBlock-parent_of n r i (omega arith) in
    record {
      block = i;
      half = e;
      within = w;
      parent = same_block_from n (parent_of r) b (corner r) ip h e (Holds-parent_of n r i) (Within-holds r b (corner r) w (Holds-corner n r i));
    }

-- the level of a block of more than one pixel
pub halved : (n : ℕ) (b : Block) → IsBlock n b → 1 < b.side → (k : ℕ) × (suc k ≤ n) × (b.side ≡ 2 ^ suc k) × (b.side / 2 ≡ 2 ^ k)
halved n b h lt = at h.level h.low h.size
  where
    at : (l : ℕ) → l ≤ n → b.side ≡ 2 ^ l → (k : ℕ) × (suc k ≤ n) × (b.side ≡ 2 ^ suc k) × (b.side / 2 ≡ 2 ^ k)
    at zero le e = absurd (omega arith)
    at (suc k) le e = let s = pow-suc 2 k in (k, le, e, omega arith)

placed : (n : ℕ) (b : Block) (h : IsBlock n b) (x y s : ℕ) → (k : ℕ) → suc k ≤ n → b.side ≡ 2 ^ suc k → s ≡ 2 ^ k → x % s ≡ 0 → y % s ≡ 0 → b.x ≤ x
    → x + s ≤ b.x + b.side → b.y ≤ y → y + s ≤ b.y + b.side → let r : Block = record { x = x; y = y; side = s } in IsQuarter n b r
placed n b h x y s k le e f ox oy a1 a2 a3 a4 =
    let w = Within-whole n b h in
    let w1 = w.right in
    let w2 = w.bottom in
    let p = pow_pos k in
    let d = pow-suc 2 k in
    let r : Block = record { x = x; y = y; side = s } in
    quarter_of n b r h (record { level = k; low = omega arith; size = f; on_x = ox; on_y = oy; in_x = omega arith; in_y = omega arith })
    (omega arith) (record { left = a1; right = a2; top = a3; bottom = a4 })

pub quarters_are : (n : ℕ) (b r : Block) → IsBlock n b → 1 < b.side → Contains (quarters_of b) r → IsQuarter n b r
quarters_are n b r h lt c =
    let v = halved n b h lt in
    let k = v.0 in
    let le = v.1 in
    let e = v.2 in
    let f = v.3 in
    let s = b.side / 2 in
    let p = pow_pos k in
    let d = pow-suc 2 k in
    let twice : 2 * s ≡ b.side = omega arith in
    let ox = on_half b.x s (omega arith) (ap (λ t. b.x % t) twice ∙ h.on_x) in
    let oy = on_half b.y s (omega arith) (ap (λ t. b.y % t) twice ∙ h.on_y) in
    let one = λ (x y : ℕ). let q : Block = record { x = x; y = y; side = s } in q in
    ⊎_elim (λ is. subst (IsQuarter n b) is (placed n b h b.x b.y s k le e f ox.0 oy.0 (omega arith) (omega arith) (omega arith) (omega arith)))
    (λ c1. ⊎_elim (λ is. subst (IsQuarter n b) is (placed n b h (b.x + s) b.y s k le e f ox.1 oy.0 (omega arith) (omega arith) (omega arith) (omega arith)))
    (λ c2. ⊎_elim (λ is. subst (IsQuarter n b) is (placed n b h b.x (b.y + s) s k le e f ox.0 oy.1 (omega arith) (omega arith) (omega arith) (omega arith)))
    (λ c3. ⊎_elim (λ is. subst (IsQuarter n b) is
    (placed n b h (b.x + s) (b.y + s) s k le e f ox.1 oy.1 (omega arith) (omega arith) (omega arith) (omega arith)))
    (λ c4. absurd (Contains-nil r c4))
    (Contains-cons_cases (one (b.x + s) (b.y + s)) [] r c3))
    (Contains-cons_cases (one b.x (b.y + s)) (one (b.x + s) (b.y + s) ∷ []) r c2))
    (Contains-cons_cases (one (b.x + s) b.y) (one b.x (b.y + s) ∷ one (b.x + s) (b.y + s) ∷ []) r c1))
    (Contains-cons_cases (one b.x b.y) (one (b.x + s) b.y ∷ one b.x (b.y + s) ∷ one (b.x + s) (b.y + s) ∷ []) r c)

-- a step of half the width begins at the front or in the middle
front_or_middle : (a h r : ℕ) → 0 < h → a % (2 * h) ≡ 0 → r % h ≡ 0 → a ≤ r → r + h ≤ a + 2 * h → (r ≡ a) ⊎ (r ≡ a + h)
front_or_middle a h r p on or low high =
    ⊎_elim (λ lt. let e = start_is h a r p (on_half a h p on).0 low lt in inl (omega arith)) (λ ge. inr (omega arith)) (cases_lt r (a + h))

-- a block of half the side within another is one of its quarters
pub is_quarter : (n : ℕ) (b r : Block) → IsBlock n b → IsBlock n r → 2 * r.side ≡ b.side → Within r b → Contains (quarters_of b) r
is_quarter n b r h i e w =
    let s = b.side / 2 in
    let half : s ≡ r.side = omega arith in
    let pos = side_pos n r i in
    let wl = w.left in
    let wr = w.right in
    let wt = w.top in
    let wb = w.bottom in
    let cx = front_or_middle b.x s r.x (omega arith) (let t : 2 * s ≡ b.side = omega arith in ap (λ t. b.x % t) t ∙ h.on_x)
    (ap (λ t. r.x % t) half ∙ i.on_x) (omega arith) (omega arith) in
    let cy = front_or_middle b.y s r.y (omega arith) (let t : 2 * s ≡ b.side = omega arith in ap (λ t. b.y % t) t ∙ h.on_y)
    (ap (λ t. r.y % t) half ∙ i.on_y) (omega arith) (omega arith) in
    let one = λ (x y : ℕ). let q : Block = record { x = x; y = y; side = s } in q in
    let same = λ (x y : ℕ) (ex : r.x ≡ x) (ey : r.y ≡ y). let p : one x y ≡ r = λ j. record { x = sym ex j; y = sym ey j; side = half j } in p in
    let at = λ (k : ℕ) (lt : k < 4) (q : Block) (is : get_or (quarters_of b) k q ≡ q) (e : q ≡ r). let c : Contains (quarters_of b) q =
    (k, lt, is) in subst (Contains (quarters_of b)) e c in
    ⊎_elim
    (λ ex. ⊎_elim
    (λ ey. at 0 (omega arith) (one b.x b.y) refl (same b.x b.y ex ey))
    (λ ey. at 2 (omega arith) (one b.x (b.y + s)) refl (same b.x (b.y + s) ex ey)) cy)
    (λ ex. ⊎_elim
    (λ ey. at 1 (omega arith) (one (b.x + s) b.y) refl (same (b.x + s) b.y ex ey))
    (λ ey. at 3 (omega arith) (one (b.x + s) (b.y + s)) refl (same (b.x + s) (b.y + s) ex ey)) cy) cx
