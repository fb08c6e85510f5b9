-- Blocks that share a pixel lie one in the other; a block's parent and its quarters.
use Rattle.std.proofs.Common.{◌≡◌, ℕ, suc, ◌+◌, ◌-◌, ◌*◌, ◌^◌, ◌<◌, ◌≤◌, ⊎_elim, sym, ◌∙◌, ap, subst, arith, pow_pos, pow-suc}
use Rattle.std.proofs.lemmas.Bool.{cases_lt}
use Rattle.std.proofs.lemmas.Nat.{pow_below}
use Rattle.quilt_types.specs.declared.plane.Pixel.{Pixel}
use Rattle.quilt_types.specs.declared.plane.Block.{Block}
use Rattle.quilt_types.specs.Plane.{parent_of, corner, Holds, IsBlock, Within}
use Rattle.quilt_loc.proofs.Steps.{start, start_low, start_on, start_is, start_nests}

-- the block of this side that holds the pixel
abbrev pub around : ℕ → Pixel → Block
around s p = record { x = start s p.x; y = start s p.y; side = s }

pub Within-holds : (a b : Block) (p : Pixel) → Within a b → Holds a p → Holds b p
Within-holds a b p w h =
    let l = w.left in let r = w.right in let t = w.top in let d = w.bottom in
    let hl = h.left in let hr = h.right in let ht = h.top in let hd = h.bottom in
    record { left = omega arith; right = omega arith; top = omega arith; bottom = omega arith }

pub Within-trans : (a b c : Block) → Within a b → Within b c → Within a c
Within-trans a b c v w =
    record { left = omega arith; right = omega arith; top = omega arith; bottom = omega arith }

pub side_pos : (n : ℕ) (b : Block) → IsBlock n b → 0 < b.side
side_pos n b h = let e = h.size in let p = pow_pos h.level in omega arith

pub Holds-corner : (n : ℕ) (b : Block) → IsBlock n b → Holds b (corner b)
Holds-corner n b h =
    let p = side_pos n b h in
    record { left = omega arith; right = omega arith; top = omega arith; bottom = omega arith }

-- a block is the one of its side around each of its pixels
pub around_is : (n : ℕ) (b : Block) (p : Pixel) → IsBlock n b → Holds b p → around b.side p ≡ b
around_is n b p h i =
    let pos = side_pos n b h in
    let ex = start_is b.side b.x p.x pos h.on_x i.left i.right in
    let ey = start_is b.side b.y p.y pos h.on_y i.top i.bottom in
    λ j. record { x = ex j; y = ey j; side = b.side }

-- of the levels of two blocks
pub level_le : (n : ℕ) (a b : Block) (ha : IsBlock n a) (hb : IsBlock n b) → a.side ≤ b.side → ha.level ≤ hb.level
level_le n a b ha hb le =
    ⊎_elim (λ lt. let w = pow_below hb.level ha.level lt in let ea = ha.size in let eb = hb.size in absurd (omega arith)) (λ e. e) (cases_lt hb.level ha.level)

-- where a side is a power of two, and another one no smaller
around_nests : (i j : ℕ) (p : Pixel) → Within (around (2 ^ i) p) (around (2 ^ (i + j)) p)
around_nests i j p =
    let x = start_nests i j p.x in
    let y = start_nests i j p.y in
    record { left = x.0; right = x.1; top = y.0; bottom = y.1 }

-- of two blocks that share a pixel the smaller lies in the larger
pub nested : (n : ℕ) (a b : Block) (p : Pixel) → IsBlock n a → IsBlock n b → a.side ≤ b.side → Holds a p → Holds b p → Within a b
nested n a b p ha hb le ia ib =
    let lev = level_le n a b ha hb le in
    let j = hb.level - ha.level in
    let e : ha.level + j ≡ hb.level = omega arith in
    let ea : around (2 ^ ha.level) p ≡ a = ap (λ s. around s p) (sym ha.size) ∙ around_is n a p ha ia in
    let eb : around (2 ^ (ha.level + j)) p ≡ b = ap (λ k. around (2 ^ k) p) e ∙ ap (λ s. around s p) (sym hb.size) ∙ around_is n b p hb ib in
    subst (λ (z : Block). Within z b) ea (subst (λ (z : Block). Within (around (2 ^ ha.level) p) z) eb (around_nests ha.level j p))

-- two blocks of one side that share a pixel are one
pub same_block_from : (n : ℕ) (a b : Block) (p : Pixel) → IsBlock n a → IsBlock n b → a.side ≡ b.side → Holds a p → Holds b p → a ≡ b
same_block_from n a b p ha hb e ia ib = sym (around_is n a p ha ia) ∙ ap (λ s. around s p) e ∙ around_is n b p hb ib

-- the parent is a block of twice the side, and holds the block
pub IsBlock-parent_of : (n : ℕ) (b : Block) → IsBlock n b → b.side < 2 ^ n → IsBlock n (parent_of b)
IsBlock-parent_of n b h lt =
    let s = 2 * b.side in
    let pos = side_pos n b h in
    let ps : 0 < s = omega arith in
    let e = h.size in
    let size : s ≡ 2 ^ suc h.level = omega (arith, pow-suc 2 h.level) in
    let l = h.low in
    let room : h.level < n = ⊎_elim (λ q. q) (λ q. let same : n ≡ h.level = omega arith in let c : 2 ^ n ≡ 2 ^ h.level = ap (λ k. 2 ^ k) same in
    absurd (omega arith)) (cases_lt h.level n) in
    let lx = start_low s b.x ps in
    let ly = start_low s b.y ps in
    let ix = h.in_x in
    let iy = h.in_y in
    record {
      level = suc h.level;
      low = room;
      size = size;
      on_x = start_on s b.x ps;
      on_y = start_on s b.y ps;
      in_x = omega arith;
      in_y = omega arith;
    }

pub Holds-parent_of : (n : ℕ) (b : Block) → IsBlock n b → Holds (parent_of b) (corner b)
Holds-parent_of n b h =
    let pos = side_pos n b h in
    let lx = start_low (2 * b.side) b.x (omega arith) in
    let ly = start_low (2 * b.side) b.y (omega arith) in
    record { left = lx.0; right = lx.1; top = ly.0; bottom = ly.1 }

pub Within-parent_of : (n : ℕ) (b : Block) → IsBlock n b → b.side < 2 ^ n → Within b (parent_of b)
Within-parent_of n b h lt =
    nested n b (parent_of b) (corner b) h (IsBlock-parent_of n b h lt) (omega arith) (Holds-corner n b h) (Holds-parent_of n b h)

-- a power of two that is larger is at least twice as large
pub twice_le : (n : ℕ) (a b : Block) → IsBlock n a → IsBlock n b → a.side < b.side → 2 * a.side ≤ b.side
twice_le n a b ha hb lt =
    let lev = level_le n a b ha hb (omega arith) in
    let ea = ha.size in
    let eb = hb.size in
    let differ : ha.level < hb.level = ⊎_elim (λ q. q) (λ q. let same : hb.level ≡ ha.level = omega arith in let c : 2 ^ hb.level ≡ 2 ^ ha.level =
    ap (λ k. 2 ^ k) same in absurd (omega arith)) (cases_lt ha.level hb.level) in
    let s = pow-suc 2 ha.level in
    ⊎_elim (λ q. let w = pow_below (suc ha.level) hb.level q in omega arith)
    (λ q. let same : hb.level ≡ suc ha.level = omega arith in let c : 2 ^ hb.level ≡ 2 ^ suc ha.level = ap (λ k. 2 ^ k) same in omega arith)
    (cases_lt (suc ha.level) hb.level)

-- a larger block that shares a pixel holds the parent
pub parent_within : (n : ℕ) (a b : Block) (p : Pixel) → IsBlock n a → IsBlock n b → a.side < b.side → b.side ≤ 2 ^ n → Holds a p
    → Holds b p → Within (parent_of a) b
parent_within n a b p ha hb lt top ia ib =
    let w = nested n a b p ha hb (omega arith) ia ib in
    let hp = IsBlock-parent_of n a ha (omega arith) in
    nested n (parent_of a) b (corner a) hp hb (twice_le n a b ha hb lt) (Holds-parent_of n a ha) (Within-holds a b (corner a) w (Holds-corner n a ha))
