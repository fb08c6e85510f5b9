-- Blocks of a square that are moved into a block of another square.
use Rattle.std.proofs.Common.{◌≡◌, ℕ, ◌+◌, ◌-◌, ◌*◌, ◌/◌, ◌%◌, ◌^◌, ◌<◌, ◌≤◌, ◌++◌, length, replicate, sym, ◌∙◌, ap, ap₂, subst, arith, pow_pos}
use Rattle.std.proofs.lemmas.Nat.{div-add-mod', div-mul-add, mod-mul-add, pow-add}
use Rattle.quilt_types.specs.declared.plane.Block.{Block}
use Rattle.quilt_types.specs.Plane.{side, IsBlock}
use Rattle.quilt_types.specs.Codes.{interleaved, code}
use Rattle.quilt_types.specs.declared.plane.Pixel.{Pixel}
use Rattle.quilt_loc.specs.Codes.{code_from, code_to}
use Rattle.quilt_loc.proofs.CodeLaws.{interleaved_low, pow_same}
use Rattle.quilt_loc.proofs.Intervals.{code_split, interleaved_none, corner_code}
use Rattle.quilt_loc.proofs.Quartered.{Within-whole}
use Rattle.quilt_blocks.specs.Raster.{Raster}
use Rattle.quilt_blocks.specs.Walk.{IsLeafAt}
use Rattle.quilt_blocks.specs.Painting.{Painted}
use Rattle.quilt_blocks.specs.Adding.{AddsColours}
use Rattle.quilt_blocks.proofs.Adding.{Adds-then, Adds-push}
use Rattle.quilt_par.specs.declared.part.Part.TheVariants.{Leaves}
use Rattle.quilt_par.specs.Parts.{moved_colour}

-- a number below the step adds nothing to the quotient
quotient : (k a x : ℕ) → a % 2 ^ k ≡ 0 → x < 2 ^ k → (a + x) / 2 ^ k ≡ a / 2 ^ k
quotient k a x on lt =
    let d = div-add-mod' a (2 ^ k) in
    let e : a + x ≡ a / 2 ^ k * 2 ^ k + x = omega arith in
    ap (λ z. z / 2 ^ k) e ∙ div-mul-add (a / 2 ^ k) (2 ^ k) x lt

low_bits : (k a x : ℕ) → a % 2 ^ k ≡ 0 → a + x ≡ x + 2 ^ k * (a / 2 ^ k)
low_bits k a x on = let d = div-add-mod' a (2 ^ k) in omega arith

none : (k x : ℕ) → x < 2 ^ k → x / 2 ^ k ≡ 0
none k x lt =
    let e : x ≡ 0 * 2 ^ k + x = omega arith in
    ap (λ z. z / 2 ^ k) e ∙ div-mul-add 0 (2 ^ k) x lt

zero_mod : (k : ℕ) → 0 % 2 ^ k ≡ 0
zero_mod k =
    let e : 0 ≡ 0 * 2 ^ k + 0 = omega arith in
    ap (λ z. z % 2 ^ k) e ∙ mod-mul-add 0 (2 ^ k) 0 (pow_pos k)

-- the code of a pixel of the first block of its side
code_low : (k x y : ℕ) → k ≤ 12 → x < 2 ^ k → y < 2 ^ k → code x y ≡ interleaved k x y
code_low k x y le hx hy =
    let high : interleaved (12 - k) (x / 2 ^ k) (y / 2 ^ k) ≡ 0 =
    ap₂ (interleaved (12 - k)) (none k x hx) (none k y hy) ∙ interleaved_none (12 - k) 0 0 (zero_mod (12 - k)) (zero_mod (12 - k)) in
    let more : 4 ^ k * interleaved (12 - k) (x / 2 ^ k) (y / 2 ^ k) ≡ 4 ^ k * 0 = ap (λ z. 4 ^ k * z) high in
    let s = code_split k x y le in
    omega arith

-- the code of a pixel of a block is that of the block and its own
pub moved_code : (k a b x y : ℕ) → k ≤ 12 → a % 2 ^ k ≡ 0 → b % 2 ^ k ≡ 0 → x < 2 ^ k → y < 2 ^ k → code (a + x) (b + y) ≡ code a b + code x y
moved_code k a b x y le oa ob hx hy =
    let s = code_split k (a + x) (b + y) le in
    let high : interleaved (12 - k) ((a + x) / 2 ^ k) ((b + y) / 2 ^ k) ≡ interleaved (12 - k) (a / 2 ^ k) (b / 2 ^ k) =
    ap₂ (interleaved (12 - k)) (quotient k a x oa hx) (quotient k b y ob hy) in
    let low : interleaved k (a + x) (b + y) ≡ interleaved k x y =
    ap₂ (interleaved k) (low_bits k a x oa) (low_bits k b y ob) ∙ interleaved_low k x y (a / 2 ^ k) (b / 2 ^ k) in
    let more : 4 ^ k * interleaved (12 - k) ((a + x) / 2 ^ k) ((b + y) / 2 ^ k) ≡ 4 ^ k * interleaved (12 - k) (a / 2 ^ k) (b / 2 ^ k) =
    ap (λ z. 4 ^ k * z) high in
    let c = corner_code k a b le oa ob in
    let l = code_low k x y le hx hy in
    omega arith

-- multiples of a step
mod_sum : (s a x : ℕ) → 0 < s → a % s ≡ 0 → x % s ≡ 0 → (a + x) % s ≡ 0
mod_sum s a x pos oa ox =
    let d = div-add-mod' a s in
    let f = div-add-mod' x s in
    let e : a + x ≡ (a / s + x / s) * s + 0 = omega arith in
    ap (λ z. z % s) e ∙ mod-mul-add (a / s + x / s) s 0 pos

mod_finer : (j k a : ℕ) → j ≤ k → a % 2 ^ k ≡ 0 → a % 2 ^ j ≡ 0
mod_finer j k a le on =
    let i = k - j in
    let e : k ≡ j + i = omega arith in
    let p : 2 ^ k ≡ 2 ^ j * 2 ^ i = ap (λ z. 2 ^ z) e ∙ pow-add 2 j i in
    let d = div-add-mod' a (2 ^ k) in
    let w : a / 2 ^ k * 2 ^ k ≡ a / 2 ^ k * (2 ^ j * 2 ^ i) = ap (λ z. a / 2 ^ k * z) p in
    let v : a ≡ a / 2 ^ k * 2 ^ i * 2 ^ j + 0 = omega arith in
    ap (λ z. z % 2 ^ j) v ∙ mod-mul-add (a / 2 ^ k * 2 ^ i) (2 ^ j) 0 (pow_pos j)

abbrev pub moved : Block → Block → Block
moved b r = record { x = b.x + r.x; y = b.y + r.y; side = r.side }

-- a block of a small square, moved into a block of its size
pub record IsMoved (n : ℕ) (b r : Block) : Type 0 where
  pub block : IsBlock n (moved b r)
  pub from : code_from (moved b r) ≡ code_from b + code_from r

pub moved_is : (n k : ℕ) (b r : Block) → n ≤ 12 → IsBlock n b → b.side ≡ side k → IsBlock k r → IsMoved n b r
moved_is n k b r le hb wide hr =
    let size = hb.size in
    let same : hb.level ≡ k = pow_same hb.level k (sym size ∙ wide) in
    let low = hb.low in
    let few = hr.low in
    let ix = hr.in_x in
    let iy = hr.in_y in
    let w = Within-whole n b hb in
    let right = w.right in
    let bottom = w.bottom in
    let bx : b.x % 2 ^ k ≡ 0 = ap (λ z. b.x % z) (sym wide) ∙ hb.on_x in
    let by' : b.y % 2 ^ k ≡ 0 = ap (λ z. b.y % z) (sym wide) ∙ hb.on_y in
    let rx : r.x % 2 ^ hr.level ≡ 0 = ap (λ z. r.x % z) (sym hr.size) ∙ hr.on_x in
    let ry : r.y % 2 ^ hr.level ≡ 0 = ap (λ z. r.y % z) (sym hr.size) ∙ hr.on_y in
    let pos = pow_pos hr.level in
    record {
      block = record {
        level = hr.level;
        low = omega arith;
        size = hr.size;
        on_x = ap (λ z. (b.x + r.x) % z) hr.size ∙ mod_sum (2 ^ hr.level) b.x r.x pos (mod_finer hr.level k b.x few bx) rx;
        on_y = ap (λ z. (b.y + r.y) % z) hr.size ∙ mod_sum (2 ^ hr.level) b.y r.y pos (mod_finer hr.level k b.y few by') ry;
        in_x = omega arith;
        in_y = omega arith;
      };
      from = moved_code k b.x b.y r.x r.y (omega arith) bx by' ix iy;
    }

-- one leaf more of a square that is put down as a block
pub Adds-moved : (n : ℕ) (b : Block) (list : Raster) (r : Block) (c at : ℕ) (old m new : Painted) → n ≤ 12 → IsBlock n b → b.side ≡ side list.level
    → IsLeafAt list.level list.grid at (r, c) → code_from b ≡ length old.colours → AddsColours n (moved_colour b (Leaves list)) (code_from b + at) old m
    → new ≡ record { level = m.level; colours = m.colours ++ replicate (r.side * r.side) c }
    → AddsColours n (moved_colour b (Leaves list)) (code_from b + (at + r.side * r.side)) old new
Adds-moved n b list r c at old m new le hb wide leaf next before is =
    let f : Pixel → ℕ = moved_colour b (Leaves list) in
    let mv = moved_is n list.level b r le hb wide leaf.block in
    let from = mv.from in
    let begins = leaf.from in
    let long = before.long in
    let step : AddsColours n f (code_to (moved b r)) m new =
    Adds-push n f m new (moved b r) c le mv.block (omega arith)
    (λ p h.
    let l = h.left in
    let x = h.right in
    let t = h.top in
    let d = h.bottom in
    leaf.colour.each (record { x = p.x - b.x; y = p.y - b.y })
    (record { left = omega arith; right = omega arith; top = omega arith; bottom = omega arith })) is in
    let end : code_to (moved b r) ≡ code_from b + (at + r.side * r.side) = omega arith in
    Adds-then n f (code_from b + at) (code_from b + (at + r.side * r.side)) old m new (omega arith) before (subst (λ (k : ℕ). AddsColours n f k m new) end step)
