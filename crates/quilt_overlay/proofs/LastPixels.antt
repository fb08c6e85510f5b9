-- The last code of a block is that of its lower right pixel.
use Rattle.std.proofs.Common.{◌≡◌, ℕ, zero, suc, ◌+◌, ◌-◌, ◌*◌, ◌/◌, ◌%◌, ◌^◌, ◌<◌, sym, ◌∙◌, ap, ap₂, arith, pow_pos, pow-suc}
use Rattle.std.proofs.lemmas.Nat.{div-add-mod', div-mul-add}
use Rattle.quilt_types.specs.declared.plane.Pixel.{Pixel}
use Rattle.quilt_types.specs.declared.plane.Block.{Block}
use Rattle.quilt_types.specs.Plane.{IsBlock}
use Rattle.quilt_types.specs.Codes.{interleaved, code}
use Rattle.quilt_loc.specs.Codes.{code_at, code_to}
use Rattle.quilt_loc.proofs.CodeLaws.{interleaved_low, code_alone}
use Rattle.quilt_loc.proofs.Intervals.{code_split, code_from_is, code_to_is}
use Rattle.quilt_loc.proofs.Nesting.{side_pos}
use Rattle.quilt_loc.proofs.Quartered.{Within-whole}

-- the code of the last pixel of a square from 0 on
interleaved_ones : (k m : ℕ) → suc m ≡ 2 ^ k → suc (interleaved k m m) ≡ 4 ^ k
unfolding interleaved
interleaved_ones zero m e = omega arith
interleaved_ones (suc k) m e =
    let p = pow-suc 2 k in
    let q = pow-suc 4 k in
    let pos = pow_pos k in
    let ih = interleaved_ones k (m / 2) (omega arith) in
    omega arith

step_back : (k x m : ℕ) → x % 2 ^ k ≡ 0 → m < 2 ^ k → (x + m ≡ m + 2 ^ k * (x / 2 ^ k)) × ((x + m) / 2 ^ k ≡ x / 2 ^ k)
step_back k x m on lt =
    let d = div-add-mod' x (2 ^ k) in
    let e : x + m ≡ x / 2 ^ k * 2 ^ k + m = omega arith in
    (omega arith, ap (λ z. z / 2 ^ k) e ∙ div-mul-add (x / 2 ^ k) (2 ^ k) m lt)

-- the lower right pixel of a block
abbrev pub last_of : Block → Pixel
last_of b = record { x = b.x + b.side - 1; y = b.y + b.side - 1 }

pub last_code : (b : Block) → IsBlock 12 b → code_to b ≡ suc (code_at (last_of b))
last_code b h =
    let k = h.level in
    let e = h.size in
    let pos = side_pos 12 b h in
    let m = b.side - 1 in
    let one : suc m ≡ 2 ^ k = omega arith in
    let sx = step_back k b.x m (ap (λ z. b.x % z) (sym e) ∙ h.on_x) (omega arith) in
    let sy = step_back k b.y m (ap (λ z. b.y % z) (sym e) ∙ h.on_y) (omega arith) in
    let low : interleaved k (b.x + m) (b.y + m) ≡ interleaved k m m = ap₂ (interleaved k) sx.0 sy.0 ∙ interleaved_low k m m (b.x / 2 ^ k) (b.y / 2 ^ k) in
    let high : interleaved (12 - k) ((b.x + m) / 2 ^ k) ((b.y + m) / 2 ^ k) ≡ interleaved (12 - k) (b.x / 2 ^ k) (b.y / 2 ^ k) =
    ap₂ (interleaved (12 - k)) sx.1 sy.1 in
    let high' = ap (λ z. 4 ^ k * z) high in
    let split = code_split k (b.x + m) (b.y + m) h.low in
    let ones = interleaved_ones k m one in
    let from = code_from_is 12 b h (omega arith) in
    let to = code_to_is 12 b h in
    let ex : b.x + b.side - 1 ≡ b.x + m = omega arith in
    let ey : b.y + b.side - 1 ≡ b.y + m = omega arith in
    let at : code_at (last_of b) ≡ code_at (record { x = b.x + m; y = b.y + m }) = ap₂ code ex ey in
    omega arith

-- blocks end at one code where they have one lower right corner
pub one_end : (a b : Block) → IsBlock 12 a → IsBlock 12 b → (a.x + a.side ≡ b.x + b.side) → (a.y + a.side ≡ b.y + b.side) → code_to a ≡ code_to b
one_end a b ha hb ex ey =
    last_code a ha ∙ ap₂ (λ u v. suc (code (u - 1) (v - 1))) ex ey ∙ sym (last_code b hb)

pub one_corner : (a b : Block) → IsBlock 12 a → IsBlock 12 b → code_to a ≡ code_to b → (a.x + a.side ≡ b.x + b.side) × (a.y + a.side ≡ b.y + b.side)
one_corner a b ha hb e =
    let pa = side_pos 12 a ha in
    let pb = side_pos 12 b hb in
    let wa = Within-whole 12 a ha in
    let wb = Within-whole 12 b hb in
    let ar = wa.right in
    let ab = wa.bottom in
    let br = wb.right in
    let bb = wb.bottom in
    let la = last_code a ha in
    let lb = last_code b hb in
    let is = code_alone (last_of a) (last_of b) (omega arith) (omega arith) (omega arith) (omega arith) (omega arith) in
    let x = ap (λ (p : Pixel). p.x) is in
    let y = ap (λ (p : Pixel). p.y) is in
    (omega arith, omega arith)
