-- Blocks by their codes: the smaller of two that share a code lies in the larger, and so do the pixels of one.
use Rattle.std.proofs.Common.{◌≡◌, ℕ, ◌+◌, ◌-◌, ◌*◌, ◌/◌, ◌^◌, ◌<◌, ◌≤◌, ◌∙◌, ap, arith}
use Rattle.std.proofs.Math.Nat.{mul-le-mul_left, lt_of_mul-lt-mul_left}
use Rattle.std.proofs.lemmas.Nat.{pow-add}
use Rattle.quilt_types.specs.declared.plane.Pixel.{Pixel}
use Rattle.quilt_types.specs.declared.plane.Block.{Block}
use Rattle.quilt_types.specs.Plane.{Holds, IsBlock}
use Rattle.quilt_types.specs.Codes.{interleaved}
use Rattle.quilt_loc.specs.Codes.{code_from, code_to}
use Rattle.quilt_loc.proofs.Blocks.{side_most}
use Rattle.quilt_loc.proofs.Nesting.{level_le}
use Rattle.quilt_loc.proofs.Intervals.{code_from_is, code_to_is, code_held, held_code}
use Rattle.quilt_blocks.proofs.Listed.{held_in}

-- an interval of u numbers from a multiple of u, and one of w times as many
multiples : (u c w k at : ℕ) → u * k ≤ at → at < u * k + u → u * c ≤ at → at < u * c + u * w → (u * c ≤ u * k) × (u * k + u ≤ u * c + u * w)
multiples u c w k at a b d e =
    let l : c < k + 1 = lt_of_mul-lt-mul_left u {m = c} {n = k + 1} (omega arith) in
    let r : k < c + w = lt_of_mul-lt-mul_left u {m = k} {n = c + w} (omega arith) in
    let l' : c ≤ k = omega arith in
    let r' : k + 1 ≤ c + w = omega arith in
    let low = mul-le-mul_left u l' in
    let high = mul-le-mul_left u r' in
    (omega arith, omega arith)

-- of two blocks that have one code the smaller lies in the larger
pub smaller_inside : (n : ℕ) (a b : Block) (at : ℕ) → n ≤ 12 → IsBlock n a → IsBlock n b → a.side ≤ b.side → code_from a ≤ at → at < code_to a
    → code_from b ≤ at → at < code_to b
    → (code_from b ≤ code_from a) × (code_to a ≤ code_to b)
smaller_inside n a b at le ha hb small af at' bf bt =
    let i = ha.level in
    let j = hb.level in
    let ij = level_le n a b ha hb small in
    let ka = interleaved (12 - i) (a.x / 2 ^ i) (a.y / 2 ^ i) in
    let kb = interleaved (12 - j) (b.x / 2 ^ j) (b.y / 2 ^ j) in
    let split : 4 ^ j ≡ 4 ^ i * 4 ^ (j - i) = ap (λ k. 4 ^ k) (let e : j ≡ i + (j - i) = omega arith in e) ∙ pow-add 4 i (j - i) in
    let fa = code_from_is n a ha le in
    let fb = code_from_is n b hb le in
    let ta = code_to_is n a ha in
    let tb = code_to_is n b hb in
    let w = 4 ^ (j - i) in
    let many : 4 ^ j * kb ≡ 4 ^ i * (w * kb) = ap (λ z. z * kb) split ∙ assoc (4 ^ i) w kb in
    let r = multiples (4 ^ i) (w * kb) w ka at (omega arith) (omega arith) (omega arith) (omega arith) in
    let low = r.0 in
    let high = r.1 in
    (omega arith, omega arith)
  where
    assoc : (u v k : ℕ) → u * v * k ≡ u * (v * k)
    assoc u v k = omega arith

-- a pixel of a block whose codes are all another one's is one of that one's
pub codes_inside : (n : ℕ) (s b : Block) (p : Pixel) → n ≤ 12 → IsBlock n s → IsBlock n b → code_from b ≤ code_from s
    → code_to s ≤ code_to b → Holds s p → Holds b p
codes_inside n s b p le hs hb from to held =
    let m = side_most n le in
    let sq = held_in n s p hs held in
    let px = sq.0 in
    let py = sq.1 in
    let w = code_held n s p hs le held in
    let low = w.0 in
    let high = w.1 in
    let bx = hb.in_x in
    let by' = hb.in_y in
    held_code n b p hb le (omega arith) (omega arith) (omega arith) (omega arith) (omega arith) (omega arith)
