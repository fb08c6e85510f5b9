use Rattle.std.proofs.Common.{◌≡◌, ℕ, ◌^◌, ⊎_elim, sym, ◌∙◌, ap, arith, pow_pos}
use Rattle.std.specs.Int.{bit_at, w16, trailing_zeros}
use Rattle.std.proofs.lemmas.Bool.{cases_lt}
use Rattle.std.proofs.lemmas.Nat.Bits.{bit_at-trailing_zeros, bit_at-pow_other}
use Rattle.quilt_types.specs.Plane.{side}
use Rattle.quilt_loc.specs.Codes.{IsSide}
use Rattle.quilt_loc.proofs.Blocks.{side_most}
use Rattle.quilt_measure.proofs.counts.exponent_of.Goals as goal

only_bit : (s : ℕ) (h : IsSide s) → trailing_zeros w16 s ≡ h.level
only_bit s h =
    let k = h.level in
    let m = side_most k h.low in
    let p = pow_pos k in
    let e = h.size in
    let t = bit_at-trailing_zeros w16 s (omega arith) (omega arith) in
    let one : bit_at (2 ^ k) (trailing_zeros w16 s) ≡ 1 = ap (λ z. bit_at z (trailing_zeros w16 s)) (sym e) ∙ t.1 in
    ⊎_elim (λ lt. absurd (let z = bit_at-pow_other k (trailing_zeros w16 s) (λ q. omega arith) in omega arith))
    (λ ge. ⊎_elim (λ lt. absurd (let z = bit_at-pow_other k (trailing_zeros w16 s) (λ q. omega arith) in omega arith)) (λ le. omega arith)
    (cases_lt k (trailing_zeros w16 s)))
    (cases_lt (trailing_zeros w16 s) k)

pub returns-clause-most : goal.returns-clause-most
returns-clause-most c = let e = only_bit c.args.side c.requires in let l = c.requires.low in omega arith

pub returns-clause-value : goal.returns-clause-value
returns-clause-value c = c.requires.size ∙ ap side (sym (only_bit c.args.side c.requires))
