-- How many codes the square has, as the code of the audit counts them.
use Rattle.std.proofs.Common.{◌≡◌, ℕ, ◌+◌, ◌*◌, ◌%◌, ◌^◌, ◌<◌, ◌≤◌, ◌∙◌, ap, arith}
use Rattle.std.proofs.Math.Nat.{pow-le-pow_right}
use Rattle.std.proofs.lemmas.Nat.{pow-add}
use Rattle.quilt_loc.proofs.Intervals.{side_squared}

pub codes_are : (n : ℕ) → n ≤ 12 → 1 * 2 ^ (2 * n) % 4294967296 ≡ 4 ^ n
codes_are n le =
    let p : 4 ^ n ≤ 4 ^ 12 = pow-le-pow_right {n = 4} (let some : 0 < 4 = omega arith in some) le in
    let s = side_squared n in
    let two : 2 * n ≡ n + n = omega arith in
    let twice : 2 ^ (2 * n) ≡ 2 ^ n * 2 ^ n = ap (λ k. 2 ^ k) two ∙ pow-add 2 n n in
    omega arith
