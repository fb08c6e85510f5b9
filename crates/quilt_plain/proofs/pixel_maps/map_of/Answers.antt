use Rattle.std.proofs.Common.{◌≡◌, ℕ, ◌+◌, ◌*◌, ◌^◌, ◌%◌, ◌<◌, ◌≤◌, refl, sym, ap, subst, arith, lit<, pow-add}
use Rattle.std.proofs.Math.Nat.{pow-le-pow_right}
use Rattle.quilt_types.specs.declared.plane.Pixel.{Pixel}
use Rattle.quilt_types.specs.Plane.{whole, IsBlock}
use Rattle.quilt_loc.specs.Codes.{code_at}
use Rattle.quilt_loc.proofs.Quartered.{IsBlock-whole}
use Rattle.quilt_loc.proofs.Intervals.{held_code, side_squared, origin_code}
use Rattle.quilt_plain.proofs.pixel_maps.map_of.Goals as goal

-- how many pixels the square has, as the code has it
pixels_in : (n : ℕ) → n ≤ 12 → 1 * 2 ^ (2 * n) % 4294967296 ≡ 4 ^ n
pixels_in n le =
    let e : 2 ^ (2 * n) ≡ 2 ^ (n + n) = ap (λ k. 2 ^ k) (let t : 2 * n ≡ n + n = omega arith in t) in
    let p = pow-add 2 n n in
    let s = side_squared n in
    let m : 4 ^ n ≤ 4 ^ 12 = pow-le-pow_right (let z : 0 < 4 = omega arith in z) le in
    omega arith

-- one pixel as a block
pixel_block : (n : ℕ) (p : Pixel) → n ≤ 12 → p.x < 4096 → p.y < 4096 → code_at p < 4 ^ n → IsBlock n (record { x = p.x; y = p.y; side = 1 })
pixel_block n p le hx hy lt =
    let z = origin_code in
    let s = side_squared n in
    let h = held_code n (whole n) p (IsBlock-whole n) le (lit< tt) (lit< tt) hx hy (omega arith) (omega arith) in
    let r = h.right in
    let d = h.bottom in
    record { level = 0; low = omega arith; size = refl; on_x = omega arith; on_y = omega arith; in_x = omega arith; in_y = omega arith }

pub pixel_of-y-requires : goal.pixel_of-y-requires
pixel_of-y-requires c =
    let s = pixels_in c.args.level c.requires.most in
    let m : 4 ^ c.args.level ≤ 4 ^ 12 = pow-le-pow_right (let z : 0 < 4 = omega arith in z) c.requires.most in
    let lt = c.loop-code-test.true in
    omega arith

pub push-requires-clause-valid : goal.push-requires-clause-valid
push-requires-clause-valid c =
    let n = c.args.level in
    let p = c.pixel_of-y.result in
    let v = c.pixel_of-y.ensures in
    let e = v.value in
    let s = pixels_in n c.requires.most in
    let lt = c.loop-code-test.true in
    subst (λ (k : ℕ). IsBlock k (record { x = p.x; y = p.y; side = 1 })) (sym c.loop-code.invariant.level)
    (pixel_block n p c.requires.most v.in_x v.in_y (omega arith))

pub finish-requires : goal.finish-requires
finish-requires c =
    let s = pixels_in c.args.level c.requires.most in
    let long = c.loop-code.invariant.long in
    let end = c.loop-code-test.false in
    let level = ap (λ (k : ℕ). 4 ^ k) c.loop-code.invariant.level in
    omega arith
