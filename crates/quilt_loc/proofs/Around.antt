-- The block of a side that holds a pixel.
use Rattle.std.proofs.Common.{ℕ, ◌^◌, ◌<◌, ◌≤◌, refl, arith, pow_pos}
use Rattle.quilt_types.specs.declared.plane.Pixel.{Pixel}
use Rattle.quilt_types.specs.Plane.{Holds, IsBlock}
use Rattle.quilt_loc.proofs.Steps.{start_low, start_on}
use Rattle.quilt_loc.proofs.Nesting.{around}

pub IsBlock-around : (n k : ℕ) (p : Pixel) → k ≤ n → p.x < 2 ^ n → p.y < 2 ^ n → IsBlock n (around (2 ^ k) p)
IsBlock-around n k p le hx hy =
    let pos = pow_pos k in
    let lx = start_low (2 ^ k) p.x pos in
    let ly = start_low (2 ^ k) p.y pos in
    record { level = k; low = le; size = refl; on_x = start_on (2 ^ k) p.x pos; on_y = start_on (2 ^ k) p.y pos; in_x = omega arith; in_y = omega arith }

pub Holds-around : (k : ℕ) (p : Pixel) → Holds (around (2 ^ k) p) p
Holds-around k p =
    let lx = start_low (2 ^ k) p.x (pow_pos k) in
    let ly = start_low (2 ^ k) p.y (pow_pos k) in
    record { left = lx.0; right = lx.1; top = ly.0; bottom = ly.1 }
