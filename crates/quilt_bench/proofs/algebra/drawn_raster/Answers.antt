use Rattle.std.proofs.Common.{◌^◌, ◌≤◌, ◌<◌, arith}
use Rattle.std.proofs.Math.Nat.{pow-le-pow_right}
use Rattle.quilt_bench.proofs.algebra.drawn_raster.Goals as goal

pub paint_rectangles-requires : goal.paint_rectangles-requires
paint_rectangles-requires c =
    let m : 2 ^ c.args.level ≤ 2 ^ 12 = pow-le-pow_right (let z : 0 < 2 = omega arith in z) c.requires in
    omega arith
