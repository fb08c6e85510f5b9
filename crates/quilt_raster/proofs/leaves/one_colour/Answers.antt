use Rattle.std.proofs.Common.{◌≡◌, ℕ, ◌+◌, ◌*◌, ◌%◌, ◌^◌, ◌≤◌, ap₂, arith}
use Rattle.quilt_types.specs.Plane.{side}
use Rattle.quilt_loc.proofs.Blocks.{side_most}
use Rattle.quilt_raster.specs.Bytes.{cell_colours}
use Rattle.quilt_raster.proofs.Points.{row_room, one_row_more}
use Rattle.quilt_raster.proofs.leaves.one_colour.Goals as goal

-- how wide the square is, as the code has it
width : (n : ℕ) → n ≤ 12 → 1 * 2 ^ n % 18446744073709551616 ≡ side n
width n le = let m = side_most n le in omega arith

pub is_run-requires : goal.is_run-requires
is_run-requires c =
    let n = c.args.level in
    let s = c.args.square in
    let all = c.requires.all in
    let lt = c.loop-dy-test.true in
    let long = c.from-length.ensures in
    let x = c.requires.in_x in
    let y = c.requires.in_y in
    let room = row_room n (1 * 2 ^ n % 18446744073709551616) s.y c.loop-dy.dy s.x s.side (width n c.requires.most) (omega arith) x in
    let at : c.from.result * (1 * 2 ^ n % 18446744073709551616) + c.from-2.result ≡ s.y * (1 * 2 ^ n % 18446744073709551616) + s.x =
    ap₂ (λ a b. a * (1 * 2 ^ n % 18446744073709551616) + b) c.from.ensures c.from-2.ensures in
    omega arith

pub loop-dy-preserved : goal.loop-dy-preserved
loop-dy-preserved c =
    let n = c.args.level in
    let s = c.args.square in
    let w = 1 * 2 ^ n % 18446744073709551616 in
    let long = c.from-length.ensures in
    let at : c.from.result * w + c.from-2.result ≡ s.y * w + s.x = ap₂ (λ a b. a * w + b) c.from.ensures c.from-2.ensures in
    one_row_more n (cell_colours c.args.colours.now) s w c.loop-dy.dy _ (width n c.requires.most) c.loop-dy.invariant
    (λ k from to. c.is_run.ensures.all c.if-not-is_run.false k (omega arith) (omega arith))
