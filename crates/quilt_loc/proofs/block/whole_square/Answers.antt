use Rattle.std.proofs.Common.{◌≡◌, ◌*◌, ◌%◌, ◌^◌, arith}
use Rattle.quilt_loc.proofs.Blocks.{side_most}
use Rattle.quilt_loc.proofs.block.whole_square.Goals as goal

pub returns : goal.returns
returns c =
    let most = side_most c.args.level c.requires in
    let e : 1 * 2 ^ c.args.level % 65536 ≡ 2 ^ c.args.level = omega arith in
    λ i. record { y = 0; x = 0; side = e i }
