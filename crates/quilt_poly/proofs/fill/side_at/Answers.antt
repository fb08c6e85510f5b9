use Rattle.std.proofs.Common.{◌≡◌, ◌*◌, ◌%◌, ◌^◌, arith}
use Rattle.std.proofs.lemmas.Nat.{one_shl}
use Rattle.quilt_loc.proofs.Blocks.{side_most}
use Rattle.quilt_poly.proofs.fill.side_at.Goals as goal

pub returns-clause-small : goal.returns-clause-small
returns-clause-small c =
    let few = c.requires in
    let m = side_most c.args.level few in
    let is : 1 * 2 ^ c.args.level % 18446744073709551616 ≡ 2 ^ c.args.level = one_shl c.args.level 64 (omega arith) in
    omega arith
