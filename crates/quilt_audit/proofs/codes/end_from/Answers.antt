use Rattle.std.proofs.Common.{◌*◌, ◌^◌, ◌≤◌, ◌<◌, sym, subst, arith}
use Rattle.std.proofs.Math.Nat.{mul-le-mul}
use Rattle.quilt_types.specs.Codes.{code}
use Rattle.quilt_loc.proofs.CodeLaws.{code_below}
use Rattle.quilt_loc.proofs.Quartered.{side_le}
use Rattle.quilt_audit.proofs.codes.end_from.Goals as goal

pub overflow_add-result : goal.overflow_add-result
overflow_add-result c =
    let s = c.from-side.result in
    let side : s ≤ 4096 = subst (λ k. k ≤ 4096) (sym c.from-side.ensures) (side_le 12 c.args.b c.requires.block) in
    let square : s * s ≤ 4096 * 4096 = mul-le-mul side side in
    let low : code c.args.b.x c.args.b.y < 4 ^ 12 = code_below c.args.b.x c.args.b.y in
    let is = c.requires.code in
    omega arith
