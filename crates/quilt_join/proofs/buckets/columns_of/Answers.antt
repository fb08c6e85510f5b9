use Rattle.std.proofs.Common.{◌≡◌, ◌-◌, ◌*◌, ◌^◌, ◌%◌, arith, ap, ◌∙◌}
use Rattle.quilt_loc.proofs.Blocks.{side_most}
use Rattle.quilt_join.proofs.Fillings.{whole_row}
use Rattle.quilt_join.proofs.buckets.columns_of.Goals as goal

pub returns : goal.returns
returns c =
    let few = side_most (c.args.level - c.args.shift) (omega arith) in
    let whole = whole_row c.args.level c.args.shift c.requires.shift in
    let same : 1 * 2 ^ (c.args.level - c.args.shift) % 18446744073709551616 ≡ 2 ^ (c.args.level - c.args.shift) = omega arith in
    record { value = same; whole = ap (λ n. n * 2 ^ c.args.shift) same ∙ whole; few = omega arith }
