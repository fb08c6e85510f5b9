use Rattle.std.proofs.Common.{arith}
use Rattle.quilt_types.proofs.CodeLaws.{interleaved_below}
use Rattle.quilt_types.proofs.CodeTables.{interleaved_sum}
use Rattle.quilt_types.proofs.location_code.byte_code.Goals as goal

pub returns-clause-value : goal.returns-clause-value
returns-clause-value c =
    let x = c.spread.ensures.value in
    let y = c.spread-2.ensures.value in
    let both = interleaved_sum 8 c.args.x c.args.y in omega arith

pub returns-clause-below : goal.returns-clause-below
returns-clause-below c = let v = returns-clause-value c in let b = interleaved_below 8 c.args.x c.args.y in omega arith
