use Rattle.std.proofs.Common.{arith}
use Rattle.quilt_types.proofs.CodeLaws.{interleaved_below}
use Rattle.quilt_types.proofs.CodeTables.{spread_at}
use Rattle.quilt_types.proofs.location_code.spread.Goals as goal

pub returns-clause-value : goal.returns-clause-value
returns-clause-value c = let h = spread_at c.args.n c.requires in cc

pub returns-clause-below : goal.returns-clause-below
returns-clause-below c = let v = returns-clause-value c in let b = interleaved_below 8 c.args.n 0 in omega arith
