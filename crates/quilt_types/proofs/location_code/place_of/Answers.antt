use Rattle.std.proofs.Common.{◌/◌, arith}
use Rattle.quilt_types.proofs.CodeTables.{place_at, gathered_below}
use Rattle.quilt_types.proofs.location_code.place_of.Goals as goal

pub returns-clause-value : goal.returns-clause-value
returns-clause-value c = let h = place_at c.args.code c.requires in cc

pub returns-clause-below : goal.returns-clause-below
returns-clause-below c =
    let v = returns-clause-value c in
    let x = gathered_below 4 c.args.code in
    let y = gathered_below 4 (c.args.code / 2) in omega arith
