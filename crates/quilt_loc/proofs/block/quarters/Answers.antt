use Rattle.std.proofs.Common.{◌≡◌, [], ◌∷◌, sym, subst, arith}
use Rattle.quilt_types.specs.Plane.{quarters_of}
use Rattle.quilt_loc.specs.Codes.{Rises, code_cmp}
use Rattle.quilt_loc.proofs.Intervals.{Rises-quarters}
use Rattle.quilt_loc.proofs.block.quarters.Goals as goal

pub returns-clause-order : goal.returns-clause-order
returns-clause-order c =
    let e : (c.quarter.result ∷ c.quarter-2.result ∷ c.quarter-3.result ∷ c.quarter-4.result ∷ []) ≡ quarters_of c.args.b = cc in
    subst (Rises code_cmp) (sym e) (Rises-quarters 12 c.args.b c.requires.valid (omega arith) c.requires.wide)
