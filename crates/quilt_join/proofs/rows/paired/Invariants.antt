use Rattle.std.proofs.Common.{◌≡◌, ◌++◌, drop}
use Rattle.quilt_join.specs.Pairs.{pairs_with}
use Rattle.quilt_join.proofs.rows.paired.Given as goal

abbrev pub invariant-loop-other : goal.invariant-loop-other
invariant-loop-other l = l.pairs ++ pairs_with l.id (drop l.other-index l.others) ≡ pairs_with l.id l.others
