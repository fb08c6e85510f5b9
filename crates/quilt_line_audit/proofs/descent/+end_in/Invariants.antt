use Rattle.std.proofs.Common.{◌≡◌, ◌↔◌, ℕ, ◌≤◌, List, length, drop}
use Rattle.quilt_types.specs.Plane.{side}
use Rattle.quilt_line_audit.specs.declared.pair.Pair.{Pair}
use Rattle.quilt_line_audit.specs.Pairs.{BeginsWithPairs, EachInTurn}
use Rattle.quilt_line_audit.proofs.descent.+end_in.Given as goal

abbrev pub decreases-end_in : goal.decreases-end_in
decreases-end_in l = l.square.side

abbrev pub invariant-loop-quarter : goal.invariant-loop-quarter
invariant-loop-quarter l = record {
  within : l.end ≤ length l.pairs;
  goes : (k : ℕ) (rest : List Pair) → l.fn.square.side ≡ side (ℕ.suc k)
      → EachInTurn (BeginsWithPairs l.near.items k) (drop l.quarter-index l.quarter-items) (drop l.end l.pairs) rest
      ↔ EachInTurn (BeginsWithPairs l.near.items k) l.quarter-items (drop l.at l.pairs) rest;
}
