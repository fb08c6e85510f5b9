use Rattle.std.proofs.Common.{◌≡◌, ◌↔◌, ◌+◌, ◌≤◌, ◌++◌, List, length, drop, map}
use Rattle.quilt_line_audit.specs.declared.pair.Pair.{Pair}
use Rattle.quilt_line_audit.specs.Pairs.{near, pair_on}
use Rattle.quilt_line_audit.proofs.descent.end_of_met.Given as goal

abbrev pub invariant-loop-id : goal.invariant-loop-id
invariant-loop-id l = record {
  from : l.at ≤ l.end;
  within : l.end ≤ length l.pairs;
  count : l.end + length (near l.block (drop l.id-index l.segs)) ≡ l.at + length (near l.block l.segs);
  goes : (rest : List Pair) → (drop l.end l.pairs ≡ map (pair_on l.block) (near l.block (drop l.id-index l.segs)) ++ rest)
      ↔ (drop l.at l.pairs ≡ map (pair_on l.block) (near l.block l.segs) ++ rest);
}
