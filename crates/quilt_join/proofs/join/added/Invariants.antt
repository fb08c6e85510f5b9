use Rattle.std.proofs.Common.{◌≡◌, ◌+◌, ◌≤◌, take, sum}
use Rattle.quilt_join.proofs.join.added.Given as goal

abbrev pub invariant-loop-count : goal.invariant-loop-count
invariant-loop-count l = record {
  few : l.all ≤ 1000000;
  total : l.all ≡ l.total + sum (take l.count-index l.counts);
}
