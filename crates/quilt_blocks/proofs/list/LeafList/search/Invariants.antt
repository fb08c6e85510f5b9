use Rattle.std.proofs.Common.{◌<◌, ◌≤◌, ◌-◌, length, get_or}
use Rattle.quilt_loc.specs.Codes.{code_from}
use Rattle.quilt_blocks.specs.declared.leaf.Leaf.{Leaf}
use Rattle.quilt_blocks.proofs.list.LeafList.search.Given as goal

abbrev pub invariant-loop-high : goal.invariant-loop-high
invariant-loop-high l = record {
  some : l.low < l.high;
  inside : l.high ≤ length l.leaves.items;
  from : (d : Leaf) → code_from (get_or l.leaves.items l.low d).block ≤ l.code;
  to : (d : Leaf) → l.high < length l.leaves.items → l.code < code_from (get_or l.leaves.items l.high d).block;
}

abbrev pub decreases-loop-high : goal.decreases-loop-high
decreases-loop-high l = l.high - l.low
