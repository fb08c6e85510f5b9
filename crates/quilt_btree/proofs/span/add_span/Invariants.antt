use Rattle.std.proofs.Common.{◌≡◌, ◌≤◌, ◌-◌, ◌++◌, take, filter}
use Rattle.quilt_node.specs.Nodes.{page_records}
use Rattle.quilt_btree.specs.Lists.{is_from_to}
use Rattle.quilt_btree.proofs.ranges.Parts.{part}
use Rattle.quilt_btree.proofs.span.add_span.Given as goal

abbrev pub invariant-loop-i : goal.invariant-loop-i
invariant-loop-i l = record {
  least : l.first ≤ l.i;
  items : l.records.items
      ≡ take l.most (l.initial.records.items ++ filter (is_from_to l.low l.high) (take (l.i - l.first) (part l.first l.last (page_records l.bytes))));
}
