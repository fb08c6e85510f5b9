use Rattle.std.proofs.Common.{take}
use Rattle.quilt_node.specs.Nodes.{page_records}
use Rattle.quilt_audit.specs.Checking.{TakesRecords}
use Rattle.quilt_audit.proofs.walk.feed.Given as goal

abbrev pub invariant-loop-i : goal.invariant-loop-i
invariant-loop-i l = TakesRecords l.initial.checker (take l.i (page_records l.bytes)) l.checker
