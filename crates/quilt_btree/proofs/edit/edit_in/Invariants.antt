use Rattle.std.proofs.Common.{◌≡◌, List, Some, length}
use Rattle.quilt_record.specs.declared.record.Record.{Record}
use Rattle.quilt_node.specs.Pages.{leaf_of}
use Rattle.quilt_btree.specs.Batches.{HasRoomFor}
use Rattle.quilt_btree.proofs.batches.Plans.{IsMade}
use Rattle.quilt_btree.proofs.edit.edit_in.Given as goal

abbrev pub invariant-loop-i : goal.invariant-loop-i
invariant-loop-i l = (rs : List Record) → leaf_of l.initial.bytes ≡ Some rs → HasRoomFor l.run (length rs) → IsMade l.bytes rs l.run l.i
