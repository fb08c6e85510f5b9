use Rattle.std.proofs.Common.{◌+◌, length}
use Rattle.quilt_map.proofs.states.Edited.{HasEdited}
use Rattle.quilt_map.proofs.edit.edit_merged.Given as goal

abbrev pub invariant-loop-part : goal.invariant-loop-part
invariant-loop-part g l = HasEdited {D = g.W.Disk} l.removed l.added l.initial.book l.book l.goes l.comes

abbrev pub decreases-loop-part : goal.decreases-loop-part
decreases-loop-part g l = length l.goes + length l.comes
