use Rattle.std.proofs.Common.{take}
use Rattle.quilt_lang.proofs.ShortLines.{ShortSoFar}
use Rattle.quilt_lang.proofs.short_lines.is_short.Given as goal

abbrev pub invariant-loop-left : goal.invariant-loop-left
invariant-loop-left l = ShortSoFar l.most l.missing l.piece l.from l.left (take l.from l.piece)

abbrev pub decreases-loop-left : goal.decreases-loop-left
decreases-loop-left l = l.left
