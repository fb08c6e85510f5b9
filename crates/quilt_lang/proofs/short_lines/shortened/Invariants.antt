use Rattle.quilt_lang.proofs.ShortLines.{ShortSoFar}
use Rattle.quilt_lang.proofs.short_lines.shortened.Given as goal

abbrev pub invariant-loop-left : goal.invariant-loop-left
invariant-loop-left l = ShortSoFar l.most l.missing l.piece l.from l.left l.new.items

abbrev pub decreases-loop-left : goal.decreases-loop-left
decreases-loop-left l = l.left
