use Rattle.std.proofs.Common.{◌≡◌, ◌-◌, ◌%◌, length}
use Rattle.quilt_lang.proofs.DigitPairs.{WidePairsSoFar}
use Rattle.quilt_lang.proofs.spelled.read_wide_rest.Given as goal

abbrev pub invariant-loop-i : goal.invariant-loop-i
invariant-loop-i l = record { size : length l.line ≡ length l.bytes; even : l.i % 2 ≡ 0; is : WidePairsSoFar l.line l.i l.most l.bytes }

abbrev pub decreases-loop-i : goal.decreases-loop-i
decreases-loop-i l = length l.bytes - l.i
