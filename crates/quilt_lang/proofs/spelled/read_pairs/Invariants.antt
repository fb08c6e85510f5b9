use Rattle.std.proofs.Common.{◌≡◌, ◌-◌, ◌*◌, length}
use Rattle.quilt_lang.proofs.DigitPairs.{PairsSoFar}
use Rattle.quilt_lang.proofs.spelled.read_pairs.Given as goal

abbrev pub invariant-loop-i : goal.invariant-loop-i
invariant-loop-i l = record { size : length l.line ≡ 2 * length l.bytes; is : PairsSoFar l.line l.i l.most l.bytes }

abbrev pub decreases-loop-i : goal.decreases-loop-i
decreases-loop-i l = length l.bytes - l.i
