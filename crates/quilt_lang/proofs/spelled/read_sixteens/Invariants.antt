use Rattle.std.proofs.Common.{◌≡◌, ◌≤◌, ◌-◌, ◌%◌, length, take}
use Rattle.quilt_lang.specs.Spelled.{IsWideUpTo}
use Rattle.quilt_lang.proofs.spelled.read_sixteens.Given as goal

abbrev pub invariant-loop-i : goal.invariant-loop-i
invariant-loop-i l = record { within : l.i ≤ length l.line; same : length l.line ≡ length l.bytes; even : l.i % 2 ≡ 0; is : IsWideUpTo l.line l.i (take l.i l.bytes) }

abbrev pub decreases-loop-i : goal.decreases-loop-i
decreases-loop-i l = length l.line - l.i
