use Rattle.quilt_poly.proofs.Strips.{AreDone}
use Rattle.quilt_poly.proofs.bits.settle.Given as goal

abbrev pub invariant-loop-strip : goal.invariant-loop-strip
invariant-loop-strip l = AreDone l.side l.strip l.initial.words l.words
