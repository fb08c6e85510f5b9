use Rattle.quilt_map.proofs.states.Catalogs.{IsCopied}
use Rattle.quilt_map.proofs.entries.copy_of.Given as goal

abbrev pub invariant-loop-e : goal.invariant-loop-e
invariant-loop-e l = IsCopied l.copy l.e-items l.e-index
