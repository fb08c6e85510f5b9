use Rattle.quilt_world.specs.Tale.{Goes}
use Rattle.quilt_host.specs.Paging.{WritesZeros}
use Rattle.quilt_host.proofs.opened.write_zeros.Given as goal

abbrev pub invariant-loop-i : goal.invariant-loop-i
invariant-loop-i g l = Goes (WritesZeros l.i) (g.S.System.told l.initial.system) (g.S.System.told l.system)
