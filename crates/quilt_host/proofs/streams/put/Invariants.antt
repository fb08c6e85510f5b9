use Rattle.std.proofs.Common.{◌≡◌}
use Rattle.quilt_host.proofs.streams.put.Given as goal

abbrev pub invariant-tries : goal.invariant-tries
invariant-tries g l = g.S.System.told l.system ≡ g.S.System.told l.initial.system
