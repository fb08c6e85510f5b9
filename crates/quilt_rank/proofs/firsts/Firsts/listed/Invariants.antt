use Rattle.std.proofs.Common.{◌≡◌, ◌++◌, map}
use Rattle.quilt_rank.proofs.Adding.{turned}
use Rattle.quilt_rank.proofs.firsts.Firsts.listed.Given as goal

abbrev pub invariant-loop-far : goal.invariant-loop-far
invariant-loop-far l = l.list ++ map turned l.far-iterator ≡ l.self
