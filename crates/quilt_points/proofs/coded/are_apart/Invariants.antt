use Rattle.std.proofs.Common.{ℕ, suc, ◌<◌, get_or}
use Rattle.quilt_points.specs.declared.coded.Coded.{Coded}
use Rattle.quilt_points.proofs.coded.are_apart.Given as goal

abbrev pub invariant-loop-i : goal.invariant-loop-i
invariant-loop-i l = (k : ℕ) (d : Coded) → suc k < l.i → (get_or l.coded k d).code < (get_or l.coded (suc k) d).code
