use Rattle.std.proofs.Common.{◌≡◌, ◌++◌}
use Rattle.quilt_select.proofs.descent.listed.Given as goal

abbrev pub invariant-loop-id : goal.invariant-loop-id
invariant-loop-id l = l.list ++ l.id-iterator ≡ l.found.entries
