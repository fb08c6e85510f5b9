use Rattle.std.proofs.Common.{◌≡◌, ◌++◌, take}
use Rattle.quilt_map.proofs.creation.listed.Given as goal

abbrev pub invariant-loop-r : goal.invariant-loop-r
invariant-loop-r l = l.all ≡ l.initial.all ++ take l.r-index l.records
