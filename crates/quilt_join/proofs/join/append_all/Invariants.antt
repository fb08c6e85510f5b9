use Rattle.std.proofs.Common.{◌≡◌, ◌++◌, drop, flat_map}
use Rattle.quilt_join.proofs.join.append_all.Given as goal

abbrev pub invariant-loop-row : goal.invariant-loop-row
invariant-loop-row l = l.pairs ++ flat_map (λ row. row) (drop l.row-index l.lists) ≡ l.fn.pairs ++ flat_map (λ row. row) l.lists
